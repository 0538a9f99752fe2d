use Rattle.std.proofs.Common.{rules, sym}
use Rattle.module_meaning.specs.TableRules.{window_of}
use Rattle.window_table.specs.Views.{window_text}
use Rattle.window_table.proofs.Reading.{no-table, no-row, one-row, no-rows-left, next-value, all-seen}
use Rattle.window_table.proofs.written.read_windows.Goals as goal

pub returns-in_default : goal.returns-in_default
returns-in_default c = no-table window_text window_of _ _ _ _ _ c.loop-value.invariant (next-value c.args.values.now c.loop-value.value-index c.value-item.result c.value-item.is (search rules)) c.in_default.ensures

pub returns-in_default-read_window : goal.returns-in_default-read_window
returns-in_default-read_window c = no-row window_text window_of _ _ _ _ _ _ c.loop-value.invariant (next-value c.args.values.now c.loop-value.value-index c.value-item.result c.value-item.is (search rules)) c.in-Some.ensures c.in_default-read_window.ensures

pub loop-value-preserved : goal.loop-value-preserved
loop-value-preserved c = one-row window_text window_of _ _ _ _ _ _ _ _ _ c.loop-value.invariant (next-value c.args.values.now c.loop-value.value-index c.value-item.result c.value-item.is (search rules)) c.in-Some.ensures (sym c.in-Some-read_window.ensures) c.if-is_err.ensures.value c.push.ensures.items

pub returns : goal.returns
returns c = no-rows-left window_text window_of _ _ _ c.loop-value.invariant (all-seen c.args.values.now c.loop-value.value-index (search rules))
