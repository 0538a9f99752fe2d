use Rattle.std.proofs.Common.{rules, sym}
use Rattle.module_meaning.specs.TableRules.{port_of}
use Rattle.window_table.specs.Views.{port_text}
use Rattle.window_table.proofs.Reading.{no-table, no-row, one-row, no-rows-left, next-value, all-seen}
use Rattle.window_table.proofs.written.read_ports.Goals as goal

pub returns-in_default : goal.returns-in_default
returns-in_default c = no-table port_text port_of _ _ _ _ _ c.loop-value.invariant (next-value c.args.values.now c.loop-value.value-index c.value-item.result c.value-item.is (search rules)) c.in_default.ensures

pub returns-in_default-read_port : goal.returns-in_default-read_port
returns-in_default-read_port c = no-row port_text port_of _ _ _ _ _ _ c.loop-value.invariant (next-value c.args.values.now c.loop-value.value-index c.value-item.result c.value-item.is (search rules)) c.in-Some.ensures c.in_default-read_port.ensures

pub loop-value-preserved : goal.loop-value-preserved
loop-value-preserved c = one-row port_text port_of _ _ _ _ _ _ _ _ _ c.loop-value.invariant (next-value c.args.values.now c.loop-value.value-index c.value-item.result c.value-item.is (search rules)) c.in-Some.ensures (sym c.in-Some-read_port.ensures) c.if-is_err.ensures.value c.push.ensures.items

pub returns : goal.returns
returns c = no-rows-left port_text port_of _ _ _ c.loop-value.invariant (all-seen c.args.values.now c.loop-value.value-index (search rules))
