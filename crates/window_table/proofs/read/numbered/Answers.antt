use Rattle.std.proofs.Common.{◌≡◌, false, map, subst, arith}
use Rattle.std.specs.List.{list_any}
use Rattle.std.proofs.lemmas.Int.{ints, to_z-of_z}
use Rattle.module_meaning.specs.TableRules.{exceeds_window, partition_row}
use Rattle.kernel_laws.proofs.TableWindows.{windows_in_order}
use Rattle.window_table.specs.Orders.{AreApart}
use Rattle.window_table.specs.Views.{partition_text, partition_view, window_text, table_text}
use Rattle.window_table.proofs.Apart.{apart}
use Rattle.window_table.proofs.Rules.{frame_kept, few_partitions, channels_within, windows_within, windows_known, ends_known, rows_few}
use Rattle.window_table.proofs.read.numbered.Goals as goal

pub channel_rows-requires-clause-name : goal.channel_rows-requires-clause-name
channel_rows-requires-clause-name c = rw c.as_slice.ensures.value (channels_within (table_text c.args.written.now) c.requires.within)

pub channel_rows-requires-clause-known : goal.channel_rows-requires-clause-known
channel_rows-requires-clause-known c = rw (c.few_partitions-rows.ensures, c.as_slice.ensures.value) (ends_known (table_text c.args.written.now) c.requires.known)

pub window_rows-requires-clause-numbers : goal.window_rows-requires-clause-numbers
window_rows-requires-clause-numbers c = rw c.as_slice-2.ensures.value (windows_within (table_text c.args.written.now) c.requires.within)

pub window_rows-requires-clause-known : goal.window_rows-requires-clause-known
window_rows-requires-clause-known c = rw (c.few_partitions-rows.ensures, c.as_slice-2.ensures.value) (windows_known (table_text c.args.written.now) c.requires.known)

pub frame_row-frame-requires : goal.frame_row-frame-requires
frame_row-frame-requires c =
    let kept = frame_kept (table_text c.args.written.now) c.requires.counts in
    grind (arith, ints, to_z-of_z)

pub invariant_of-result-clause-apart : goal.invariant_of-result-clause-apart
invariant_of-result-clause-apart c =
    let numbers : list_any exceeds_window (map window_text c.as_slice-2.result.now) ≡ false = rw c.as_slice-2.ensures.value (windows_within (table_text c.args.written.now) c.requires.within) in
    subst (AreApart c.frame_row-frame.result) c.in_ok-windows.ensures.kept.1
    (apart c.frame_row-frame.result _ (windows_in_order (map partition_text c.few_partitions-rows.result.rows.now) c.frame_row-frame.result 0 (map window_text c.as_slice-2.result.now) c.in_ok-windows.ensures.kept.0 numbers))

pub invariant_of-result-2 : goal.invariant_of-result-2
invariant_of-result-2 c = record { few = rows_few partition_row partition_view (map partition_text c.args.written.now.partitions.items) c.args.partitions.items c.requires.rows (few_partitions (table_text c.args.written.now) c.requires.counts) }
