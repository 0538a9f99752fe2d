use Rattle.std.proofs.Common.{◌≡◌, ◌++◌, map, drop, false, pos}
use Rattle.std.specs.List.{list_any}
use Rattle.module_meaning.specs.TableRules.{exceeds_window, is_unknown_window, overlaps_after, window_row}
use Rattle.window_table.specs.Views.{partition_text, window_text}
use Rattle.window_table.proofs.numbered.window_rows.Given as goal

abbrev pub invariant-loop-window : goal.invariant-loop-window
invariant-loop-window l = record {
  numbers : list_any exceeds_window (map window_text (drop l.window-index l.windows)) ≡ false;
  known : list_any (is_unknown_window (map partition_text l.partitions.rows.now)) (map window_text (drop l.window-index l.windows)) ≡ false;
  left : overlaps_after (pos l.frame) (pos 0) (map window_text l.windows) ≡ overlaps_after (pos l.frame) (pos l.end) (map window_text (drop l.window-index l.windows));
  built : map (window_row (map partition_text l.partitions.rows.now)) (map window_text l.windows) ≡ l.rows.items ++ map (window_row (map partition_text l.partitions.rows.now)) (map window_text (drop l.window-index l.windows));
}
