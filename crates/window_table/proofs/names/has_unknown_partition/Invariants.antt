use Rattle.std.proofs.Common.{◌≡◌, map, drop}
use Rattle.std.specs.List.{list_any}
use Rattle.module_meaning.specs.TableRules.{is_unknown_window}
use Rattle.window_table.specs.Views.{partition_text, window_text}
use Rattle.window_table.proofs.names.has_unknown_partition.Given as goal

abbrev pub invariant-loop-window : goal.invariant-loop-window
invariant-loop-window l = list_any (is_unknown_window (map partition_text l.partitions.rows.now)) (map window_text l.windows) ≡ list_any (is_unknown_window (map partition_text l.partitions.rows.now)) (map window_text (drop l.window-index l.windows))
