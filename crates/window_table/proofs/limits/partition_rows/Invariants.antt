use Rattle.std.proofs.Common.{◌≡◌, ◌++◌, map, drop}
use Rattle.std.specs.List.{list_any}
use Rattle.module_meaning.specs.TableRules.{exceeds_partition, partition_row}
use Rattle.window_table.specs.Views.{partition_text, partition_view}
use Rattle.window_table.proofs.limits.partition_rows.Given as goal

abbrev pub invariant-loop-partition : goal.invariant-loop-partition
invariant-loop-partition l = record {
  within : list_any (exceeds_partition l.frame) (map partition_text l.partitions) ≡ list_any (exceeds_partition l.frame) (map partition_text (drop l.partition-index l.partitions));
  built : map partition_row (map partition_text l.partitions) ≡ map partition_view l.rows.items ++ map partition_row (map partition_text (drop l.partition-index l.partitions));
}
