use Rattle.std.proofs.Common.{◌≡◌, map, drop}
use Rattle.std.specs.List.{list_any}
use Rattle.module_meaning.specs.TableRules.{same}
use Rattle.window_table.specs.Views.{partition_text}
use Rattle.window_table.proofs.names.has_partition.Given as goal

abbrev pub invariant-loop-partition : goal.invariant-loop-partition
invariant-loop-partition l = list_any (λ b. same l.name b.name) (map partition_text l.partitions) ≡ list_any (λ b. same l.name b.name) (map partition_text (drop l.partition-index l.partitions))
