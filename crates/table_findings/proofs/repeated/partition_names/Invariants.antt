use Rattle.std.proofs.Common.{◌≡◌, ◌++◌, drop, map}
use Rattle.table_findings.specs.Names.{partition_names}
use Rattle.window_table.specs.Views.{partition_text}
use Rattle.table_findings.proofs.repeated.partition_names.Given as goal

abbrev pub invariant-loop-partition : goal.invariant-loop-partition
invariant-loop-partition l =
    map (λ name. name.now) l.names.items ++ partition_names (map partition_text (drop l.partition-index l.partitions)) ≡ partition_names (map partition_text l.partitions)
