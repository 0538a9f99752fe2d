use Rattle.std.proofs.Common.{◌≡◌, ◌++◌, drop, map}
use Rattle.table_findings.specs.Limits.{partitions_from}
use Rattle.table_findings.specs.Views.{findings_of}
use Rattle.window_table.specs.Views.{partition_text}
use Rattle.table_findings.proofs.bounds.partitions.Given as goal

abbrev pub invariant-loop-index : goal.invariant-loop-index
invariant-loop-index l =
    findings_of l.found.items ++ partitions_from l.frame l.index (map partition_text (drop l.index l.partitions))
    ≡ findings_of l.fn.found.items ++ partitions_from l.frame 0 (map partition_text l.partitions)
