use Rattle.std.proofs.Common.{◌≡◌, ◌++◌, drop, map}
use Rattle.table_findings.specs.Schedule.{without_release_from}
use Rattle.table_findings.specs.Views.{findings_of}
use Rattle.window_table.specs.Views.{partition_text, window_text}
use Rattle.table_findings.proofs.schedule.without_release_from.Given as goal

abbrev pub invariant-loop-index : goal.invariant-loop-index
invariant-loop-index l =
    findings_of l.found.items ++ without_release_from (map window_text l.windows) l.index (map partition_text (drop l.index l.partitions))
    ≡ findings_of l.fn.found.items ++ without_release_from (map window_text l.windows) 0 (map partition_text l.partitions)
