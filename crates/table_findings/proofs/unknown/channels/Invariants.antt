use Rattle.std.proofs.Common.{◌≡◌, ◌++◌, drop, map}
use Rattle.table_findings.specs.Names.{ends_from}
use Rattle.table_findings.specs.Views.{findings_of}
use Rattle.window_table.specs.Views.{channel_text, partition_text}
use Rattle.table_findings.proofs.unknown.channels.Given as goal

abbrev pub invariant-loop-index : goal.invariant-loop-index
invariant-loop-index l =
    findings_of l.found.items ++ ends_from (map partition_text l.partitions) l.index (map channel_text (drop l.index l.channels))
    ≡ findings_of l.fn.found.items ++ ends_from (map partition_text l.partitions) 0 (map channel_text l.channels)
