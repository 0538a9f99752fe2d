use Rattle.std.proofs.Common.{◌≡◌, ◌++◌, drop, map}
use Rattle.table_findings.specs.Ends.{destinations_from, destinations_of}
use Rattle.table_findings.specs.Views.{findings_of, row_of}
use Rattle.window_table.specs.Views.{channel_text, partition_text}
use Rattle.table_findings.proofs.fitting.destinations.Given as goal

abbrev pub invariant-loop-index : goal.invariant-loop-index
invariant-loop-index l =
    findings_of l.found.items ++ destinations_from (map partition_text l.partitions) (channel_text l.channel) (row_of l.row) l.before l.index (map (λ text. text.now) (drop l.index l.ends))
    ≡ findings_of l.fn.found.items ++ destinations_of (map partition_text l.partitions) (channel_text l.channel) (row_of l.row)
