use Rattle.std.proofs.Common.{◌≡◌, ◌++◌, drop, map}
use Rattle.table_findings.specs.Names.{destinations_of}
use Rattle.table_findings.specs.Views.{findings_of, row_of}
use Rattle.window_table.specs.Views.{partition_text}
use Rattle.table_findings.proofs.unknown.destinations.Given as goal

abbrev pub invariant-loop-index : goal.invariant-loop-index
invariant-loop-index l =
    findings_of l.found.items ++ destinations_of (map partition_text l.partitions) (row_of l.channel) l.index (map (λ end. end.now) (drop l.index l.ends))
    ≡ findings_of l.fn.found.items ++ destinations_of (map partition_text l.partitions) (row_of l.channel) 0 (map (λ end. end.now) l.ends)
