use Rattle.std.proofs.Common.{◌≡◌, ◌++◌, drop}
use Rattle.toml.specs.View.{items_view}
use Rattle.table_findings.specs.Health.{partition}
use Rattle.table_findings.specs.Shape.{each}
use Rattle.table_findings.specs.Views.{findings_of}
use Rattle.table_findings.proofs.actions.partitions.Given as goal

abbrev pub invariant-loop-index : goal.invariant-loop-index
invariant-loop-index l =
    findings_of l.found.items ++ each partition l.index (items_view (drop l.index l.values)) ≡ findings_of l.fn.found.items ++ each partition 0 (items_view l.values)
