use Rattle.std.proofs.Common.{◌≡◌, ◌++◌, drop}
use Rattle.toml.specs.View.{items_view}
use Rattle.table_findings.specs.Shape.{channel, each}
use Rattle.table_findings.specs.Views.{findings_of}
use Rattle.table_findings.proofs.forms.channels.Given as goal

abbrev pub invariant-loop-index : goal.invariant-loop-index
invariant-loop-index l =
    findings_of l.found.items ++ each channel l.index (items_view (drop l.index l.values)) ≡ findings_of l.fn.found.items ++ each channel 0 (items_view l.values)
