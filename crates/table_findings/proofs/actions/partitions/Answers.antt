use Rattle.std.proofs.Common.{refl}
use Rattle.table_findings.proofs.Turns.{item_goes_on}
use Rattle.table_findings.specs.Health.{partition}
use Rattle.table_findings.specs.Shape.{each}
use Rattle.table_findings.specs.Views.{findings_of}
use Rattle.toml.specs.View.{items_view, view}
use Rattle.table_findings.proofs.actions.partitions.Goals as goal

pub loop-index-preserved : goal.loop-index-preserved
loop-index-preserved c =
    item_goes_on (λ i vs. each partition i (items_view vs)) (λ i v. partition i (view v)) c.args.values.now c.loop-index.index c.index-values-index.result (findings_of c.loop-index.found.items)
    (findings_of c.partition.new.found.items) _ (λ y ys. refl) c.loop-index-test.true c.index-values-index.is c.in_ok-partition.ensures c.loop-index.invariant
