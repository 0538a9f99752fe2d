use Rattle.std.proofs.Common.{refl}
use Rattle.table_findings.proofs.Turns.{item_goes_on}
use Rattle.table_findings.specs.Shape.{channel, each}
use Rattle.table_findings.specs.Views.{findings_of}
use Rattle.toml.specs.View.{items_view, view}
use Rattle.table_findings.proofs.forms.channels.Goals as goal

pub loop-index-preserved : goal.loop-index-preserved
loop-index-preserved c =
    item_goes_on (λ i vs. each channel i (items_view vs)) (λ i v. channel i (view v)) c.args.values.now c.loop-index.index c.index-values-index.result (findings_of c.loop-index.found.items)
    (findings_of c.channel.new.found.items) _ (λ y ys. refl) c.loop-index-test.true c.index-values-index.is c.in_ok-channel.ensures c.loop-index.invariant
