use Rattle.std.proofs.Common.{map, refl}
use Rattle.table_findings.proofs.Turns.{goes_on}
use Rattle.table_findings.specs.Names.{same_at, same_from}
use Rattle.table_findings.specs.Views.{findings_of, named_of}
use Rattle.table_findings.proofs.repeated.same_names.Goals as goal

pub loop-index-preserved : goal.loop-index-preserved
loop-index-preserved c =
    let named = named_of c.args.named in
    let names = map (λ name. name.now) c.args.names.now in
    goes_on (λ i ns. same_from named names i (map (λ name. name.now) ns)) (λ i n. same_at named names i n.now) c.args.names.now c.loop-index.index _ (findings_of c.loop-index.found.items)
    (findings_of c.same_at.new.found.items) _ (λ y ys. refl) c.loop-index-test.true c.in_ok-same_at.ensures c.loop-index.invariant
