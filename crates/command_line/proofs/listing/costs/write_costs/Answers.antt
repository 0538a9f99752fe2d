use Rattle.std.proofs.Common.{◌≡◌, ◌+◌, List, ◌++◌, drop, flat_map, ap, sym, ◌∙◌}
use Rattle.pal.specs.declared.report.BodyCost.{BodyCost}
use Rattle.command_line.specs.Costs.{cost_line, costs_text}
use Rattle.command_line.proofs.UnderWay.{cut_off, goes_on, next_of}
use Rattle.command_line.proofs.listing.costs.write_costs.Goals as goal

pub returns-in_err-write_bodies : goal.returns-in_err-write_bodies
returns-in_err-write_bodies g c =
    let costs = c.args.costs.now in
    let i = c.loop-partition.partition-index in
    let lines = flat_map (cost_line c.partition-item.result.partition) in
    let rest = costs_text (drop (i + 1) costs) in
    let split : costs_text (drop i costs) ≡ lines c.deref.result.now ++ rest =
    ap costs_text (next_of costs i c.partition-item.result c.loop-partition-test.true c.partition-item.is) ∙ ap (λ (bodies : List BodyCost). lines bodies ++ rest) (sym c.deref.ensures.value) in
    cut_off (costs_text costs) (costs_text (drop i costs)) (lines c.deref.result.now) rest _ _ _ _ _ _ c.from_residual.result split c.loop-partition.invariant c.in_err-write_bodies.ensures c.from_residual.ensures.0

pub loop-partition-preserved : goal.loop-partition-preserved
loop-partition-preserved g c =
    let costs = c.args.costs.now in
    let i = c.loop-partition.partition-index in
    let lines = flat_map (cost_line c.partition-item.result.partition) in
    let rest = costs_text (drop (i + 1) costs) in
    let split : costs_text (drop i costs) ≡ lines c.deref.result.now ++ rest =
    ap costs_text (next_of costs i c.partition-item.result c.loop-partition-test.true c.partition-item.is) ∙ ap (λ (bodies : List BodyCost). lines bodies ++ rest) (sym c.deref.ensures.value) in
    goes_on (costs_text costs) (costs_text (drop i costs)) (lines c.deref.result.now) rest _ _ _ _ _ _ split c.loop-partition.invariant c.in_ok-write_bodies.ensures
