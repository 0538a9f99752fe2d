use Rattle.std.proofs.Common.{◌≡◌, ◌+◌, List, ℕ, ◌++◌, drop, flat_map, ap, sym, ◌∙◌}
use Rattle.command_line.specs.Costs.{cost_line}
use Rattle.command_line.proofs.UnderWay.{cut_off, goes_on, next_of}
use Rattle.command_line.proofs.listing.costs.write_bodies.Goals as goal

pub returns-in_err-write_line : goal.returns-in_err-write_line
returns-in_err-write_line g c =
    let text_of = flat_map (cost_line c.args.partition.now) in
    let bodies = c.args.bodies.now in
    let i = c.loop-body.body-index in
    let rest = text_of (drop (i + 1) bodies) in
    let split : text_of (drop i bodies) ≡ c.cost_line.result.items ++ rest =
    ap text_of (next_of bodies i c.body-item.result c.loop-body-test.true c.body-item.is) ∙ ap (λ (line : List ℕ). line ++ rest) (sym c.cost_line.ensures) in
    cut_off (text_of bodies) (text_of (drop i bodies)) c.cost_line.result.items rest _ _ _ _ _ _ c.from_residual.result split c.loop-body.invariant c.in_err-write_line.ensures c.from_residual.ensures.0

pub loop-body-preserved : goal.loop-body-preserved
loop-body-preserved g c =
    let text_of = flat_map (cost_line c.args.partition.now) in
    let bodies = c.args.bodies.now in
    let i = c.loop-body.body-index in
    let rest = text_of (drop (i + 1) bodies) in
    let split : text_of (drop i bodies) ≡ c.cost_line.result.items ++ rest =
    ap text_of (next_of bodies i c.body-item.result c.loop-body-test.true c.body-item.is) ∙ ap (λ (line : List ℕ). line ++ rest) (sym c.cost_line.ensures) in
    goes_on (text_of bodies) (text_of (drop i bodies)) c.cost_line.result.items rest _ _ _ _ _ _ split c.loop-body.invariant c.in_ok-write_line.ensures
