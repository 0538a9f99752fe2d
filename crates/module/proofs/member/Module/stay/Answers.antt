use Rattle.module.proofs.Prelude.{◌≡◌, ◌+◌, ap, sym, ◌∙◌, rules, arith, members_in, plan_of}
use Rattle.module.proofs.Edges.{owned_longer, quiet_longer}
use Rattle.module.proofs.member.Module.stay.Goals as goal

pub loop-ticks-preserved : goal.loop-ticks-preserved
loop-ticks-preserved g c =
    let plan = plan_of c.args.self.now.image in
    let ms = members_in g.E.Executor c.args.self.now.members in
    let origin = c.args.origin.0 in
    let now = c.args.self.now.now.0 in
    let p = c.args.partition.0 in
    let i = c.loop-ticks.invariant in
    let ticks = c.loop-ticks.ticks in
    let more = c.at_most-ticks.result in
    let span = c.span-next.ensures in
    let few = c.at_most-ticks.ensures.ticks in
    let start = now + c.from.result in
    let here : start ≡ now + ticks = ap (λ n. now + n) c.from.ensures in
    let on = c.goes_on.ensures (search rules) in
    let none = c.has_source.ensures (search rules) in
    record {
      few = omega (arith, i.few, c.at_most-ticks.ensures.within);
      some = omega (arith, i.some);
      owner = owned_longer plan.schedule origin now ticks start more p here i.owner (sym span.owner ∙ on.0) (λ j below. span.stays j (omega (arith, below, few)));
      ended = quiet_longer plan origin now ticks start more p ms here i.ended (sym span.ended ∙ on.1) none (λ j some below. span.none_ends j some (omega (arith, below, few)));
    }
