use Rattle.module.proofs.Prelude.{◌≡◌, ◌<◌, ◌≤◌, ◌+◌, ◌∙◌, ℕ, List, ◌∷◌, refl, sym, ap, arith, rules, of_tick, DeviceLine, AreFrom}
use Rattle.std.proofs.Common.{subst}
use Rattle.module.proofs.Spaced.{earlier_gone, from_first}
use Rattle.module.proofs.ticks.from_tick.Goals as goal

pub loop-first-init : goal.loop-first-init
loop-first-init c = record { order = c.requires; kept = λ t above. refl }

pub loop-first-preserved : goal.loop-first-preserved
loop-first-preserved c =
    let first = c.in-Some.first.now in
    let rest = c.in-Some.rest.now in
    let split : c.loop-first.left.now ≡ first ∷ rest = search rules in
    let order = subst (AreFrom 0) split c.loop-first.invariant.order in
    let sooner : first.tick.0 < c.args.tick = search (rules, arith) in
    record {
      order = from_first first.tick.0 rest order.1;
      kept = λ t above. earlier_gone t first rest (omega (arith, sooner, above)) ∙ ap (of_tick t) (sym split) ∙ c.loop-first.invariant.kept t above;
    }
