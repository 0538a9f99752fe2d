use Rattle.module.proofs.Prelude.{◌≡◌, ℕ, List, Option, sym, ap, ◌∙◌, Channel, then_goes, moves_ended, ticks_owner, owner, channels_of, option_map, members_in, plan_of}
use Rattle.lone_partition.proofs.Written.{then_made}
use Rattle.module.proofs.member.Members.move_and_tick.Goals as goal

pub returns : goal.returns
returns g c =
    let plan = plan_of c.args.plan.now in
    let at = c.args.moment.at in
    let ms = members_in g.E.Executor c.args.self.now in
    let rows = channels_of c.as_slice-channels.result.now in
    let same : rows ≡ plan.channels = ap channels_of c.as_slice-channels.ensures.value in
    let split =
    ap (λ (o : Option ℕ). then_goes (moves_ended plan.channels at ms o) (λ ms. ticks_owner at ms (owner plan.schedule at))) (sym c.ended-ended.ensures)
    ∙ ap (λ (rs : List Channel). then_goes (moves_ended rs at ms (option_map (λ p. p.0) c.ended-ended.result)) (λ ms. ticks_owner at ms (owner plan.schedule at))) (sym same)
    ∙ ap (λ (o : Option ℕ). then_goes (moves_ended rows at ms (option_map (λ p. p.0) c.ended-ended.result)) (λ ms. ticks_owner at ms o)) (sym c.owner.ensures) in
    then_made (λ ms. ticks_owner at ms (option_map (λ p. p.0) c.owner.result)) (members_in g.E.Executor c.move_ended.new.self) split c.move_ended.ensures c.tick_owner.ensures
