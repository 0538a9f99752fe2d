use Rattle.module.proofs.Prelude.{List, refl, ap, DeviceLine, then_runs, inputs_all, moves_and_ticks, members_in, plan_of}
use Rattle.lone_partition.proofs.Written.{then_runs_made}
use Rattle.module.proofs.member.Members.tick.Goals as goal

pub returns : goal.returns
returns g c =
    let plan = plan_of c.args.plan.now in
    let ms = members_in g.E.Executor c.args.self.now in
    let ran = c.in_ok-last.ensures in
    let split = ap (λ (ls : List DeviceLine). then_runs (inputs_all plan c.args.moment.at ls ms) (moves_and_ticks plan)) c.requires in
    then_runs_made (moves_and_ticks plan) c.in_ok-last.last.at (members_in g.E.Executor c.input_all.new.self) split ran.at ran.made (record { at = refl; made = c.move_and_tick.ensures })
