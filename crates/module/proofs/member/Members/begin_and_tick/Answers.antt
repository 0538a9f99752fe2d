use Rattle.module.proofs.Prelude.{module_tick, members_in, plan_of}
use Rattle.module.proofs.Written.{begun_made}
use Rattle.module.proofs.member.Members.begin_and_tick.Goals as goal

pub returns : goal.returns
returns g c =
    begun_made c.args.moment.at (λ a ms. module_tick (plan_of c.args.plan.now) a c.args.lines.now ms) (members_in g.E.Executor c.begin.new.self) c.begin.ensures c.tick.ensures
