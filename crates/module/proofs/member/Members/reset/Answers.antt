use Rattle.module.proofs.Prelude.{refl, as_origin, starts_all, members_in}
use Rattle.apex_types.specs.declared.codes.StartCondition.TheVariants.{HmModuleRestart}
use Rattle.lone_partition.proofs.Written.{then_made}
use Rattle.module.proofs.member.Members.reset.Goals as goal

pub returns-clause-written : goal.returns-clause-written
returns-clause-written g c =
    then_made (starts_all (as_origin c.args.moment.at) HmModuleRestart) (members_in g.E.Executor c.args.self.now) refl c.tell_fault.ensures c.start_all.ensures
