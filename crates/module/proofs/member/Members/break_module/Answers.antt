use Rattle.module.proofs.Prelude.{◌≡◌, rules, members_in}
use Rattle.apex_types.specs.declared.codes.ModuleAction.TheVariants.{Ignore, Shutdown, Reset}
use Rattle.module.proofs.Shutdown.{fault_ignored, fault_shuts_down, fault_resets}
use Rattle.module.proofs.member.Members.break_module.Goals as goal

pub returns-in-Ignore : goal.returns-in-Ignore
returns-in-Ignore g c =
    let is : c.args.action ≡ Ignore = search rules in
    fault_ignored (members_in g.E.Executor c.args.self.now) c.args.moment.at c.args.action is c.tell_fault.ensures

pub returns-in-Shutdown : goal.returns-in-Shutdown
returns-in-Shutdown g c =
    let is : c.args.action ≡ Shutdown = search rules in
    fault_shuts_down (members_in g.E.Executor c.args.self.now) c.args.moment.at c.args.action is c.tell_fault-in-Shutdown.ensures

pub returns-in-Reset : goal.returns-in-Reset
returns-in-Reset g c =
    let is : c.args.action ≡ Reset = search rules in
    fault_resets (members_in g.E.Executor c.args.self.now) c.args.moment.at c.reset.result.at c.args.action is c.reset.ensures.origin c.reset.ensures.written
