use Rattle.kernel_meaning.specs.Partition.{Member, choice_phase, due_phase}
use Rattle.partition.specs.Members.{member_of}
use Rattle.partition.proofs.Phases.{both_recorded}
use Rattle.partition.proofs.partition.Partition.prepare.Goals as goal

pub returns-clause-moved : goal.returns-clause-moved
returns-clause-moved g c =
    let x = member_of g.E.Executor c.args.self.now c.args.mem.now in
    let y = member_of g.E.Executor c.treat_due.new.self c.treat_due.new.mem in
    let z = member_of g.E.Executor c.choose.new.self c.choose.new.mem in
    both_recorded g.L.EventLog x y z (due_phase x.engine c.args.moment.at x.world) (λ (v : Member _). choice_phase v.engine c.args.moment.at v.world) c.args.log.now c.treat_due.new.log c.choose.new.log
    c.args.self.now.room c.treat_due.new.self.room c.choose.new.self.room g.met.L.EventLog.more
    c.treat_due.ensures.moved c.choose.ensures.moved
