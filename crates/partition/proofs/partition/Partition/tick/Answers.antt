use Rattle.kernel_meaning.specs.Partition.{Member, prepares, spending_phase}
use Rattle.partition.specs.Members.{member_of}
use Rattle.partition.proofs.Phases.{both_phases}
use Rattle.partition.proofs.partition.Partition.tick.Goals as goal

pub returns-clause-moved : goal.returns-clause-moved
returns-clause-moved g c =
    let x = member_of g.E.Executor c.args.self.now c.args.mem.now in
    let y = member_of g.E.Executor c.prepare.new.self c.prepare.new.mem in
    let z = member_of g.E.Executor c.spend_chosen.new.self c.spend_chosen.new.mem in
    let done = c.prepare.ensures.moved in
    both_phases g.L.EventLog x y z (prepares x.engine c.args.moment.at x.world) (λ (v : Member _). spending_phase v.engine c.args.moment.at v.world) c.args.log.now c.prepare.new.log c.spend_chosen.new.log g.met.L.EventLog.more
    (done.0, done.1.0) c.spend_chosen.ensures.moved
