use Rattle.std.proofs.Common.{length}
use Rattle.trace_stays.proofs.Followed.{within_gone}
use Rattle.trace_stays.proofs.lanes.Lanes.leave.Goals as goal

pub invariant_of-self : goal.invariant_of-self
invariant_of-self c =
    let old = c.args.self.now in
    record { within = within_gone (length old.partitions.items) c.args.partition c.args.next c.args.tick.0 old.processes.items c.leave_all.new.lanes.items c.leave_all.ensures old.within }
