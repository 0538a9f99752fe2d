use Rattle.std.proofs.Common.{Global, Vec, ap, sym, ◌∙◌}
use Rattle.trace_stays.specs.declared.lanes.PartitionLane.{PartitionLane}
use Rattle.trace_stays.proofs.Followed.{both_ok, has_cleared}
use Rattle.trace_stays.proofs.lanes.Lanes.fail.Goals as goal

pub returns : goal.returns
returns c =
    both_ok c.leave.result
    (λ left more who. has_cleared c.args.self.now c.partition_place.new.self c.leave.new.self c.args.partition.now c.args.error who c.args.response c.args.tick.0 c.in_ok-place.place
    c.args.ended.now.items c.leave.new.ended.items (sym c.clears.ensures ∙ c.if-not-clears.false) c.in_ok-place.ensures.kept c.in_ok-place.ensures.places c.in_ok-place.ensures.place
    (ap (λ (v : Vec PartitionLane Global). v.items) c.leave.ensures.partitions) left more) c.leave.ensures.processes c.leave.ensures.ended
