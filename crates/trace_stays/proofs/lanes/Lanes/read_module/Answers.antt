use Rattle.std.proofs.Common.{Global, None, Vec, ap, subst, sym, ◌∙◌}
use Rattle.apex_types.specs.declared.event.EventKind.{EventKind}
use Rattle.trace_stays.specs.Following.{HasRead}
use Rattle.trace_stays.specs.declared.lanes.PartitionLane.{PartitionLane}
use Rattle.trace_stays.proofs.Followed.{both_ok, has_reset}
use Rattle.trace_stays.proofs.lanes.Lanes.read_module.Goals as goal

pub returns-then-resets : goal.returns-then-resets
returns-then-resets c =
    let old = c.args.self.now in
    let new = c.leave.new.self in
    let before = c.args.ended.now.items in
    let after = c.leave.new.ended.items in
    both_ok c.leave.result
    (λ left more. subst (λ (k : EventKind). HasRead None k c.args.tick.0 old new before after) (sym c.in-Error.is)
    (has_reset old new _ _ _ c.args.tick.0 before after (sym c.resets.ensures ∙ c.if-resets.true) (ap (λ (v : Vec PartitionLane Global). v.items) c.leave.ensures.partitions) left more))
    c.leave.ensures.processes c.leave.ensures.ended
