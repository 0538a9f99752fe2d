use Rattle.std.proofs.Common.{Global, List, Some, Vec, ◌++◌, ap, refl, sym, ◌∙◌}
use Rattle.trace_stays.specs.Following.{over_with}
use Rattle.trace_stays.specs.declared.lanes.Ended.{Ended}
use Rattle.trace_stays.specs.declared.lanes.PartitionLane.{PartitionLane}
use Rattle.trace_stays.specs.declared.next.Next.TheVariants.{Gone}
use Rattle.trace_stays.proofs.Followed.{both_ok, has_entered, has_gone_on}
use Rattle.trace_stays.proofs.lanes.Lanes.enter.Goals as goal

pub returns-then-not-starts_again : goal.returns-then-not-starts_again
returns-then-not-starts_again c =
    has_gone_on c.args.self.now c.partition_place.new.self _ c.args.partition.now c.args.mode c.args.tick.0 c.in_ok-place.place c.args.ended.now.items c.enter_at.new.ended.items
    (sym c.starts_again.ensures ∙ c.if-not-starts_again.true) c.in_ok-place.ensures.kept c.in_ok-place.ensures.places c.in_ok-place.ensures.place c.in_ok-enter_at.ensures.lanes refl c.in_ok-enter_at.ensures.ended

pub returns : goal.returns
returns c =
    let mid = c.partition_place.new.self in
    let place = c.in_ok-place.place in
    let t = c.args.tick.0 in
    both_ok c.leave.result
    (λ left more. has_entered c.args.self.now mid c.leave.new.self c.args.partition.now c.args.mode t place c.args.ended.now.items c.leave.new.ended.items
    (sym c.starts_again.ensures ∙ c.if-not-starts_again.false) c.in_ok-place.ensures.kept c.in_ok-place.ensures.places c.in_ok-place.ensures.place
    (ap (λ (v : Vec PartitionLane Global). v.items) c.leave.ensures.partitions ∙ c.in_ok-enter_at.ensures.lanes) left
    (more ∙ ap (λ (es : List Ended). es ++ over_with 0 (Some place) Gone t mid.processes.items) c.in_ok-enter_at.ensures.ended)) c.leave.ensures.processes c.leave.ensures.ended
