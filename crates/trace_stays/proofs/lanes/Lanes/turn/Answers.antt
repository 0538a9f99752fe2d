use Rattle.std.proofs.Common.{length, refl}
use Rattle.std.proofs.lemmas.Result.{on_ok_weaker}
use Rattle.trace_stays.specs.declared.next.Next.TheVariants.{Enters}
use Rattle.trace_stays.proofs.Followed.{has_turned, within_turned}
use Rattle.trace_stays.proofs.lanes.Lanes.turn.Goals as goal

pub invariant_of-self : goal.invariant_of-self
invariant_of-self c =
    let mid = c.process_place.new.self in
    record { within = rw c.turn_at.ensures.lanes (within_turned (length mid.partitions.items) c.in_ok-place.place (Enters c.args.state) c.args.tick.0 mid.processes.items mid.within) }

pub returns : goal.returns
returns c =
    let mid = c.process_place.new.self in
    on_ok_weaker c.turn_at.result
    (λ more. has_turned c.args.self.now mid _ c.args.partition.now c.args.who.now c.args.state c.args.tick.0 c.in_ok-place.place c.args.ended.now.items c.turn_at.new.ended.items
    c.in_ok-place.ensures.kept c.in_ok-place.ensures.places c.in_ok-place.ensures.place refl c.turn_at.ensures.lanes more) c.turn_at.ensures.ended
