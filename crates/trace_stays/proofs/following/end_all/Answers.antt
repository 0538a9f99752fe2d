use Rattle.std.proofs.Common.{◌+◌, [], ◌++◌, Bool, Option, Vec, Global, ap, sym, ◌∙◌, refl, drop, append-nil}
use Rattle.std.specs.Prelude.{if◌then◌else◌}
use Rattle.trace_stays.specs.Following.{over_with, state_over}
use Rattle.trace_stays.specs.Stays.{stay_ended}
use Rattle.trace_stays.specs.declared.lanes.Ended.{Ended}
use Rattle.trace_stays.specs.declared.stay.Stay.{Stay}
use Rattle.trace_stays.proofs.Steps.{added, all_added}
use Rattle.trace_stays.proofs.following.end_all.Goals.{then-is_among+in_ok-add_stay, else-is_among}
use Rattle.trace_stays.proofs.following.end_all.Goals as goal

pub loop-place-preserved : goal.loop-place-preserved
unfolding over_with
loop-place-preserved c =
    let place = c.loop-place.place in
    let lane = c.index-lanes-place.result in
    let among = c.args.partition in
    let next = c.args.next in
    let tick = c.args.tick.0 in
    let old = c.loop-place.ended.items in
    let own = state_over place (stay_ended lane.watch.held next tick) in
    let behind = over_with (place + 1) among next tick in
    let rest = behind (drop (place + 1) c.args.lanes.now) in
    elim c.if-is_among.branch [
      | then-is_among+in_ok-add_stay w ↦
          added (over_with place among next tick) behind own c.args.lanes.now place lane old c.if-is_among.ended.items _ c.loop-place-test.true c.index-lanes-place.is
          (ap (λ (b : Bool). (if b then own else []) ++ rest) (sym c.is_among.ensures ∙ w.if-is_among.true))
          (ap (λ (v : Vec Ended Global). v.items) w.ended-is ∙ w.in_ok-add_stay.ensures ∙ ap (λ (s : Option Stay). old ++ state_over place s) w.turn.ensures.ended) c.loop-place.invariant
      | else-is_among w ↦
          added (over_with place among next tick) behind [] c.args.lanes.now place lane old c.if-is_among.ended.items _ c.loop-place-test.true c.index-lanes-place.is
          (ap (λ (b : Bool). (if b then own else []) ++ rest) (sym c.is_among.ensures ∙ w.if-is_among.false)) (ap (λ (v : Vec Ended Global). v.items) w.ended-is ∙ sym (append-nil old)) c.loop-place.invariant
    ]

pub returns : goal.returns
unfolding over_with
returns c =
    all_added (over_with c.loop-place.place c.args.partition c.args.next c.args.tick.0) c.args.lanes.now c.loop-place.place c.loop-place.ended.items _ refl c.loop-place-test.false c.loop-place.invariant
