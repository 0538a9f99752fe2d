use Rattle.std.proofs.Common.{Option, ◌+◌, ◌++◌, ◌∙◌, ap, refl}
use Rattle.trace_stays.specs.Following.{state_over, states_left}
use Rattle.trace_stays.specs.Stays.{stay_left}
use Rattle.trace_stays.specs.declared.stay.Stay.{Stay}
use Rattle.trace_stays.proofs.Steps.{added, all_added}
use Rattle.trace_stays.proofs.following.end_states.Goals as goal

pub loop-place-preserved : goal.loop-place-preserved
unfolding states_left
loop-place-preserved c =
    let place = c.loop-place.place in
    let lane = c.index-lanes-place.result in
    let until = c.args.until.0 in
    added (states_left place until) (states_left (place + 1) until) (state_over place (stay_left lane.watch.held until)) c.args.lanes.now place lane c.loop-place.ended.items
    c.add_stay.new.ended.items _
    c.loop-place-test.true c.index-lanes-place.is refl (c.in_ok-add_stay.ensures ∙ ap (λ (s : Option Stay). c.loop-place.ended.items ++ state_over place s) c.last_stay.ensures)
    c.loop-place.invariant

pub returns : goal.returns
unfolding states_left
returns c =
    all_added (states_left c.loop-place.place c.args.until.0) c.args.lanes.now c.loop-place.place c.loop-place.ended.items _ refl c.loop-place-test.false c.loop-place.invariant
