use Rattle.std.proofs.Common.{Option, ◌+◌, ◌++◌, ◌∙◌, ap, refl}
use Rattle.trace_stays.specs.Following.{mode_over, modes_left}
use Rattle.trace_stays.specs.Stays.{mode_ended}
use Rattle.trace_stays.specs.declared.stay.ModeStay.{ModeStay}
use Rattle.trace_stays.proofs.Steps.{added, all_added}
use Rattle.trace_stays.proofs.following.end_modes.Goals as goal

pub loop-place-preserved : goal.loop-place-preserved
unfolding modes_left
loop-place-preserved c =
    let place = c.loop-place.place in
    let lane = c.index-lanes-place.result in
    let until = c.args.until.0 in
    added (modes_left place until) (modes_left (place + 1) until) (mode_over place (mode_ended lane.watch.held until)) c.args.lanes.now place lane c.loop-place.ended.items
    c.add_mode_stay.new.ended.items _ c.loop-place-test.true c.index-lanes-place.is refl
    (c.in_ok-add_mode_stay.ensures ∙ ap (λ (s : Option ModeStay). c.loop-place.ended.items ++ mode_over place s) c.last_stay.ensures) c.loop-place.invariant

pub returns : goal.returns
unfolding modes_left
returns c =
    all_added (modes_left c.loop-place.place c.args.until.0) c.args.lanes.now c.loop-place.place c.loop-place.ended.items _ refl c.loop-place-test.false c.loop-place.invariant
