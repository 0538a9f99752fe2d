use Rattle.std.proofs.Common.{◌≡◌, ◌++◌, append-nil, length, List, Some, ap, refl, rules, slice_get, subst, sym, ◌∙◌}
use Rattle.std.proofs.lemmas.Option.{slice_get_past, slice_get_read}
use Rattle.std.specs.Prelude.{OnOk}
use Rattle.trace_stays.specs.Following.{turned, over_at, state_over}
use Rattle.trace_stays.specs.declared.lanes.Ended.{Ended}
use Rattle.trace_stays.specs.declared.next.Next.TheVariants.{Enters}
use Rattle.trace_stays.proofs.Followed.{none_is_change, set_is_change}
use Rattle.trace_stays.proofs.following.turn_at.Goals as goal

pub returns-in-Some-clause-lanes : goal.returns-in-Some-clause-lanes
returns-in-Some-clause-lanes c =
    let rows = c.args.lanes.now.items in
    let lane = c.in-Some.lane.now in
    let there : slice_get rows c.args.place ≡ Some lane = slice_get_read rows (length rows) c.args.place lane refl (search rules) c.in-Some.ensures.value in
    rw c.turn.ensures.lane (set_is_change rows c.args.place lane (turned (Enters c.args.state) c.args.tick.0) there)

pub returns-in-Some-clause-ended : goal.returns-in-Some-clause-ended
returns-in-Some-clause-ended c =
    let rows = c.args.lanes.now.items in
    let lane = c.in-Some.lane.now in
    let there : slice_get rows c.args.place ≡ Some lane = slice_get_read rows (length rows) c.args.place lane refl (search rules) c.in-Some.ensures.value in
    let over : state_over c.args.place c.turn.result ≡ over_at c.args.place (Enters c.args.state) c.args.tick.0 (slice_get rows c.args.place) =
    ap (state_over c.args.place) c.turn.ensures.ended ∙ ap (over_at c.args.place (Enters c.args.state) c.args.tick.0) (sym there) in
    subst (λ (es : List Ended). OnOk c.add_stay.result (c.add_stay.new.ended.items ≡ c.args.ended.now.items ++ es)) over c.add_stay.ensures

pub returns-in-None-clause-lanes : goal.returns-in-None-clause-lanes
returns-in-None-clause-lanes c = none_is_change c.args.lanes.now.items c.args.place (turned (Enters c.args.state) c.args.tick.0) (slice_get_past c.args.lanes.now.items c.args.place (search rules))

pub returns-in-None-clause-ended : goal.returns-in-None-clause-ended
returns-in-None-clause-ended c =
    let past = slice_get_past c.args.lanes.now.items c.args.place (search rules) in
    sym (append-nil c.args.ended.now.items) ∙ ap (λ o. c.args.ended.now.items ++ over_at c.args.place (Enters c.args.state) c.args.tick.0 o) (sym past)
