use Rattle.std.proofs.Common.{◌≡◌, ◌+◌, ◌∷◌, ap, drop, rules, sym, ◌∙◌}
use Rattle.std.proofs.lemmas.List.{drop_all, drop_more}
use Rattle.apex_types.specs.declared.event.Event.{Event}
use Rattle.trace_stays.proofs.Traces.{all_read, begins, line_read}
use Rattle.trace_stays.proofs.laws.follow_all.Goals as goal

pub loop-event-init : goal.loop-event-init
loop-event-init c = begins c.args.events.now c.args.until.0 c.new-lanes.result c.new-ended.result.items c.new-lanes.ensures.partitions (search rules)

pub loop-event-preserved : goal.loop-event-preserved
loop-event-preserved c =
    let events = c.args.events.now in
    let i = c.loop-event.event-index in
    let event = c.event-item.result in
    let first : drop i events ≡ event ∷ drop (i + 1) events = drop_more events i event c.loop-event-test.true ∙ ap (λ (e : Event). e ∷ drop (i + 1) events) (sym c.event-item.is) in
    line_read events c.args.until.0 c.loop-event.lanes c.follow.new.self event (drop (i + 1) events) (drop i events) c.loop-event.ended.items c.follow.new.ended.items
    first c.in_ok-follow.ensures c.loop-event.invariant

pub returns : goal.returns
returns c =
    let events = c.args.events.now in
    let i = c.loop-event.event-index in
    all_read events c.args.until.0 c.loop-event.lanes (drop i events) c.loop-event.ended.items c.finish.new.ended.items (drop_all i events c.loop-event-test.false) c.in_ok-finish.ensures c.loop-event.invariant
