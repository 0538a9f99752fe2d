use Rattle.std.proofs.Common.{◌≡◌, ◌+◌, ◌∷◌, None, ap, drop, sym, ◌∙◌}
use Rattle.std.proofs.lemmas.List.{drop_all, drop_more}
use Rattle.std.proofs.lemmas.Result.{IfOk-weaker}
use Rattle.apex_types.specs.declared.event.Event.{Event}
use Rattle.trace_view.specs.Reports.{HasFinished}
use Rattle.trace_view.proofs.Reported.{all_counted, will_begin, will_go_on}
use Rattle.trace_view.proofs.whole.summary_of.Goals as goal

pub loop-event-init : goal.loop-event-init
loop-event-init c = will_begin c.args.from c.args.to None c.args.events.now c.new-summary.result (c.new-summary.ensures None tt)

pub loop-event-preserved : goal.loop-event-preserved
loop-event-preserved c =
    let events = c.args.events.now in
    let i = c.loop-event.event-index in
    let event = c.event-item.result in
    let first : drop i events ≡ event ∷ drop (i + 1) events = drop_more events i event c.loop-event-test.true ∙ ap (λ (e : Event). e ∷ drop (i + 1) events) (sym c.event-item.is) in
    will_go_on c.args.from c.args.to None events event (drop (i + 1) events) (drop i events) c.loop-event.summary c.count.new.self first c.in_ok-count.ensures c.loop-event.invariant

pub returns : goal.returns
returns c =
    let events = c.args.events.now in
    let i = c.loop-event.event-index in
    let last = c.loop-event.summary in
    IfOk-weaker c.finish.result (HasFinished last) _ (λ report is. all_counted c.args.from c.args.to None events last report (drop i events) (drop_all i events c.loop-event-test.false) is c.loop-event.invariant) c.finish.ensures
