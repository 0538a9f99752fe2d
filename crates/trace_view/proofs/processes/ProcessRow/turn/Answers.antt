use Rattle.std.proofs.Common.{Option, ap, refl, sym, ◌≡◌, ◌∙◌}
use Rattle.apex_types.specs.declared.codes.ProcessState.{ProcessState}
use Rattle.trace_stays.specs.Stays.{stay_ended}
use Rattle.trace_stays.specs.declared.stay.Stay.{Stay}
use Rattle.trace_stays.proofs.Followed.{both_ok}
use Rattle.trace_view.specs.Processes.{turn_of}
use Rattle.trace_view.specs.Tallies.{measured, turned}
use Rattle.trace_view.specs.declared.tally.Turn.{Turn}
use Rattle.trace_view.proofs.Known.{turn_taken}
use Rattle.trace_view.proofs.processes.ProcessRow.turn.Goals as goal

pub returns-in-Some : goal.returns-in-Some
returns-in-Some c =
    let old = c.args.self.now in
    let next = c.args.next in
    let t = c.args.tick in
    let made : record { tick = t; ended = c.turn-ended.result; next = c.state.result } ≡ turn_of old.watch.held next t =
    ap (λ (o : Option Stay). record { tick = t; ended = o; next = c.state.result }) c.turn-ended.ensures.ended
    ∙ ap (λ (s : Option ProcessState). record { tick = t; ended = stay_ended old.watch.held next t.0; next = s }) c.state.ensures in
    both_ok c.take.result
    (λ to_running to_end. turn_taken c.args.window next t old _ c.in-Some.measured refl refl c.turn-ended.ensures.held
    (c.turn.ensures.turned ∙ ap (λ (x : Turn). turned c.args.window x old.tally) made)
    (sym (ap (λ (x : Turn). measured x.next x old.tally.activation) made) ∙ (sym c.turn.ensures.measured ∙ c.in-Some.is))
    to_running to_end) c.take.ensures.to_running c.take.ensures.to_end
