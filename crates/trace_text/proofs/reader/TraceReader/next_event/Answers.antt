use Rattle.std.proofs.Common.{◌≡◌, ◌≤◌, option_copied, None, arith, rules, sym, ap, ◌∙◌}
use Rattle.apex_types.specs.declared.event.Event.{Event}
use Rattle.text_lines.specs.Pieces.{pieces_of}
use Rattle.trace_text.specs.Reading.{event_in}
use Rattle.trace_text.proofs.Lines.{no_feed, read_again, read_front}
use Rattle.trace_text.proofs.Spells.{same_some}
use Rattle.trace_text.proofs.reader.TraceReader.next_event.Goals as goal

pub returns-in_default-clause-read_back : goal.returns-in_default-clause-read_back
returns-in_default-clause-read_back c = λ e rest next.
    absurd (no_feed c.args.self.now.rest.now e rest next.can next.parts (c.split_at.ensures.behind ∙ ap (λ o. pieces_of 10 (option_copied o)) c.in_default.is))

pub returns-in_default-event_of-clause-read_back : goal.returns-in_default-event_of-clause-read_back
returns-in_default-event_of-clause-read_back c = λ e rest next.
    let none : None ≡ event_in c.split_at.result.0.now = search rules in
    let clash = none ∙ read_again c.args.self.now.rest.now c.split_at.result.0.now e rest next.can next.parts c.split_at.ensures.front in cc

pub returns-clause-read : goal.returns-clause-read
returns-clause-read c =
    let g = read_front c.args.self.now.rest.now c.split_at.result.0.now c.in-Some.rest.now c.in-Some-event_of.event c.split_at.ensures.front
    (c.split_at.ensures.behind ∙ ap (λ o. pieces_of 10 (option_copied o)) c.in-Some.is) (sym c.in-Some-event_of.ensures) in
    let ordered : c.args.self.now.before.0 ≤ c.in-Some-event_of.event.tick.0 = search rules in
    record { can = g.0; in_order = ordered; parts = g.1 }

pub returns-clause-read_back : goal.returns-clause-read_back
returns-clause-read_back c = λ e rest next.
    let same : c.in-Some-event_of.event ≡ e = same_some c.in-Some-event_of.event e (c.in-Some-event_of.ensures ∙ read_again c.args.self.now.rest.now c.split_at.result.0.now e rest next.can next.parts c.split_at.ensures.front) in
    cc

pub returns-then-event-self-clause-read_back : goal.returns-then-event-self-clause-read_back
returns-then-event-self-clause-read_back c = λ e rest next.
    let same : c.in-Some-event_of.event ≡ e = same_some c.in-Some-event_of.event e (c.in-Some-event_of.ensures ∙ read_again c.args.self.now.rest.now c.split_at.result.0.now e rest next.can next.parts c.split_at.ensures.front) in
    let tick : c.in-Some-event_of.event.tick.0 ≡ e.tick.0 = ap (λ (x : Event). x.tick.0) same in
    absurd (omega (arith, c.if-event-self.true, tick, next.in_order))
