use Rattle.std.proofs.Common.{◌≡◌, ℕ, List, [], rules, sym, ◌∙◌}
use Rattle.apex_types.specs.declared.event.Event.{Event}
use Rattle.trace_text.specs.declared.reader.TraceFault.{TraceFault}
use Rattle.trace_text.specs.Trace.{IsReadAs, IsRefusedAt}
use Rattle.trace_text.proofs.SoFar.{next_read, all_read, refused_at, no_trace, passed_on}
use Rattle.trace_text.proofs.whole.check_trace.Goals as goal

pub loop-event-preserved : goal.loop-event-preserved
loop-event-preserved c =
    let r = c.loop-event.reader in
    let s = c.next_event.new.self in
    let next = rw c.in-Some.is at c.in_ok-_event.ensures.read in
    let noted = rw c.in-Some.is at c.in_ok-_event.ensures.moved in
    next_read c.args.text.now r.before.0 r.lines r.rest.now c.in-Some._event s.rest.now s.before s.lines c.loop-event.invariant next noted

pub returns-clause-trace : goal.returns-clause-trace
returns-clause-trace c =
    let r = c.loop-event.reader in
    let none : r.rest.now ≡ [] = search rules in
    let same : c.lines.result ≡ r.lines = search rules in
    let g = all_read c.args.text.now r.before.0 r.lines r.rest.now c.loop-event.invariant none in
    (g.0, g.1, g.2 ∙ sym same)

pub returns-in_err-_event-clause-no_trace : goal.returns-in_err-_event-clause-no_trace
returns-in_err-_event-clause-no_trace c =
    let r = c.loop-event.reader in
    passed_on c.from_residual.result c.in_err-_event.field-0.0 (λ _. (events : List Event) → IsReadAs c.args.text.now events → ⊥) c.from_residual.ensures
    (λ (events : List Event) read. no_trace c.args.text.now r.before.0 r.lines r.rest.now events c.loop-event.invariant c.in_err-_event.ensures.refused.1
    (λ (e : Event) (more : List ℕ) next. let clash = c.in_err-_event.ensures.read_back e more next in cc) read)

pub returns-in_err-_event-clause-refused : goal.returns-in_err-_event-clause-refused
returns-in_err-_event-clause-refused c =
    let r = c.loop-event.reader in
    passed_on c.from_residual.result c.in_err-_event.field-0.0 (λ (fault : TraceFault). IsRefusedAt c.args.text.now fault.line) c.from_residual.ensures
    (refused_at c.args.text.now r.before.0 r.lines r.rest.now c.in_err-_event.field-0.0.line c.loop-event.invariant c.in_err-_event.ensures.refused.0 c.in_err-_event.ensures.refused.1
    (λ (e : Event) (more : List ℕ) next. let clash = c.in_err-_event.ensures.read_back e more next in cc))
