use Rattle.apex_types.specs.Line.{line_of}
use Rattle.std.proofs.Common.{◌≡◌, ◌<◌, ◌-◌, drop, [], length, rules, sym, ap, subst, ◌∙◌, arith, List, ℕ}
use Rattle.std.specs.Io.KnownBytes.{prepend_known}
use Rattle.apex_types.specs.declared.event.Event.{Event}
use Rattle.apex_types.specs.declared.identity.Ticks.{Ticks}
use Rattle.trace_text.specs.Stream.{NextIn, ahead_bytes, left, next_number}
use Rattle.trace_text.specs.Trace.{IsNext}
use Rattle.trace_text.proofs.Streams.{last_bytes, next_in, none_in, none_left, same_next}
use Rattle.trace_text.proofs.stream.TraceStream.next_event.Goals as goal

pub returns-in-Ok-None-clause-ended : goal.returns-in-Ok-None-clause-ended
returns-in-Ok-None-clause-ended g c = λ is.
    let seen = c.look_ahead.new.self in
    let none : ahead_bytes seen.ahead ≡ [] = search rules in
    none_left (left g.R.Read.remaining c.args.self.now) (g.R.Read.remaining seen.reader) (ahead_bytes seen.ahead) none c.in_ok-look_ahead.ensures.kept c.in_ok-look_ahead.ensures.seen

pub returns-in-Ok-Some-clause-read : goal.returns-in-Ok-Some-clause-read
returns-in-Ok-Some-clause-read g c =
    let seen = c.look_ahead.new.self in
    let front = c.behind-front.result in
    let bytes = ahead_bytes seen.ahead in
    let event = c.in-Ok-Some.event in
    let rest = c.next_event-outcome.new.self.rest.now in
    let read : IsNext front.before.0 front.rest.now event rest = search rules in
    let tick : front.before.0 ≡ c.args.self.now.before.0 = ap (λ (t : Ticks). t.0) (c.behind-front.ensures.before ∙ c.in_ok-look_ahead.ensures.before) in
    let next = same_next front.before.0 c.args.self.now.before.0 front.rest.now bytes event rest tick (c.behind-front.ensures.rest ∙ c.as_slice.ensures) read in
    let known = next_in c.args.self.now.before.0 (left g.R.Read.remaining c.args.self.now) (g.R.Read.remaining seen.reader) bytes event rest c.in_ok-look_ahead.ensures.kept next in
    let kept : ahead_bytes c.keep_last.new.self ≡ rest = c.keep_last.ensures ∙ ap (λ (xs : List ℕ). drop (length bytes - length xs) bytes) c.rest-rest.ensures ∙ last_bytes bytes (line_of event) rest next.parts in
    subst (λ (xs : List ℕ). NextIn c.args.self.now.before.0 (left g.R.Read.remaining c.args.self.now) event (prepend_known xs (g.R.Read.remaining seen.reader))) (sym kept) known

pub returns-in-Err-clause-refused : goal.returns-in-Err-clause-refused
returns-in-Err-clause-refused g c =
    let seen = c.look_ahead.new.self in
    let front = c.behind-front.result in
    let bytes = ahead_bytes seen.ahead in
    let number : c.saturating_add.result ≡ next_number c.args.self.now.lines = search rules in
    let same : front.rest.now ≡ bytes = c.behind-front.ensures.rest ∙ c.as_slice.ensures in
    let tick : front.before.0 ≡ c.args.self.now.before.0 = ap (λ (t : Ticks). t.0) (c.behind-front.ensures.before ∙ c.in_ok-look_ahead.ensures.before) in
    let some : 0 < length bytes = omega (arith, ap length same, c.in-Err.ensures.refused.1) in (
      number,
      none_in c.args.self.now.before.0 (left g.R.Read.remaining c.args.self.now) (g.R.Read.remaining seen.reader) bytes c.in_ok-look_ahead.ensures.kept c.in_ok-look_ahead.ensures.seen some
          (λ (e : Event) (rest : List ℕ) next.
          let clash = c.in-Err.ensures.read_back e rest (same_next c.args.self.now.before.0 front.before.0 bytes front.rest.now e rest (sym tick) (sym same) next) in cc),
    )
