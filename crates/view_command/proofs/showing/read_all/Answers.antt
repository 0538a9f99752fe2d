use Rattle.std.proofs.Common.{rules, ◌≡◌, ◌+◌, ◌-◌, ◌^◌, ◌<◌, ℕ, true, ap, refl, sym, subst, ◌∙◌, arith}
use Rattle.std.specs.Prelude.{string_bytes}
use Rattle.view_command.specs.Answers.{IsUnread}
use Rattle.trace_text.specs.Stream.{NextIn, left, next_number}
use Rattle.view_command.specs.Orders.{number_of}
use Rattle.view_command.specs.Texts.{is_late}
use Rattle.view_command.proofs.Compared.{at_start}
use Rattle.view_command.proofs.SoFar.{next_is, run_end, run_late, run_more, run_read, run_start, unread_of}
use Rattle.view_command.proofs.Taken.{will_end, will_more, will_start}
use Rattle.view_command.proofs.showing.read_all.Goals as goal

pub loop-init : goal.loop-init
loop-init g c =
    let s = c.in-Ok.stream in
    let new = c.in-Ok.ensures in (
      run_start (number_of c.args.ran) (g.R.Read.remaining c.args.text.reader) (left g.R.Read.remaining s) s.before.0 s.lines
          (at_start g.R.Read.remaining s c.args.text.reader new.reader new.ahead) new.before new.lines,
      new.lines,
      will_start (g.T.TakeEvents.takes c.args.kept.now) (g.R.Read.remaining c.args.text.reader) (left g.R.Read.remaining s) s.before.0 c.args.taker.now (at_start g.R.Read.remaining s c.args.text.reader new.reader new.ahead) new.before,
    )

pub returns-then-is_late-clause-refused : goal.returns-then-is_late-clause-refused
returns-then-is_late-clause-refused g c =
    let s = c.loop.stream in
    let new = c.next_event.new.self in
    let e = c.in-Ok-Some.event in
    let below : c.loop.counter < 2 ^ 64 - 1 = search rules in
    let low : s.lines < 2 ^ 64 - 1 = omega (arith, below, c.loop.invariant.1) in
    let next : NextIn s.before.0 (left g.R.Read.remaining s) e (left g.R.Read.remaining new) = search rules in
    let late : is_late (number_of c.args.ran) e.tick.0 ≡ true = sym c.is_late.ensures ∙ c.if-is_late.true in
    let count : new.lines ≡ next_number s.lines = search rules in (
      refl,
      run_late (number_of c.args.ran) (g.R.Read.remaining c.args.text.reader) (left g.R.Read.remaining s) (left g.R.Read.remaining new) s.before.0 s.lines e c.lines.result low c.loop.invariant.0 next late (c.lines.ensures ∙ count),
    )

pub returns-in-Ok-None-clause-trace : goal.returns-in-Ok-None-clause-trace
returns-in-Ok-None-clause-trace g c =
    let s = c.loop.stream in
    run_end (number_of c.args.ran) (g.R.Read.remaining c.args.text.reader) (left g.R.Read.remaining s) s.before.0 s.lines c.loop.invariant.0 (c.next_event.ensures.ended (search rules))

pub returns-in-Ok-None-clause-taken : goal.returns-in-Ok-None-clause-taken
returns-in-Ok-None-clause-taken g c =
    let s = c.loop.stream in
    will_end (g.T.TakeEvents.takes c.args.kept.now) (g.R.Read.remaining c.args.text.reader) (left g.R.Read.remaining s) s.before.0 c.args.taker.now c.loop.taker c.loop.invariant.2 (c.next_event.ensures.ended (search rules))

pub returns-in-Err-next_event-clause-refused : goal.returns-in-Err-next_event-clause-refused
returns-in-Err-next_event-clause-refused g c =
    let s = c.loop.stream in
    let below : c.loop.counter < 2 ^ 64 - 1 = search rules in
    let it = unread_of (number_of c.args.ran) (g.R.Read.remaining c.args.text.reader) (left g.R.Read.remaining s) s.before.0 s.lines c.args.text.name c.in-Err-next_event.fault (omega (arith, below, c.loop.invariant.1))
    (run_read (number_of c.args.ran) (g.R.Read.remaining c.args.text.reader) (left g.R.Read.remaining s) s.before.0 s.lines c.loop.invariant.0) c.in-Err-next_event.ensures.refused in
    subst (IsUnread (g.R.Read.remaining c.args.text.reader) (number_of c.args.ran) (string_bytes c.args.text.name)) (sym c.of_stream.ensures) it

pub loop-preserved : goal.loop-preserved
loop-preserved g c =
    let s = c.loop.stream in
    let new = c.next_event.new.self in
    let e = c.in-Ok-Some.event in
    let below : c.loop.counter < 2 ^ 64 - 1 = search rules in
    let low : s.lines < 2 ^ 64 - 1 = omega (arith, below, c.loop.invariant.1) in
    let next : NextIn s.before.0 (left g.R.Read.remaining s) e (left g.R.Read.remaining new) = search rules in
    let tick : new.before ≡ e.tick = search rules in
    let count : new.lines ≡ next_number s.lines = search rules in (
      run_more (number_of c.args.ran) (g.R.Read.remaining c.args.text.reader) (left g.R.Read.remaining s) (left g.R.Read.remaining new) s.before.0 s.lines e new.before new.lines low c.loop.invariant.0 next (search rules) (tick, count),
      count ∙ next_is s.lines low ∙ ap (λ (n : ℕ). n + 1) c.loop.invariant.1,
      will_more (g.T.TakeEvents.takes c.args.kept.now) (g.R.Read.remaining c.args.text.reader) (left g.R.Read.remaining s) (left g.R.Read.remaining new) s.before.0 e new.before c.args.taker.now c.loop.taker c.take.new.self c.loop.invariant.2 next tick (search rules),
    )
