use Rattle.std.proofs.Common.{rules, ◌-◌, ◌^◌, ◌<◌, ◌++◌, ◌∷◌, [], None, inl, inr, sym, subst, arith}
use Rattle.std.specs.Prelude.{string_bytes}
use Rattle.trace_text.specs.Stream.{left}
use Rattle.trace_text.specs.Trace.{CanBeWritten}
use Rattle.view_command.specs.Answers.{IsUnread}
use Rattle.view_command.proofs.Compared.{IsBetween, at_start, between_next, between_start, between_waits, first_taken, first_turn, in_line, noted_ticks, second_taken, second_turn, so_far}
use Rattle.view_command.proofs.SoFar.{so_far_start, unread_of}
use Rattle.view_command.proofs.comparing.read_both.Goals.{in-Some-First+in_ok-take-in-Some-First+in-Ok-next_event-3, in-Some-Second+in_ok-take-in-Some-Second+in-Ok-next_event-4}
use Rattle.view_command.proofs.comparing.read_both.Goals as goal

pub returns-in-Err-next_event-clause-refused : goal.returns-in-Err-next_event-clause-refused
returns-in-Err-next_event-clause-refused g c =
    let remaining = g.R.Read.remaining in
    let text = remaining c.args.one.reader in
    let s = c.in-Ok.stream in
    let new = c.in-Ok.ensures in
    let so = so_far_start text (left remaining s) s.before.0 s.lines (at_start remaining s c.args.one.reader new.reader new.ahead) new.before new.lines in
    let it = unread_of None text (left remaining s) s.before.0 s.lines c.args.one.name c.in-Err-next_event.fault (omega (arith, new.lines)) so c.in-Err-next_event.ensures.refused in
    inl (subst (IsUnread text None (string_bytes c.args.one.name)) (sym c.of_stream.ensures) it)

pub returns-in-Err-next_event-2-clause-refused : goal.returns-in-Err-next_event-2-clause-refused
returns-in-Err-next_event-2-clause-refused g c =
    let remaining = g.Q.Read.remaining in
    let text = remaining c.args.other.reader in
    let s = c.in-Ok-new.stream in
    let new = c.in-Ok-new.ensures in
    let so = so_far_start text (left remaining s) s.before.0 s.lines (at_start remaining s c.args.other.reader new.reader new.ahead) new.before new.lines in
    let it = unread_of None text (left remaining s) s.before.0 s.lines c.args.other.name c.in-Err-next_event-2.fault (omega (arith, new.lines)) so c.in-Err-next_event-2.ensures.refused in
    inr (subst (IsUnread text None (string_bytes c.args.other.name)) (sym c.of_stream-in-Err-next_event-2.ensures) it)

pub loop-init : goal.loop-init
loop-init g c =
    let one = c.in-Ok.stream in
    let one_new = c.in-Ok.ensures in
    let one_read = c.in-Ok-next_event.ensures in
    let one_next = c.next_event.new.self in
    let two = c.in-Ok-new.stream in
    let two_new = c.in-Ok-new.ensures in
    let two_read = c.in-Ok-next_event-2.ensures in
    let two_next = c.next_event-2.new.self in (
      [],
      (
        [],
        (
          0,
          (
            (λ h. h),
            between_start (g.R.Read.remaining c.args.one.reader) (left g.R.Read.remaining one) (left g.R.Read.remaining one_next) one.before.0 one.lines one_next.before.0 one_next.lines c.in-Ok-next_event.event
                (at_start g.R.Read.remaining one c.args.one.reader one_new.reader one_new.ahead) one_new.before one_new.lines one_read.read (noted_ticks _ _ _ _ one_read.moved)
                (λ none. c.next_event.ensures.ended (search (rules, none))) (λ none. (c.next_event.ensures.stays.0 (search (rules, none))).1),
            between_start (g.Q.Read.remaining c.args.other.reader) (left g.Q.Read.remaining two) (left g.Q.Read.remaining two_next) two.before.0 two.lines two_next.before.0 two_next.lines c.in-Ok-next_event-2.event
                (at_start g.Q.Read.remaining two c.args.other.reader two_new.reader two_new.ahead) two_new.before two_new.lines two_read.read (noted_ticks _ _ _ _ two_read.moved)
                (λ none. c.next_event-2.ensures.ended (search (rules, none))) (λ none. (c.next_event-2.ensures.stays.0 (search (rules, none))).1),
          ),
        ),
      ),
    )

pub returns-in-Err-next_event-3-clause-refused : goal.returns-in-Err-next_event-3-clause-refused
returns-in-Err-next_event-3-clause-refused g c =
    let remaining = g.R.Read.remaining in
    let text = remaining c.args.one.reader in
    let s = c.loop.stream in
    let (a, (b, (now, (h, one, two)))) = c.loop.invariant in
    let turn = first_turn c.loop.line c.loop.other_line (search rules) in
    let so = so_far text (left remaining s) s.before.0 s.lines _ (subst (λ n. IsBetween text (left remaining s) s.before.0 s.lines c.loop.counter n now a) turn.1 one).is_fed in
    let below : c.loop.counter < 2 ^ 64 - 2 = search rules in
    let it = unread_of None text (left remaining s) s.before.0 s.lines c.args.one.name c.in-Err-next_event-3.fault (omega (arith, below, one.few)) so c.in-Err-next_event-3.ensures.refused in
    inl (subst (IsUnread text None (string_bytes c.args.one.name)) (sym c.of_stream-in-Err-next_event-3.ensures) it)

pub returns-in-Err-next_event-4-clause-refused : goal.returns-in-Err-next_event-4-clause-refused
returns-in-Err-next_event-4-clause-refused g c =
    let remaining = g.Q.Read.remaining in
    let text = remaining c.args.other.reader in
    let s = c.loop.other_stream in
    let (a, (b, (now, (h, one, two)))) = c.loop.invariant in
    let turn = second_turn c.loop.line c.loop.other_line (search rules) in
    let so = so_far text (left remaining s) s.before.0 s.lines _ (subst (λ n. IsBetween text (left remaining s) s.before.0 s.lines c.loop.counter n now b) turn.1 two).is_fed in
    let below : c.loop.counter < 2 ^ 64 - 2 = search rules in
    let it = unread_of None text (left remaining s) s.before.0 s.lines c.args.other.name c.in-Err-next_event-4.fault (omega (arith, below, two.few)) so c.in-Err-next_event-4.ensures.refused in
    inr (subst (IsUnread text None (string_bytes c.args.other.name)) (sym c.of_stream-in-Err-next_event-4.ensures) it)

pub loop-preserved : goal.loop-preserved
loop-preserved g c =
    let (a, (b, (now, (h, one, two)))) = c.loop.invariant in
    let below : c.loop.counter < 2 ^ 64 - 2 = search rules in
    elim c.match-earlier-2.branch [
      | in-Some-First+in_ok-take-in-Some-First+in-Ok-next_event-3 w ↦
          let remaining = g.R.Read.remaining in
          let s = c.loop.stream in
          let next = w.next_event-in-Some-First.new.self in
          let read = w.in-Ok-next_event-3.ensures in
          let turn = first_turn c.loop.line c.loop.other_line (search rules) in
          let e = turn.0 in
          rw (w.comparison-is, w.stream-is, w.other_stream-is, w.line-is, w.other_line-is) (
            a ++ e ∷ [],
            (
              b,
              (
                e.tick.0,
                (
                  (λ first. first_taken c.args.partition.now c.loop.comparison.parts.items w.take.new.comparison.parts.items c.loop.line e now a b turn.1 w.in_ok-take-in-Some-First.ensures one.in_order (h first)),
                  between_next (remaining c.args.one.reader) (left remaining s) (left remaining next) s.before.0 s.lines c.loop.counter next.before.0 next.lines w.in-Ok-next_event-3.event e now a below
                      (subst (λ n. IsBetween (remaining c.args.one.reader) (left remaining s) s.before.0 s.lines c.loop.counter n now a) turn.1 one)
                      read.read (noted_ticks _ _ _ _ read.moved) (λ none. w.next_event-in-Some-First.ensures.ended (search (rules, none))) (λ none. (w.next_event-in-Some-First.ensures.stays.0 (search (rules, none))).1) (in_line _ CanBeWritten _ read.line),
                  between_waits _ _ _ _ _ _ now e.tick.0 b two turn.2,
                ),
              ),
            ),
          )
      | in-Some-Second+in_ok-take-in-Some-Second+in-Ok-next_event-4 w ↦
          let remaining = g.Q.Read.remaining in
          let s = c.loop.other_stream in
          let next = w.next_event-in-Some-Second.new.self in
          let read = w.in-Ok-next_event-4.ensures in
          let turn = second_turn c.loop.line c.loop.other_line (search rules) in
          let e = turn.0 in
          rw (w.comparison-is, w.stream-is, w.other_stream-is, w.line-is, w.other_line-is) (
            a,
            (
              b ++ e ∷ [],
              (
                e.tick.0,
                (
                  (λ first. second_taken c.args.partition.now c.loop.comparison.parts.items w.take-in-Some-Second.new.comparison.parts.items c.loop.other_line e now a b turn.1 w.in_ok-take-in-Some-Second.ensures two.in_order (h first)),
                  between_waits _ _ _ _ _ _ now e.tick.0 a one turn.2,
                  between_next (remaining c.args.other.reader) (left remaining s) (left remaining next) s.before.0 s.lines c.loop.counter next.before.0 next.lines w.in-Ok-next_event-4.event e now b below
                      (subst (λ n. IsBetween (remaining c.args.other.reader) (left remaining s) s.before.0 s.lines c.loop.counter n now b) turn.1 two)
                      read.read (noted_ticks _ _ _ _ read.moved) (λ none. w.next_event-in-Some-Second.ensures.ended (search (rules, none))) (λ none. (w.next_event-in-Some-Second.ensures.stays.0 (search (rules, none))).1) (in_line _ CanBeWritten _ read.line),
                ),
              ),
            ),
          )
    ]
