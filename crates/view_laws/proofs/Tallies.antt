-- The ticks in a state that a summary counts for a process are those of its stays.
use Rattle.std.proofs.Common.{◌≡◌, ◌<◌, ◌≤◌, ℕ, max, min, Bool, true, false, List, [], ◌∷◌, ◌++◌, Option, Some, None, refl, sym, ap, ◌∙◌, subst, arith}
use Rattle.std.specs.Prelude.{◌+◌, ◌-◌, if◌then◌else◌}
use Rattle.std.proofs.lemmas.Bool.{lt-ltb}
use Rattle.apex_types.specs.declared.codes.ProcessState.{ProcessState}
use Rattle.apex_types.specs.declared.codes.ProcessState.TheVariants as state
use Rattle.apex_types.specs.declared.event.Event.{Event}
use Rattle.apex_types.specs.declared.event.EventKind.{EventKind}
use Rattle.apex_types.specs.declared.event.EventKind.TheVariants as event
use Rattle.trace_stays.specs.Following.{and_one, held_with, next_by, stay_with}
use Rattle.trace_stays.specs.Stays.{begins_at, held_behind, left_at, span, stay_ended, stay_left, stay_until, tick}
use Rattle.trace_stays.specs.Traces.{stays_in}
use Rattle.trace_stays.specs.declared.next.Next.{Next}
use Rattle.trace_stays.specs.declared.next.Next.TheVariants.{Enters, Gone, Cleared}
use Rattle.trace_stays.specs.declared.span.Span.{Span}
use Rattle.trace_stays.specs.declared.stay.Held.{Held}
use Rattle.trace_stays.specs.declared.stay.Stay.{Stay}
use Rattle.trace_view.specs.Counting.{capped, ticks_in, with_ticks}
use Rattle.trace_view.specs.Processes.{Process, counted, counts, process_behind, process_ended, turn_of, turned_if, with_one}
use Rattle.trace_view.specs.Tallies.{begun, begun_if, ended_at, ended_running, entered, has_tick, over, run, run_if, with_ended}
use Rattle.trace_view.specs.Turns.{ticks_for, ticks_if, ticks_in_state}
use Rattle.trace_view.specs.Whole.{process_in}
use Rattle.trace_view.specs.declared.states.StateTicks.{StateTicks}
use Rattle.trace_view.specs.declared.tally.Activation.{Activation}
use Rattle.trace_view.specs.declared.tally.Tally.{Tally}
use Rattle.trace_view.specs.declared.tally.Turn.{Turn}
use Rattle.view_laws.specs.Counted.{AreBeforeTick}

-- ---- a turn adds the ticks of the stay that it ends

run_ticks : (o : Option Activation) (z : ℕ) (t : Tally) → (run o z t).ticks ≡ t.ticks
run_ticks None z t = refl
run_ticks (Some a) z t = by_test a.has_run
  where
    by_test : (b : Bool) → (run_if b a z t).ticks ≡ t.ticks
    by_test true = refl
    by_test false = refl

over_ticks : (o : Option Activation) (z : ℕ) (t : Tally) → (over o z t).ticks ≡ t.ticks
over_ticks None z t = refl
over_ticks (Some a) z t = refl

begun_ticks : (b : Bool) (window : Span) (turn : Turn) (t : Tally) → (begun b window turn t).ticks ≡ t.ticks
begun_ticks true window turn t = refl
begun_ticks false window turn t = by_test (has_tick window turn.tick.0)
  where
    by_test : (b : Bool) → (begun_if b turn t).ticks ≡ t.ticks
    by_test true = refl
    by_test false = refl

entered_ticks : (o : Option ProcessState) (window : Span) (turn : Turn) (t : Tally) → (entered o window turn t).ticks ≡ t.ticks
entered_ticks None window turn t = refl
entered_ticks (Some state.Ready) window turn t = begun_ticks (ended_running turn.ended) window turn t
entered_ticks (Some state.Running) window turn t = run_ticks t.activation turn.tick.0 t
entered_ticks (Some state.Waiting) window turn t = over_ticks t.activation (ended_at turn.ended turn.tick.0) t
entered_ticks (Some state.Dormant) window turn t = over_ticks t.activation (ended_at turn.ended turn.tick.0) t

one_ticks : (kind : EventKind) (t : Tally) → (with_one kind t).ticks ≡ t.ticks
one_ticks (event.Return who service code) t = refl
one_ticks (event.Error e who response) t = refl
one_ticks (event.Report who words) t = refl
one_ticks (event.State who s) t = refl
one_ticks (event.Mode m) t = refl
one_ticks (event.Move port words) t = refl
one_ticks (event.Arrive port words) t = refl
one_ticks (event.Lost port words) t = refl
one_ticks (event.Out channel words) t = refl

counted_ticks : (window : Span) (e : Event) (name word : List ℕ) (p : Process) → (counted window e name word p).tally.ticks ≡ p.tally.ticks
counted_ticks window e name word p = by_test (counts window e name word)
  where
    by_test : (b : Bool) → (if b then record p { tally = with_one e.kind p.tally } else p).tally.ticks ≡ p.tally.ticks
    by_test true = one_ticks e.kind p.tally
    by_test false = refl

counted_held : (window : Span) (e : Event) (name word : List ℕ) (p : Process) → (counted window e name word p).held ≡ p.held
counted_held window e name word p = by_test (counts window e name word)
  where
    by_test : (b : Bool) → (if b then record p { tally = with_one e.kind p.tally } else p).held ≡ p.held
    by_test true = refl
    by_test false = refl

added_ticks : (w s : ProcessState) (n : ℕ) (t : StateTicks) → capped (ticks_for w (with_ticks s n t)) ≡ capped (ticks_for w t + ticks_if w s n)
added_ticks state.Running state.Running n t = omega arith
added_ticks state.Running state.Ready n t = omega arith
added_ticks state.Running state.Waiting n t = omega arith
added_ticks state.Running state.Dormant n t = omega arith
added_ticks state.Ready state.Running n t = omega arith
added_ticks state.Ready state.Ready n t = omega arith
added_ticks state.Ready state.Waiting n t = omega arith
added_ticks state.Ready state.Dormant n t = omega arith
added_ticks state.Waiting state.Running n t = omega arith
added_ticks state.Waiting state.Ready n t = omega arith
added_ticks state.Waiting state.Waiting n t = omega arith
added_ticks state.Waiting state.Dormant n t = omega arith
added_ticks state.Dormant state.Running n t = omega arith
added_ticks state.Dormant state.Ready n t = omega arith
added_ticks state.Dormant state.Waiting n t = omega arith
added_ticks state.Dormant state.Dormant n t = omega arith

module _ (wanted : ProcessState) where
  -- the ticks that a stay adds to this state
  abbrev adds : Span → Option Stay → ℕ
  adds window None = 0
  adds window (Some stay) = ticks_if wanted stay.state (ticks_in window stay.span)

  added : (window : Span) (o : Option Stay) (t : Tally) → capped (ticks_for wanted (with_ended window o t).ticks) ≡ capped (ticks_for wanted t.ticks + adds window o)
  added window None t = omega arith
  added window (Some stay) t = added_ticks wanted stay.state (ticks_in window stay.span) t.ticks

  and_added : (window : Span) (o : Option Stay) (rest : List Stay) → ticks_in_state wanted window (and_one o ++ rest) ≡ adds window o + ticks_in_state wanted window rest
  and_added window None rest = omega arith
  and_added window (Some stay) rest = refl

  -- ---- all lines, which are before the end

  module _ (window closing : Span) (begin : window.from.0 ≡ closing.from.0) (close : closing.until.0 ≤ window.until.0) (fits : closing.until.0 < 18446744073709551615) (name word : List ℕ) where
    abbrev pub IsEarly : Option Held → Type 0
    IsEarly None = Unit {0}
    IsEarly (Some h) = h.since.0 ≤ closing.until.0

    left_early : (s : ProcessState) (n : Next) (z : ℕ) → z < closing.until.0 → left_at s n z ≤ closing.until.0
    left_early state.Dormant n z l = omega (arith, l)
    left_early state.Ready n z l = omega (arith, l)
    left_early state.Waiting n z l = omega (arith, l)
    left_early state.Running (Enters state.Ready) z l = omega (arith, l)
    left_early state.Running (Enters state.Dormant) z l = omega (arith, l)
    left_early state.Running (Enters state.Running) z l = omega (arith, l)
    left_early state.Running (Enters state.Waiting) z l = omega (arith, l)
    left_early state.Running Gone z l = omega (arith, l)
    left_early state.Running Cleared z l = omega (arith, l)

    begins_early : (o : Option Held) (s : ProcessState) (z : ℕ) → z < closing.until.0 → IsEarly o → begins_at o (Enters s) z ≤ closing.until.0
    begins_early None s z l h = omega (arith, l)
    begins_early (Some k) s z l h = let a = left_early k.state (Enters s) z l in omega (arith, a, h)

    held_early : (o : Option Held) (n : Next) (z : ℕ) → z < closing.until.0 → IsEarly o → IsEarly (held_behind o n z)
    held_early o (Enters s) z l h = begins_early o s z l h
    held_early o Gone z l h = tt
    held_early o Cleared z l h = tt

    -- both windows have the same ticks of such a stay
    same_ticks : (s : Span) → s.until.0 ≤ closing.until.0 → ticks_in window s ≡ ticks_in closing s
    same_ticks s l =
        ap (λ (n : ℕ). min s.until.0 window.until.0 - max s.from.0 n) begin
        ∙ ap (λ (n : ℕ). n - max s.from.0 closing.from.0) (both s.until.0 l)
      where
        both : (u : ℕ) → u ≤ closing.until.0 → min u window.until.0 ≡ min u closing.until.0
        both u l = omega (arith, l, close)

    ended_same : (o : Option Held) (n : Next) (z : ℕ) → z < closing.until.0 → IsEarly o → adds window (stay_ended o n z) ≡ adds closing (stay_ended o n z)
    ended_same None n z l h = refl
    ended_same (Some k) n z l h =
        let a = left_early k.state n z l in
        ap (ticks_if wanted k.state) (same_ticks (span k.since.0 (stay_until k n z)) (omega (arith, a, h)))

    abbrev ticks_of : Process → ℕ
    ticks_of p = ticks_for wanted p.tally.ticks

    turned_ticks : (o : Option Next) (z : ℕ) (p : Process) → z < closing.until.0 → IsEarly p.held → capped (ticks_of (turned_if window o (tick z) p)) ≡ capped (ticks_of p + adds closing (stay_with o z p.held))
    turned_ticks None z p l h = omega arith
    turned_ticks (Some n) z p l h =
        let turn = turn_of p.held n (tick z) in
        ap (λ (t : StateTicks). capped (ticks_for wanted t)) (entered_ticks turn.next window turn (with_ended window turn.ended p.tally))
        ∙ added window (stay_ended p.held n z) p.tally
        ∙ ap (λ (k : ℕ). capped (ticks_of p + k)) (ended_same p.held n z l h)

    turned_held : (o : Option Next) (z : ℕ) (p : Process) → (turned_if window o (tick z) p).held ≡ held_with o z p.held
    turned_held None z p = refl
    turned_held (Some n) z p = refl

    with_early : (o : Option Next) (z : ℕ) (held : Option Held) → z < closing.until.0 → IsEarly held → IsEarly (held_with o z held)
    with_early None z held l h = h
    with_early (Some n) z held l h = held_early held n z l h

    pub all_counted : (lines : List Event) (p : Process) → AreBeforeTick closing.until.0 lines → IsEarly p.held
        → capped (ticks_of (process_ended closing (process_in window lines name word p))) ≡ capped (ticks_of p + ticks_in_state wanted closing (stays_in lines closing.until.0 name word p.held))
    all_counted [] p early h =
        added closing (stay_left p.held closing.until.0) p.tally ∙ ap (λ (k : ℕ). capped (ticks_of p + k)) (last (stay_left p.held closing.until.0))
      where
        last : (o : Option Stay) → adds closing o ≡ ticks_in_state wanted closing (and_one o)
        last None = refl
        last (Some stay) = omega arith
    all_counted (e ∷ es) p early h =
        ap (λ (b : Bool). capped (ticks_of (process_ended closing (process_in window es name word (if b then process_behind window e name word p else p))))) (lt-ltb e.tick.0 window.until.0 read)
        ∙ all_counted es q early.1 (subst IsEarly (sym q_held) (with_early next e.tick.0 p.held early.0 h))
        ∙ ap (λ (o : Option Held). capped (ticks_of q + ticks_in_state wanted closing (stays_in es closing.until.0 name word o))) q_held
        ∙ sums
      where
        next : Option Next
        next = next_by e.partition e.kind name word

        c : Process
        c = counted window e name word p

        q : Process
        q = process_behind window e name word p

        rest : ℕ
        rest = ticks_in_state wanted closing (stays_in es closing.until.0 name word (held_with next e.tick.0 p.held))

        read : e.tick.0 < window.until.0
        read = let a = early.0 in omega (arith, a, close)

        c_held : c.held ≡ p.held
        c_held = counted_held window e name word p

        q_held : q.held ≡ held_with next e.tick.0 p.held
        q_held = turned_held next e.tick.0 c ∙ ap (held_with next e.tick.0) c_held

        q_ticks : capped (ticks_of q) ≡ capped (ticks_of p + adds closing (stay_with next e.tick.0 p.held))
        q_ticks =
            turned_ticks next e.tick.0 c early.0 (subst IsEarly (sym c_held) h)
            ∙ ap (λ (o : Option Held). capped (ticks_of c + adds closing (stay_with next e.tick.0 o))) c_held
            ∙ ap (λ (t : StateTicks). capped (ticks_for wanted t + adds closing (stay_with next e.tick.0 p.held))) (counted_ticks window e name word p)

        sums : capped (ticks_of q + rest) ≡ capped (ticks_of p + ticks_in_state wanted closing (and_one (stay_with next e.tick.0 p.held) ++ stays_in es closing.until.0 name word (held_with next e.tick.0 p.held)))
        sums =
            let a = q_ticks in
            let b = and_added closing (stay_with next e.tick.0 p.held) (stays_in es closing.until.0 name word (held_with next e.tick.0 p.held)) in
            omega (arith, a, b)
