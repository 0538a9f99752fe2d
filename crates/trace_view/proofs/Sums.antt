-- The sums and the counts of turns, one turn after another.
use Rattle.std.proofs.Common.{◌≡◌, ◌≤◌, ℕ, ◌+◌, ◌-◌, ◌^◌, Bool, true, false, not, ◌&&◌, if◌then◌else◌, List, [], ◌∷◌, Option, Some, None, refl, sym, ap, subst, ◌∙◌, arith}
use Rattle.apex_types.specs.declared.codes.ProcessState.{ProcessState}
use Rattle.apex_types.specs.declared.codes.ProcessState.TheVariants as state
use Rattle.trace_stays.specs.declared.span.Span.{Span}
use Rattle.trace_stays.specs.declared.stay.Stay.{Stay}
use Rattle.trace_view.specs.Counting.{capped, ticks_in, with_ticks}
use Rattle.trace_view.specs.Tallies.{begun, begun_if, ended_running, entered, has_tick, nothing_counted, over, run, run_if, turned, with_ended}
use Rattle.trace_view.specs.Turns.{activations, and_stay, ended_by, is_activation, is_ready, tally_after, ticks_for, ticks_if, ticks_in_state}
use Rattle.trace_view.specs.declared.states.StateTicks.{StateTicks}
use Rattle.trace_view.specs.declared.tally.Activation.{Activation}
use Rattle.trace_view.specs.declared.tally.Tally.{Tally}
use Rattle.trace_view.specs.declared.tally.Turn.{Turn}

-- ---- numbers that are capped

capped_again : (a b c : ℕ) → capped (capped (a + b) + c) ≡ capped (a + (b + c))
capped_again a b c = omega arith

capped_below : (a : ℕ) → a ≤ 2 ^ 64 - 1 → a ≡ capped (a + 0)
capped_below a h = omega (arith, h)

capped_le : (a : ℕ) → capped a ≤ 2 ^ 64 - 1
capped_le a = omega arith

-- ---- ticks

-- each number of ticks is one of 64 bits
pub record AreBounded (t : StateTicks) : Type 0 where
  pub all : (s : ProcessState) → ticks_for s t ≤ 2 ^ 64 - 1

with_ticks-ticks_for : (s r : ProcessState) (n : ℕ) (t : StateTicks) → AreBounded t → ticks_for s (with_ticks r n t) ≡ capped (ticks_for s t + ticks_if s r n)
with_ticks-ticks_for state.Running state.Running n t b = refl
with_ticks-ticks_for state.Running state.Ready n t b = capped_below t.running (b.all state.Running)
with_ticks-ticks_for state.Running state.Waiting n t b = capped_below t.running (b.all state.Running)
with_ticks-ticks_for state.Running state.Dormant n t b = capped_below t.running (b.all state.Running)
with_ticks-ticks_for state.Ready state.Ready n t b = refl
with_ticks-ticks_for state.Ready state.Running n t b = capped_below t.ready (b.all state.Ready)
with_ticks-ticks_for state.Ready state.Waiting n t b = capped_below t.ready (b.all state.Ready)
with_ticks-ticks_for state.Ready state.Dormant n t b = capped_below t.ready (b.all state.Ready)
with_ticks-ticks_for state.Waiting state.Waiting n t b = refl
with_ticks-ticks_for state.Waiting state.Running n t b = capped_below t.waiting (b.all state.Waiting)
with_ticks-ticks_for state.Waiting state.Ready n t b = capped_below t.waiting (b.all state.Waiting)
with_ticks-ticks_for state.Waiting state.Dormant n t b = capped_below t.waiting (b.all state.Waiting)
with_ticks-ticks_for state.Dormant state.Dormant n t b = refl
with_ticks-ticks_for state.Dormant state.Running n t b = capped_below t.dormant (b.all state.Dormant)
with_ticks-ticks_for state.Dormant state.Ready n t b = capped_below t.dormant (b.all state.Dormant)
with_ticks-ticks_for state.Dormant state.Waiting n t b = capped_below t.dormant (b.all state.Dormant)

-- the stay that is over adds its ticks
ended_adds : (s : ProcessState) (window : Span) (ended : Option Stay) (t : Tally) (others : List Stay) → AreBounded t.ticks
    → capped (ticks_for s (with_ended window ended t).ticks + ticks_in_state s window others) ≡ capped (ticks_for s t.ticks + ticks_in_state s window (and_stay ended others))
ended_adds s window None t others b = refl
ended_adds s window (Some stay) t others b =
    ap (λ n. capped (n + ticks_in_state s window others)) (with_ticks-ticks_for s stay.state (ticks_in window stay.span) t.ticks b)
    ∙ capped_again (ticks_for s t.ticks) (ticks_if s stay.state (ticks_in window stay.span)) (ticks_in_state s window others)

ended_bounded : (window : Span) (ended : Option Stay) (t : Tally) → AreBounded t.ticks → AreBounded (with_ended window ended t).ticks
ended_bounded window None t b = b
ended_bounded window (Some stay) t b = record {
  all = λ s. let same = with_ticks-ticks_for s stay.state (ticks_in window stay.span) t.ticks b in
      omega (arith, same, capped_le (ticks_for s t.ticks + ticks_if s stay.state (ticks_in window stay.span)));
}

-- the state that begins does not change the ticks
begun_if-ticks : (b : Bool) (turn : Turn) (t : Tally) → (begun_if b turn t).ticks ≡ t.ticks
begun_if-ticks true turn t = refl
begun_if-ticks false turn t = refl

begun-ticks : (b : Bool) (window : Span) (turn : Turn) (t : Tally) → (begun b window turn t).ticks ≡ t.ticks
begun-ticks true window turn t = refl
begun-ticks false window turn t = begun_if-ticks (has_tick window turn.tick.0) turn t

run_if-ticks : (b : Bool) (a : Activation) (tick : ℕ) (t : Tally) → (run_if b a tick t).ticks ≡ t.ticks
run_if-ticks true a tick t = refl
run_if-ticks false a tick t = refl

run-ticks : (o : Option Activation) (tick : ℕ) (t : Tally) → (run o tick t).ticks ≡ t.ticks
run-ticks None tick t = refl
run-ticks (Some a) tick t = run_if-ticks a.has_run a tick t

over-ticks : (o : Option Activation) (tick : ℕ) (t : Tally) → (over o tick t).ticks ≡ t.ticks
over-ticks None tick t = refl
over-ticks (Some a) tick t = refl

entered-ticks : (next : Option ProcessState) (window : Span) (turn : Turn) (t : Tally) → (entered next window turn t).ticks ≡ t.ticks
entered-ticks None window turn t = refl
entered-ticks (Some state.Ready) window turn t = begun-ticks (ended_running turn.ended) window turn t
entered-ticks (Some state.Running) window turn t = run-ticks t.activation turn.tick.0 t
entered-ticks (Some state.Waiting) window turn t = over-ticks t.activation _ t
entered-ticks (Some state.Dormant) window turn t = over-ticks t.activation _ t

turned-ticks : (window : Span) (turn : Turn) (t : Tally) → (turned window turn t).ticks ≡ (with_ended window turn.ended t).ticks
turned-ticks window turn t = entered-ticks turn.next window turn (with_ended window turn.ended t)

ticks_after : (window : Span) (turns : List Turn) (t : Tally) (s : ProcessState) → AreBounded t.ticks
    → ticks_for s (tally_after window t turns).ticks ≡ capped (ticks_for s t.ticks + ticks_in_state s window (ended_by turns))
ticks_after window [] t s b = capped_below (ticks_for s t.ticks) (b.all s)
ticks_after window (turn ∷ turns) t s b =
    let kept = turned-ticks window turn t in
    let bounded = subst AreBounded (sym kept) (ended_bounded window turn.ended t b) in
    ticks_after window turns (turned window turn t) s bounded
    ∙ ap (λ (x : StateTicks). capped (ticks_for s x + ticks_in_state s window (ended_by turns))) kept
    ∙ ended_adds s window turn.ended t (ended_by turns) b

none_bounded : AreBounded nothing_counted.ticks
none_bounded = record { all = λ s. elim s as (λ r. ticks_for r nothing_counted.ticks ≤ 2 ^ 64 - 1) [ state.Running ↦ omega arith | state.Ready ↦ omega arith | state.Waiting ↦ omega arith | state.Dormant ↦ omega arith ] }

none_so_far : (s : ProcessState) → ticks_for s nothing_counted.ticks ≡ 0
none_so_far state.Running = refl
none_so_far state.Ready = refl
none_so_far state.Waiting = refl
none_so_far state.Dormant = refl

from_none : (a n : ℕ) → a ≡ 0 → capped (a + n) ≡ capped n
from_none a n h = omega (arith, h)

pub sum_of_ticks : (window : Span) (turns : List Turn) (s : ProcessState) → ticks_for s (tally_after window nothing_counted turns).ticks ≡ capped (ticks_in_state s window (ended_by turns))
sum_of_ticks window turns s = ticks_after window turns nothing_counted s none_bounded ∙ from_none (ticks_for s nothing_counted.ticks) (ticks_in_state s window (ended_by turns)) (none_so_far s)

-- ---- activations

begun_if-activations : (b : Bool) (turn : Turn) (t : Tally) → t.activations ≤ 2 ^ 64 - 1 → (begun_if b turn t).activations ≡ capped (t.activations + (if b then 1 else 0))
begun_if-activations true turn t h = refl
begun_if-activations false turn t h = capped_below t.activations h

begun-activations : (b : Bool) (window : Span) (turn : Turn) (t : Tally) → t.activations ≤ 2 ^ 64 - 1
    → (begun b window turn t).activations ≡ capped (t.activations + (if not b && has_tick window turn.tick.0 then 1 else 0))
begun-activations true window turn t h = capped_below t.activations h
begun-activations false window turn t h = begun_if-activations (has_tick window turn.tick.0) turn t h

run_if-activations : (b : Bool) (a : Activation) (tick : ℕ) (t : Tally) → (run_if b a tick t).activations ≡ t.activations
run_if-activations true a tick t = refl
run_if-activations false a tick t = refl

run-activations : (o : Option Activation) (tick : ℕ) (t : Tally) → (run o tick t).activations ≡ t.activations
run-activations None tick t = refl
run-activations (Some a) tick t = run_if-activations a.has_run a tick t

over-activations : (o : Option Activation) (tick : ℕ) (t : Tally) → (over o tick t).activations ≡ t.activations
over-activations None tick t = refl
over-activations (Some a) tick t = refl

entered-activations : (next : Option ProcessState) (window : Span) (turn : Turn) (t : Tally) → t.activations ≤ 2 ^ 64 - 1
    → (entered next window turn t).activations ≡ capped (t.activations + (if is_ready next && not (ended_running turn.ended) && has_tick window turn.tick.0 then 1 else 0))
entered-activations None window turn t h = capped_below t.activations h
entered-activations (Some state.Ready) window turn t h = begun-activations (ended_running turn.ended) window turn t h
entered-activations (Some state.Running) window turn t h = run-activations t.activation turn.tick.0 t ∙ capped_below t.activations h
entered-activations (Some state.Waiting) window turn t h = over-activations t.activation _ t ∙ capped_below t.activations h
entered-activations (Some state.Dormant) window turn t h = over-activations t.activation _ t ∙ capped_below t.activations h

ended-activations : (window : Span) (ended : Option Stay) (t : Tally) → (with_ended window ended t).activations ≡ t.activations
ended-activations window None t = refl
ended-activations window (Some stay) t = refl

turned-activations : (window : Span) (turn : Turn) (t : Tally) → t.activations ≤ 2 ^ 64 - 1
    → (turned window turn t).activations ≡ capped (t.activations + (if is_activation window turn then 1 else 0))
turned-activations window turn t h =
    let same = ended-activations window turn.ended t in
    entered-activations turn.next window turn (with_ended window turn.ended t) (omega (arith, same, h))
    ∙ ap (λ n. capped (n + (if is_activation window turn then 1 else 0))) same

activations_after : (window : Span) (turns : List Turn) (t : Tally) → t.activations ≤ 2 ^ 64 - 1
    → (tally_after window t turns).activations ≡ capped (t.activations + activations window turns)
activations_after window [] t h = capped_below t.activations h
activations_after window (turn ∷ turns) t h =
    let one = turned-activations window turn t h in
    let bounded : (turned window turn t).activations ≤ 2 ^ 64 - 1 = omega (arith, one, capped_le (t.activations + (if is_activation window turn then 1 else 0))) in
    activations_after window turns (turned window turn t) bounded
    ∙ ap (λ n. capped (n + activations window turns)) one
    ∙ capped_again t.activations (if is_activation window turn then 1 else 0) (activations window turns)

pub sum_of_activations : (window : Span) (turns : List Turn) → (tally_after window nothing_counted turns).activations ≡ capped (activations window turns)
sum_of_activations window turns = activations_after window turns nothing_counted (omega arith) ∙ from_none 0 (activations window turns) refl
