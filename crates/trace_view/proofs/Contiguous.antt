-- Each tick of stays that follow one another counts for one state.
use Rattle.std.proofs.Common.{◌≡◌, ◌≤◌, ℕ, ◌+◌, ◌-◌, max, min, List, [], ◌∷◌, Some, refl, sym, ap, ◌∙◌, arith}
use Rattle.apex_types.specs.declared.codes.ProcessState.{ProcessState}
use Rattle.apex_types.specs.declared.codes.ProcessState.TheVariants as state
use Rattle.trace_stays.specs.Stays.{left_at, span, stay_until, tick}
use Rattle.trace_stays.specs.declared.next.Next.TheVariants.{Enters}
use Rattle.trace_stays.specs.declared.span.Span.{Span}
use Rattle.trace_stays.specs.declared.stay.Held.{Held}
use Rattle.trace_stays.specs.declared.stay.Stay.{Stay}
use Rattle.trace_view.specs.Counting.{ticks_in}
use Rattle.trace_view.specs.Turns.{AreContiguous, StateLine, stays_in, stays_until, ticks_if, ticks_in_all, ticks_in_state}

-- stays that follow one another begin no later than they end
pub in_order : (from until : ℕ) (stays : List Stay) → AreContiguous from stays until → from ≤ until
in_order from until [] same = omega (arith, same)
in_order from until (stay ∷ stays) (begins, below, rest) = omega (arith, below, in_order stay.span.until.0 until stays rest)

-- one of the four has the ticks of a stay
one_state : (s : ProcessState) (n : ℕ) → ticks_if state.Running s n + ticks_if state.Ready s n + ticks_if state.Waiting s n + ticks_if state.Dormant s n ≡ n
one_state state.Running n = omega arith
one_state state.Ready n = omega arith
one_state state.Waiting n = omega arith
one_state state.Dormant n = omega arith

-- the ticks before a tick in between, and those from it on, are all
two_parts : (a b c x y : ℕ) → a ≤ b → b ≤ c → (min b y - max a x) + (min c y - max b x) ≡ min c y - max a x
two_parts a b c x y h k = omega (arith, h, k)

regrouped : (r1 r2 w1 w2 d1 d2 e1 e2 n all : ℕ) → r1 + w1 + d1 + e1 ≡ n → r2 + w2 + d2 + e2 ≡ all → (r1 + r2) + (w1 + w2) + (d1 + d2) + (e1 + e2) ≡ n + all
regrouped r1 r2 w1 w2 d1 d2 e1 e2 n all h k = omega (arith, h, k)

nothing : (a x y : ℕ) → min a y - max a x ≡ 0
nothing a x y = omega arith

pub each_once : (window : Span) (from until : ℕ) (stays : List Stay) → AreContiguous from stays until → ticks_in_all window stays ≡ ticks_in window (span from until)
each_once window from until [] same = sym (nothing until window.from.0 window.until.0) ∙ ap (λ a. min until window.until.0 - max a window.from.0) (sym same)
each_once window from until (stay ∷ stays) (begins, below, rest) =
    let n = ticks_in window stay.span in
    let both = regrouped
    (ticks_if state.Running stay.state n) (ticks_in_state state.Running window stays) (ticks_if state.Ready stay.state n) (ticks_in_state state.Ready window stays)
    (ticks_if state.Waiting stay.state n) (ticks_in_state state.Waiting window stays) (ticks_if state.Dormant stay.state n) (ticks_in_state state.Dormant window stays)
    n (ticks_in window (span stay.span.until.0 until)) (one_state stay.state n) (each_once window stay.span.until.0 until stays rest) in
    both ∙ ap (λ a. (min stay.span.until.0 window.until.0 - max a window.from.0) + ticks_in window (span stay.span.until.0 until)) begins
    ∙ two_parts from stay.span.until.0 until window.from.0 window.until.0 below (in_order stay.span.until.0 until stays rest)

max_ge : (a b : ℕ) → a ≤ max a b
max_ge a b = omega arith

-- the stays of a process follow one another
pub follow : (held : Held) (lines : List StateLine) (until : ℕ) → AreContiguous held.since.0 (stays_in (Some held) lines until) (stays_until held lines until)
follow held [] until = (refl, max_ge held.since.0 until, refl)
follow held (line ∷ lines) until =
    (refl, max_ge held.since.0 (left_at held.state (Enters line.state) line.tick), follow (record { state = line.state; since = tick (stay_until held (Enters line.state) line.tick) }) lines until)
