-- The ticks that a window has in common with stays, one after another.
use Rattle.std.proofs.Common.{◌≡◌, ◌<◌, ◌≤◌, ℕ, zero, suc, max, min, Bool, true, false, List, [], ◌∷◌, inl, inr, refl, ap, ◌∙◌, arith}
use Rattle.std.specs.Prelude.{◌+◌, ◌-◌, ◌&&◌, nat_le, nat_lt}
use Rattle.std.proofs.lemmas.Bool.{and_left, cases_lt, le-leb, le-ltb, lt-leb, lt-ltb}
use Rattle.apex_types.specs.declared.codes.ProcessState.{ProcessState}
use Rattle.apex_types.specs.declared.codes.ProcessState.TheVariants as state
use Rattle.trace_stays.specs.Stays.{span}
use Rattle.trace_stays.specs.declared.span.Span.{Span}
use Rattle.trace_stays.specs.declared.stay.Stay.{Stay}
use Rattle.trace_view.specs.Counting.{ticks_in}
use Rattle.trace_view.specs.Turns.{ticks_if, ticks_in_state}
use Rattle.trace_windows.specs.Uses.{one_if}
use Rattle.view_laws.specs.Ticks.{has_tick, is_running, running_in, ticks_when}

-- a sum over n ticks from one on
abbrev pub sum_of : (ℕ → ℕ) → (from n : ℕ) → ℕ
sum_of f from zero = 0
sum_of f from (suc n) = sum_of f from n + f (from + n)

pub sum_both : (f g : ℕ → ℕ) (from n : ℕ) → sum_of (λ t. f t + g t) from n ≡ sum_of f from n + sum_of g from n
sum_both f g from zero = omega arith
sum_both f g from (suc n) = let k = sum_both f g from n in omega (arith, k)

pub sum_none : (from n : ℕ) → sum_of (λ t. 0) from n ≡ 0
sum_none from zero = refl
sum_none from (suc n) = let k = sum_none from n in omega (arith, k)

pub sum_same : (f g : ℕ → ℕ) (from n : ℕ) → ((i : ℕ) → i < n → f (from + i) ≡ g (from + i)) → sum_of f from n ≡ sum_of g from n
sum_same f g from zero same = refl
sum_same f g from (suc n) same =
    let k = sum_same f g from n (λ i l. same i (omega (arith, l))) in
    let last = same n (omega arith) in
    omega (arith, k, last)

pub sum_when : (test : ℕ → Bool) (from n : ℕ) → sum_of (λ t. one_if (test t)) from n ≡ ticks_when test from n
sum_when test from zero = refl
sum_when test from (suc n) = ap (λ (k : ℕ). k + one_if (test (from + n))) (sum_when test from n)

-- the ticks of one stay
one_tick : (a b from n : ℕ) → min b (from + n) - max a from + one_if (nat_le a (from + n) && nat_lt (from + n) b) ≡ min b (from + suc n) - max a from
one_tick a b from n = elim (cases_lt (from + n) a) [
  | inl early ↦
      let test = ap one_if (and_left (nat_le a (from + n)) (nat_lt (from + n) b) (lt-leb a (from + n) early)) in
      omega (arith, early, test)
  | inr here ↦ elim (cases_lt (from + n) b) [
    | inl inside ↦
        let test = ap (λ (c : Bool). one_if (c && nat_lt (from + n) b)) (le-leb a (from + n) here) ∙ ap one_if (lt-ltb (from + n) b inside) in
        omega (arith, here, inside, test)
    | inr late ↦
        let test = ap (λ (c : Bool). one_if (c && nat_lt (from + n) b)) (le-leb a (from + n) here) ∙ ap one_if (le-ltb (from + n) b late) in
        omega (arith, here, late, test)
  ]
]

pub stay_ticks : (s : Span) (from n : ℕ) → sum_of (λ t. one_if (has_tick t s)) from n ≡ ticks_in (span from (from + n)) s
stay_ticks s from zero = omega arith
stay_ticks s from (suc n) = ap (λ (k : ℕ). k + one_if (has_tick (from + n) s)) (stay_ticks s from n) ∙ one_tick s.from.0 s.until.0 from n

state_ticks : (s : ProcessState) (o : Span) (from n : ℕ) → sum_of (λ t. one_if (is_running s && has_tick t o)) from n ≡ ticks_if state.Running s (ticks_in (span from (from + n)) o)
state_ticks state.Running o from n = stay_ticks o from n
state_ticks state.Dormant o from n = sum_none from n
state_ticks state.Ready o from n = sum_none from n
state_ticks state.Waiting o from n = sum_none from n

pub stays_ticks : (stays : List Stay) (from n : ℕ) → sum_of (λ t. running_in t stays) from n ≡ ticks_in_state state.Running (span from (from + n)) stays
stays_ticks [] from n = sum_none from n
stays_ticks (s ∷ ss) from n =
    sum_both (λ t. one_if (is_running s.state && has_tick t s.span)) (λ t. running_in t ss) from n
    ∙ ap (λ (k : ℕ). k + sum_of (λ t. running_in t ss) from n) (state_ticks s.state s.span from n)
    ∙ ap (λ (k : ℕ). ticks_if state.Running s.state (ticks_in (span from (from + n)) s.span) + k) (stays_ticks ss from n)

-- no more than there are
pub few_when : (test : ℕ → Bool) (from n : ℕ) → ticks_when test from n ≤ n
few_when test from zero = omega arith
few_when test from (suc n) = let h = few_when test from n in let k = one_most (test (from + n)) in omega (arith, h, k)
  where
    one_most : (b : Bool) → one_if b ≤ 1
    one_most true = omega arith
    one_most false = omega arith
