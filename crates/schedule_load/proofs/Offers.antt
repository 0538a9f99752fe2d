-- What is offered in one period more, and in many that are alike.
use Rattle.std.proofs.Common.{◌≡◌, ℕ, zero, suc, ◌+◌, ◌*◌, ◌/◌, ◌<◌, ◌≤◌, min, max, Bool, cond, Option, Some, refl, sym, ap, ◌∙◌, arith, if◌then◌else◌, eq-eqb, mul-le-mul_right}
use Rattle.std.proofs.Math.Nat.{mul-le-mul_left}
use Rattle.std.proofs.lemmas.Bool.{ne_eqb}
use Rattle.kernel_meaning.specs.Windows.{Schedule}
use Rattle.schedule_load.specs.Ownership.{is_of, owner_at, offered_in, least_offered, most_offered, periods_of}
use Rattle.schedule_load.specs.declared.periods.Offered.{Offered}
use Rattle.schedule_load.proofs.Counts.{ticks_of-none, ticks_of-stretch}

-- what is offered in the first `n` periods
abbrev pub offers : Schedule → (partition period : ℕ) → ℕ → Offered
offers s p period n = record { least = least_offered s p period n; most = most_offered s p period n }

pub start : (s : Schedule) (p period : ℕ) → record { least = period; most = 0 } ≡ offers s p period 0
unfolding least_offered most_offered
start s p period = refl

one_least : (s : Schedule) (p period n : ℕ) → least_offered s p period (suc n) ≡ min (offered_in s p period n) (least_offered s p period n)
unfolding least_offered
one_least s p period n = refl

one_most : (s : Schedule) (p period n : ℕ) → most_offered s p period (suc n) ≡ max (offered_in s p period n) (most_offered s p period n)
unfolding most_offered
one_most s p period n = refl

-- ---- periods that are alike

least_more : (s : Schedule) (p period k n ticks : ℕ) → ((i : ℕ) → i < suc n → offered_in s p period (k + i) ≡ ticks) → least_offered s p period (k + suc n) ≡ min ticks (least_offered s p period k)
least_more s p period k zero ticks same =
    let next : k + suc zero ≡ suc k = omega arith in
    let here : k + 0 ≡ k = omega arith in
    ap (least_offered s p period) next ∙ one_least s p period k
    ∙ ap (λ t. min t (least_offered s p period k)) (ap (offered_in s p period) (sym here) ∙ same 0 (omega arith))
least_more s p period k (suc n) ticks same =
    let next : k + suc (suc n) ≡ suc (k + suc n) = omega arith in
    let before = least_more s p period k n ticks (λ i below. same i (omega (arith, below))) in
    let x = least_offered s p period k in
    let twice : min ticks (min ticks x) ≡ min ticks x = omega arith in
    ap (least_offered s p period) next ∙ one_least s p period (k + suc n)
    ∙ ap (λ t. min t (least_offered s p period (k + suc n))) (same (suc n) (omega arith))
    ∙ ap (λ l. min ticks l) before ∙ twice

most_more : (s : Schedule) (p period k n ticks : ℕ) → ((i : ℕ) → i < suc n → offered_in s p period (k + i) ≡ ticks) → most_offered s p period (k + suc n) ≡ max ticks (most_offered s p period k)
most_more s p period k zero ticks same =
    let next : k + suc zero ≡ suc k = omega arith in
    let here : k + 0 ≡ k = omega arith in
    ap (most_offered s p period) next ∙ one_most s p period k
    ∙ ap (λ t. max t (most_offered s p period k)) (ap (offered_in s p period) (sym here) ∙ same 0 (omega arith))
most_more s p period k (suc n) ticks same =
    let next : k + suc (suc n) ≡ suc (k + suc n) = omega arith in
    let before = most_more s p period k n ticks (λ i below. same i (omega (arith, below))) in
    let x = most_offered s p period k in
    let twice : max ticks (max ticks x) ≡ max ticks x = omega arith in
    ap (most_offered s p period) next ∙ one_most s p period (k + suc n)
    ∙ ap (λ t. max t (most_offered s p period (k + suc n))) (same (suc n) (omega arith))
    ∙ ap (λ l. max ticks l) before ∙ twice

-- some more periods, which are alike
pub goes_on : (s : Schedule) (p period k n ticks : ℕ) (before after : Offered) → 0 < n → ((i : ℕ) → i < n → offered_in s p period (k + i) ≡ ticks)
    → after ≡ record { least = min ticks before.least; most = max ticks before.most } → before ≡ offers s p period k → after ≡ offers s p period (k + n)
goes_on s p period k zero ticks before after some same next h = absurd (omega (arith, some))
goes_on s p period k (suc n) ticks before after some same next h =
    next
    ∙ ap (λ (o : Offered). record { least = min ticks o.least; most = max ticks o.most }) h
    ∙ ap (λ l. record { least = l; most = max ticks (most_offered s p period k) }) (sym (least_more s p period k n ticks same))
    ∙ ap (λ m. record { least = least_offered s p period (k + suc n); most = m }) (sym (most_more s p period k n ticks same))

-- one of several periods that lie in a stretch of `n` ticks with one owner
pub in_stretch : (s : Schedule) (p period k low n count : ℕ) (owner : Option ℕ) → low ≡ k * period → ((j : ℕ) → j < n → owner_at s (low + j) ≡ owner) → count * period ≤ n
    → (i : ℕ) → i < count → offered_in s p period (k + i) ≡ cond (is_of (Some p) owner) period 0
in_stretch s p period k low n count owner begins same fits i below =
    let first = (k + i) * period in
    let last = (k + i + 1) * period in
    let far : (i + 1) * period ≤ count * period = mul-le-mul_right period (omega (arith, below)) in
    let here : first ≡ low + i * period = omega (arith, begins) in
    let end : first + period ≡ last = omega arith in
    let owned : (j : ℕ) → j < period → owner_at s (first + j) ≡ owner = λ j within. (let at : first + j ≡ low + (i * period + j) = omega (arith, here) in ap (owner_at s) at ∙ same (i * period + j) (omega (arith, far, fits, within))) in
    let value = cond (is_of (Some p) owner) period 0 in
    ticks_of-stretch s (Some p) owner first period last (omega (arith, end)) owned
    ∙ ap (λ t. value + t) (ticks_of-none s (Some p) (first + period) last (omega (arith, end)))
    ∙ omega arith

-- `count` periods fit into a stretch
pub fit : (n period count other : ℕ) → count ≡ min (n / period) other → count * period ≤ n
fit n period count other is =
    let less : count ≤ n / period = omega (arith, is) in
    let m = mul-le-mul_right period less in
    let d : period * (n / period) ≤ n = omega arith in
    omega (arith, m, d)

-- there are no more periods than ticks
pub few : (frame period : ℕ) → 0 < period → frame / period ≤ frame
few frame period there =
    let m : frame / period * 1 ≤ frame / period * period = mul-le-mul_left (frame / period) there in
    let d : period * (frame / period) ≤ frame = omega arith in
    omega (arith, m, d)

-- ---- no period, and all periods

pub none_offered : (s : Schedule) (p period frame : ℕ) → period ≡ 0 → record { least = period; most = 0 } ≡ offers s p period (periods_of frame period)
none_offered s p period frame none =
    start s p period ∙ ap (λ (b : Bool). offers s p period (if b then 0 else frame / period)) (sym (eq-eqb period 0 none))

pub all_offered : (s : Schedule) (p period frame passed : ℕ) (offered : Offered) → 0 < period → passed ≤ frame / period → frame / period ≤ passed → offered ≡ offers s p period passed
    → offered ≡ offers s p period (periods_of frame period)
all_offered s p period frame passed offered there within over h =
    let all : passed ≡ frame / period = omega (arith, within, over) in
    h ∙ ap (offers s p period) all ∙ ap (λ (b : Bool). offers s p period (if b then 0 else frame / period)) (sym (ne_eqb period 0 (λ is. omega (arith, is, there))))
