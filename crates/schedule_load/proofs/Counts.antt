-- The ticks of a stretch are counted in one step.
use Rattle.std.proofs.Common.{◌≡◌, ℕ, zero, suc, ◌+◌, ◌-◌, ◌<◌, ◌≤◌, Bool, true, false, cond, ◌∷◌, ◌++◌, Option, refl, sym, ap, ◌∙◌, arith, count_by}
use Rattle.std.specs.List.{range_with_len}
use Rattle.std.proofs.lemmas.List.Sums.{sum_by-cons, sum_by-append}
use Rattle.kernel_meaning.specs.Windows.{Schedule}
use Rattle.schedule_load.specs.Ownership.{is_of, owner_at, ticks_of}

pub range-append : (a m n : ℕ) → range_with_len a (m + n) ≡ range_with_len a m ++ range_with_len (a + m) n
range-append a zero n =
    let all : 0 + n ≡ n = omega arith in
    let same : a + 0 ≡ a = omega arith in
    ap (range_with_len a) all ∙ ap (λ k. range_with_len k n) (sym same)
range-append a (suc m) n =
    let all : suc m + n ≡ suc (m + n) = omega arith in
    let same : a + 1 + m ≡ a + suc m = omega arith in
    ap (range_with_len a) all ∙ ap (λ l. a ∷ l) (range-append (a + 1) m n ∙ ap (λ k. range_with_len (a + 1) m ++ range_with_len k n) same)

none_more : (b : Bool) (n : ℕ) → n ≡ cond b n n
none_more true n = refl
none_more false n = refl

one_more : (b : Bool) (n : ℕ) → cond b 1 0 + cond b n 0 ≡ cond b (suc n) 0
one_more true n = omega arith
one_more false n = refl

-- a test that gives the same result for all these ticks
all_alike : (p : ℕ → Bool) (b : Bool) (a n : ℕ) → ((i : ℕ) → i < n → p (a + i) ≡ b) → count_by p (range_with_len a n) ≡ cond b n 0
all_alike p b a zero h = none_more b 0
all_alike p b a (suc n) h =
    let same : a + 0 ≡ a = omega arith in
    let here : p a ≡ b = ap p (sym same) ∙ h 0 (omega arith) in
    let rest : (i : ℕ) → i < n → p (a + 1 + i) ≡ b = λ i below. (let next : a + 1 + i ≡ a + suc i = omega arith in ap p next ∙ h (suc i) (omega (arith, below))) in
    sum_by-cons (λ x. cond (p x) 1 0) a (range_with_len (a + 1) n)
    ∙ ap (λ v. cond v 1 0 + count_by p (range_with_len (a + 1) n)) here
    ∙ ap (λ v. cond b 1 0 + v) (all_alike p b (a + 1) n rest)
    ∙ one_more b n

-- a stretch of ticks with one owner, and the ticks after it
pub ticks_of-stretch : (s : Schedule) (who owner : Option ℕ) (low n high : ℕ) → low + n ≤ high → ((i : ℕ) → i < n → owner_at s (low + i) ≡ owner)
    → ticks_of s who low high ≡ cond (is_of who owner) n 0 + ticks_of s who (low + n) high
unfolding ticks_of
ticks_of-stretch s who owner low n high fits same =
    let p : ℕ → Bool = λ t. is_of who (owner_at s t) in
    let left = high - (low + n) in
    let parts : high - low ≡ n + left = omega (arith, fits) in
    ap (λ m. count_by p (range_with_len low m)) parts
    ∙ ap (count_by p) (range-append low n left)
    ∙ sum_by-append (λ x. cond (p x) 1 0) (range_with_len low n) (range_with_len (low + n) left)
    ∙ ap (λ v. v + count_by p (range_with_len (low + n) left)) (all_alike p (is_of who owner) low n (λ i below. ap (is_of who) (same i below)))

-- nothing is left
pub ticks_of-none : (s : Schedule) (who : Option ℕ) (low high : ℕ) → high ≤ low → ticks_of s who low high ≡ 0
unfolding ticks_of
ticks_of-none s who low high over =
    let none : high - low ≡ 0 = omega (arith, over) in
    ap (λ m. count_by (λ t. is_of who (owner_at s t)) (range_with_len low m)) none

-- one stretch more
pub goes_on : (s : Schedule) (who owner : Option ℕ) (count more low n high total : ℕ) → low + n ≤ high → ((i : ℕ) → i < n → owner_at s (low + i) ≡ owner)
    → more ≡ cond (is_of who owner) n 0 → count + ticks_of s who low high ≡ total → count + more + ticks_of s who (low + n) high ≡ total
goes_on s who owner count more low n high total fits same is h =
    let step = ticks_of-stretch s who owner low n high fits same in
    let rest = ticks_of s who (low + n) high in
    let parts : count + more + rest ≡ count + (more + rest) = omega arith in
    parts ∙ ap (λ v. count + (v + rest)) is ∙ ap (λ v. count + v) (sym step) ∙ h

-- all are counted
pub ends : (s : Schedule) (who : Option ℕ) (count low high total : ℕ) → high ≤ low → count + ticks_of s who low high ≡ total → count ≡ total
ends s who count low high total over h =
    let none = ticks_of-none s who low high over in
    omega (arith, none, h)
