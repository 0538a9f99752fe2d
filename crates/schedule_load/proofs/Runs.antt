-- The gaps of the frame, stretch by stretch.
use Rattle.std.proofs.Common.{◌≡◌, ℕ, zero, suc, ◌+◌, ◌-◌, ◌<◌, ◌≤◌, cond, is_none, List, ◌++◌, Option, Some, None, refl, sym, ap, ◌∙◌, arith, append_assoc}
use Rattle.kernel_meaning.specs.Windows.{Schedule}
use Rattle.schedule_load.specs.Ownership.{owner_at}
use Rattle.schedule_load.specs.Gaps.{closed, gap_before, gaps_from, gaps_of, still_open}
use Rattle.schedule_load.specs.declared.unowned.Gap.{Gap}

-- one tick more
one_tick : (s : Schedule) (begun tick n : ℕ) → gaps_from s begun tick (suc n) ≡ cond (is_none (owner_at s tick)) (gaps_from s (begun + 1) (tick + 1) n) (gap_before begun tick ++ gaps_from s 0 (tick + 1) n)
unfolding gaps_from
one_tick s begun tick n = refl

no_tick : (s : Schedule) (begun tick : ℕ) → gaps_from s begun tick 0 ≡ gap_before begun tick
unfolding gaps_from
no_tick s begun tick = refl

first : (s : Schedule) (tick n : ℕ) (owner : Option ℕ) → ((i : ℕ) → i < suc n → owner_at s (tick + i) ≡ owner) → owner_at s tick ≡ owner
first s tick n owner h = let same : tick + 0 ≡ tick = omega arith in ap (owner_at s) (sym same) ∙ h 0 (omega arith)

others : (s : Schedule) (tick n : ℕ) (owner : Option ℕ) → ((i : ℕ) → i < suc n → owner_at s (tick + i) ≡ owner) → (i : ℕ) → i < n → owner_at s (tick + 1 + i) ≡ owner
others s tick n owner h i below = let next : tick + 1 + i ≡ tick + suc i = omega arith in ap (owner_at s) next ∙ h (suc i) (omega (arith, below))

moved : (s : Schedule) (begun far tick on n : ℕ) → begun ≡ far → tick ≡ on → gaps_from s begun tick n ≡ gaps_from s far on n
moved s begun far tick on n one two = ap (λ o. gaps_from s o tick n) one ∙ ap (λ t. gaps_from s far t n) two

step : (s : Schedule) (begun tick n m : ℕ) (owner : Option ℕ) → owner_at s tick ≡ owner
    → gaps_from s begun tick (suc n + m) ≡ cond (is_none owner) (gaps_from s (begun + 1) (tick + 1) (n + m)) (gap_before begun tick ++ gaps_from s 0 (tick + 1) (n + m))
step s begun tick n m owner is =
    let count : suc n + m ≡ suc (n + m) = omega arith in
    ap (gaps_from s begun tick) count ∙ one_tick s begun tick (n + m)
    ∙ ap (λ o. cond (is_none o) (gaps_from s (begun + 1) (tick + 1) (n + m)) (gap_before begun tick ++ gaps_from s 0 (tick + 1) (n + m))) is

-- ticks that no partition owns
unowned : (s : Schedule) (begun tick n m : ℕ) → ((i : ℕ) → i < n → owner_at s (tick + i) ≡ None) → gaps_from s begun tick (n + m) ≡ gaps_from s (begun + n) (tick + n) m
unowned s begun tick zero m h =
    let all : 0 + m ≡ m = omega arith in
    ap (gaps_from s begun tick) all ∙ moved s begun (begun + 0) tick (tick + 0) m (omega arith) (omega arith)
unowned s begun tick (suc n) m h =
    step s begun tick n m None (first s tick n None h)
    ∙ unowned s (begun + 1) (tick + 1) n m (others s tick n None h)
    ∙ moved s (begun + 1 + n) (begun + suc n) (tick + 1 + n) (tick + suc n) m (omega arith) (omega arith)

-- ticks of a partition, where nothing is begun
owned : (s : Schedule) (p tick n m : ℕ) → ((i : ℕ) → i < n → owner_at s (tick + i) ≡ Some p) → gaps_from s 0 tick (n + m) ≡ gaps_from s 0 (tick + n) m
owned s p tick zero m h =
    let all : 0 + m ≡ m = omega arith in
    ap (gaps_from s 0 tick) all ∙ moved s 0 0 tick (tick + 0) m refl (omega arith)
owned s p tick (suc n) m h =
    step s 0 tick n m (Some p) (first s tick n (Some p) h)
    ∙ owned s p (tick + 1) n m (others s tick n (Some p) h)
    ∙ moved s 0 0 (tick + 1 + n) (tick + suc n) m refl (omega arith)

-- a stretch of ticks with one owner
stretch : (s : Schedule) (owner : Option ℕ) (begun tick n m : ℕ) → 0 < n → ((i : ℕ) → i < n → owner_at s (tick + i) ≡ owner)
    → gaps_from s begun tick (n + m) ≡ closed begun tick owner ++ gaps_from s (still_open begun n owner) (tick + n) m
stretch s None begun tick n m some h = unowned s begun tick n m h
stretch s (Some p) begun tick zero m some h = absurd (omega (arith, some))
stretch s (Some p) begun tick (suc n) m some h =
    step s begun tick n m (Some p) (first s tick n (Some p) h)
    ∙ ap (λ l. gap_before begun tick ++ l) (owned s p (tick + 1) n m (others s tick n (Some p) h) ∙ moved s 0 0 (tick + 1 + n) (tick + suc n) m refl (omega arith))

-- no more has begun than the ticks so far
pub begun_at_most : (begun n : ℕ) (owner : Option ℕ) (left : ℕ) → left ≡ still_open begun n owner → left ≤ begun + n
begun_at_most begun n None left is = omega (arith, is)
begun_at_most begun n (Some p) left is = omega (arith, is)

-- one stretch more
pub goes_on : (s : Schedule) (owner : Option ℕ) (before after : List Gap) (begun left tick n : ℕ) → 0 < n → tick + n ≤ s.frame → ((i : ℕ) → i < n → owner_at s (tick + i) ≡ owner)
    → after ≡ before ++ closed begun tick owner → left ≡ still_open begun n owner
    → before ++ gaps_from s begun tick (s.frame - tick) ≡ gaps_of s → after ++ gaps_from s left (tick + n) (s.frame - (tick + n)) ≡ gaps_of s
goes_on s owner before after begun left tick n some fits same added is h =
    let m = s.frame - (tick + n) in
    let parts : s.frame - tick ≡ n + m = omega (arith, fits) in
    ap (λ l. l ++ gaps_from s left (tick + n) m) added
    ∙ ap (λ o. before ++ closed begun tick owner ++ gaps_from s o (tick + n) m) is
    ∙ append_assoc before (closed begun tick owner) (gaps_from s (still_open begun n owner) (tick + n) m)
    ∙ ap (λ l. before ++ l) (sym (stretch s owner begun tick n m some same) ∙ sym (ap (gaps_from s begun tick) parts))
    ∙ h

-- all ticks are followed
pub ends : (s : Schedule) (before after : List Gap) (begun tick : ℕ) → s.frame ≤ tick → after ≡ before ++ gap_before begun tick
    → before ++ gaps_from s begun tick (s.frame - tick) ≡ gaps_of s → after ≡ gaps_of s
ends s before after begun tick over added h =
    let none : s.frame - tick ≡ 0 = omega (arith, over) in
    added ∙ ap (λ l. before ++ l) (sym (no_tick s begun tick) ∙ sym (ap (gaps_from s begun tick) none)) ∙ h
