-- The ticks until a release, and the conclusion from one period to all.
use Rattle.std.proofs.Common.{◌≡◌, ℕ, zero, suc, ◌+◌, ◌*◌, ◌/◌, ◌<◌, ◌≤◌, min, Bool, true, false, ◌||◌, cond, nat_lt, List, [], ◌∷◌, refl, sym, ap, ◌∙◌, arith, inl, inr}
use Rattle.std.proofs.Common.{mul-le-mul_right, ◌⊎◌}
use Rattle.std.proofs.lemmas.Bool.{false≢true, le-ltb}
use Rattle.apex_types.specs.declared.identity.At.{At}
use Rattle.apex_types.specs.declared.row.WindowRow.{WindowRow}
use Rattle.kernel_meaning.specs.Windows.{Schedule, releases, until_start, until_one_of}
use Rattle.module_meaning.specs.Table.{offered, falls_short}

cond-at-most : (b : Bool) (x y frame : ℕ) → y ≤ frame → cond b (min x y) y ≤ frame
cond-at-most true x y frame h = omega arith
cond-at-most false x y frame h = h

pub until_at_most : (s : Schedule) (p : ℕ) (at : At) (ws : List WindowRow) → until_one_of s p at ws ≤ s.frame
until_at_most s p at [] = omega arith
until_at_most s p at (w ∷ ws) = cond-at-most (releases p w) (until_start s w at) (until_one_of s p at ws) s.frame (until_at_most s p at ws)

pub until_first : (s : Schedule) (p : ℕ) (at : At) (ws : List WindowRow) → until_one_of s p at ws ≡ min s.frame (until_one_of s p at ws)
until_first s p at ws = let h = until_at_most s p at ws in omega arith

or-right : (a b : Bool) → b ≡ true → (a || b) ≡ true
or-right true b h = refl
or-right false b h = h

or-left : (a b : Bool) → a ≡ true → (a || b) ≡ true
or-left true b h = refl
or-left false b h = absurd (false≢true h)

split : (k n : ℕ) → k < suc n → (k ≡ n) ⊎ (k < n)
split zero zero h = inl refl
split zero (suc n) h = inr (omega arith)
split (suc k) zero h = absurd (omega arith)
split (suc k) (suc n) h = elim (split k n (omega arith)) [ inl e ↦ inl (ap suc e) | inr l ↦ inr (omega arith) ]

-- one period that falls short is enough
pub one_short : (n k p period duration : ℕ) (ws : List WindowRow) → k < n → nat_lt (offered p (k * period) ((k + 1) * period) ws) duration ≡ true → falls_short n p period duration ws ≡ true
unfolding falls_short
one_short zero k p period duration ws h short = absurd (omega arith)
one_short (suc n) k p period duration ws h short = elim (split k n h) [
  | inl e ↦ or-left (nat_lt (offered p (n * period) ((n + 1) * period) ws) duration) _ (rw (← e) short)
  | inr l ↦ or-right _ _ (one_short n k p period duration ws l short)
]

-- a duration of 0 is offered in each period
pub none_is_enough : (n p period : ℕ) (ws : List WindowRow) → falls_short n p period 0 ws ≡ false
unfolding falls_short
none_is_enough zero p period ws = refl
none_is_enough (suc n) p period ws = or-both (nat_lt (offered p (n * period) ((n + 1) * period) ws) 0) (falls_short n p period 0 ws) (le-ltb (offered p (n * period) ((n + 1) * period) ws) 0 (omega arith)) (none_is_enough n p period ws)
  where
    or-both : (a b : Bool) → a ≡ false → b ≡ false → (a || b) ≡ false
    or-both a b h k = cc

-- a partition without a duration is offered it
pub no_duration : (n p period duration same : ℕ) (ws : List WindowRow) → duration ≡ same → duration ≡ 0 → false ≡ falls_short n p period same ws
no_duration n p period duration same ws is none =
    sym (ap (λ (d : ℕ). falls_short n p period d ws) (sym is ∙ none) ∙ none_is_enough n p period ws)

-- the end of a period of the frame
pub period_within : (frame period k : ℕ) → k < frame / period → 0 < period → (k + 1) * period ≤ frame
period_within frame period k h there =
    let some : k + 1 ≤ frame / period = omega arith in
    let m = mul-le-mul_right period some in
    let d : period * (frame / period) ≤ frame = omega arith in
    omega arith

-- the result of the loop over periods
pub short_here : (n k p period duration low : ℕ) (ws rest rested : List WindowRow) (b : Bool) (same_period same_duration : ℕ) → period ≡ same_period → duration ≡ same_duration → low ≡ k * period → k < n → offered p low (low + period) rested ≡ offered p low (low + period) rest → offered p low (low + period) rest ≡ offered p low (low + period) ws → b ≡ nat_lt (offered p low (low + period) rested) duration → b ≡ true → true ≡ falls_short n p same_period same_duration ws
short_here n k p period duration low ws rest rested b same_period same_duration pe de start below one two is short =
    let end : (k + 1) * period ≡ low + period = omega arith in
    rw (← pe, ← de) (sym (one_short n k p period duration ws below (rw (end, ← start, ← two, ← one) (sym is ∙ short))))
