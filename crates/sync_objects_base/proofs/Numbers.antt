-- A program's number as the number of an object.
use Rattle.std.proofs.Common.{◌≡◌, ℕ, zero, suc, ◌+◌, ◌<◌, ◌≤◌, ℤ, pos, negsuc, nat_abs, List, [], ◌∷◌, length, None, refl, ap, arith}
use Rattle.std.proofs.lemmas.Int.{ints}
use Rattle.std.specs.Prelude.{◌<ℤ◌, ◌≤ℤ◌, slice_get}
use Rattle.kernel_meaning.specs.Objects.{numbered_in, placed}

pub numbered-low : {X : Type 0} (xs : List X) (id : ℤ) → id <ℤ pos 1 → numbered_in xs id ≡ None
numbered-low xs (negsuc n) h = refl
numbered-low xs (pos zero) h = refl
numbered-low xs (pos (suc n)) h = absurd (omega (arith, ints))

past : {X : Type 0} (xs : List X) (n : ℕ) → length xs ≤ n → slice_get xs n ≡ None
past [] n h = refl
past (x ∷ xs) zero h = absurd (omega arith)
past (x ∷ xs) (suc n) h = past xs n (omega arith)

pub numbered-high : {X : Type 0} (xs : List X) (id : ℤ) → pos 1 ≤ℤ id → length xs < nat_abs id → numbered_in xs id ≡ None
numbered-high xs (negsuc n) h e = refl
numbered-high xs (pos zero) h e = refl
numbered-high xs (pos (suc n)) h e = ap (placed n) (past xs n (omega arith))

pub numbered-number : {X : Type 0} (xs : List X) (id : ℤ) (place : ℕ) → pos 1 ≤ℤ id → nat_abs id ≡ place + 1 → numbered_in xs id ≡ placed place (slice_get xs place)
numbered-number xs (negsuc n) place h e = absurd (omega (arith, ints))
numbered-number xs (pos zero) place h e = absurd (omega (arith, ints))
numbered-number xs (pos (suc n)) place h e = let same : n ≡ place = omega (arith, ints) in ap (λ (k : ℕ). placed k (slice_get xs k)) same

pub ruleset numbers = (numbered-low, numbered-high, numbered-number)
