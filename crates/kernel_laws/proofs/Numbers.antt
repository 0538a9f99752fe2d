-- A program's number as the number of a process.
use Rattle.kernel_laws.proofs.Prelude.{◌≡◌, ℕ, zero, suc, ◌+◌, ◌≤◌, ℤ, nat_abs, List, ◌∷◌, length, None, refl, arith, slice_get, ProcessStatus, first_words, Processes, process_at, numbered, index, row_of}
use Rattle.std.proofs.Common.{pos, negsuc, [], ap}
use Rattle.std.proofs.lemmas.Int.{ints}
use Rattle.std.specs.Prelude.{◌<ℤ◌, ◌≤ℤ◌}
use Rattle.apex_types.specs.declared.identity.Runner.TheVariants as runner
use Rattle.kernel_meaning.specs.Partition.{most_words}
use Rattle.std.specs.Prelude.{take, min}
use Rattle.apex_types.specs.declared.limits.TheConstants.{MOST_WORDS}

pub process_at-low : (s : Processes) (id : ℤ) → id <ℤ pos 1 → process_at s id ≡ None
process_at-low s (negsuc n) h = refl
process_at-low s (pos zero) h = refl
process_at-low s (pos (suc n)) h = absurd (omega (arith, ints))

pub process_at-number : (s : Processes) (id : ℤ) (place : ℕ) → pos 1 ≤ℤ id → nat_abs id ≡ place + 1 → process_at s id ≡ numbered (index place) (row_of s (runner.Process (index place)))
process_at-number s (negsuc n) place h e = absurd (omega (arith, ints))
process_at-number s (pos zero) place h e = absurd (omega (arith, ints))
process_at-number s (pos (suc n)) place h e = let same : n ≡ place = omega (arith, ints) in ap (λ (k : ℕ). numbered (index k) (row_of s (runner.Process (index k)))) same

past : (xs : List ProcessStatus) (n : ℕ) → length xs ≤ n → slice_get xs n ≡ None
past [] n h = refl
past (x ∷ xs) zero h = absurd (omega arith)
past (x ∷ xs) (suc n) h = past xs n (omega arith)

pub process_at-high : (s : Processes) (id : ℤ) → pos (length s.rows) <ℤ id → process_at s id ≡ None
process_at-high s (negsuc n) h = refl
process_at-high s (pos zero) h = refl
process_at-high s (pos (suc n)) h = let e : slice_get s.rows (suc (suc n)) ≡ None = past s.rows (suc (suc n)) (omega (arith, ints)) in ap (numbered (index n)) e

pub ruleset numbers = (process_at-low, process_at-number, process_at-high)

-- a valid length is a number of words
pub first_words-count : (count : ℤ) (words : List ℤ) → pos 1 ≤ℤ count → first_words count words ≡ take (nat_abs count) words
first_words-count (pos n) words h = refl
first_words-count (negsuc n) words h = absurd (omega (arith, ints))

pub most_words-low : (size : ℤ) → size <ℤ pos 0 → most_words size ≡ 0
most_words-low (pos n) h = absurd (omega (arith, ints))
most_words-low (negsuc n) h = refl

pub most_words-count : (size : ℤ) → pos 0 ≤ℤ size → most_words size ≡ min (nat_abs size) MOST_WORDS
most_words-count (pos n) h = refl
most_words-count (negsuc n) h = absurd (omega (arith, ints))

pub ruleset handed_words = (first_words-count, most_words-low, most_words-count)
