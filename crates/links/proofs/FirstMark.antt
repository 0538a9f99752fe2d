-- The lowest bit that is set.
use Rattle.links.proofs.Prelude.{◌≡◌, ◌⊎◌, inl, inr, ℕ, ◌+◌, ◌*◌, ◌<◌, ◌≤◌, List, ap, ◌∙◌, arith, slice_index, w64, bit_at, cases_lt, cases_eq, bit_at-zero, MARK_BITS, IsLowest}
use Rattle.std.proofs.Common.{◌^◌}
use Rattle.std.specs.Int.{trailing_zeros}
use Rattle.std.proofs.lemmas.Nat.Bits.{bit_at-trailing_zeros}

pub lowest : (marks : List ℕ) (word : ℕ) → ((w : ℕ) → w < word → slice_index marks w ≡ 0) → 0 < slice_index marks word → slice_index marks word < 2 ^ 64 → IsLowest marks (word * MARK_BITS + trailing_zeros w64 (slice_index marks word))
lowest marks word before some small =
    let x = slice_index marks word in
    let h = bit_at-trailing_zeros w64 x some small in
    let n = trailing_zeros w64 x in
    record { word = word; bit = n; is = omega arith; below = h.0; set = h.1; lowest = λ w b lt less. at_word w b lt less }
  where
    at_word : (w b : ℕ) → b < MARK_BITS → MARK_BITS * w + b < word * MARK_BITS + trailing_zeros w64 (slice_index marks word) → bit_at (slice_index marks w) b ≡ 0
    at_word w b lt less = by_word (cases_lt w word) (cases_eq w word)
      where
        h : (trailing_zeros w64 (slice_index marks word) < MARK_BITS) × (bit_at (slice_index marks word) (trailing_zeros w64 (slice_index marks word)) ≡ 1) × ((i : ℕ) → i < trailing_zeros w64 (slice_index marks word) → bit_at (slice_index marks word) i ≡ 0)
        h = bit_at-trailing_zeros w64 (slice_index marks word) some small

        by_word : (w < word) ⊎ (word ≤ w) → (w ≡ word) ⊎ (w ≡ word → ⊥) → bit_at (slice_index marks w) b ≡ 0
        by_word (inl earlier) q = ap (λ y. bit_at y b) (before w earlier) ∙ bit_at-zero b
        by_word (inr later) (inl same) = ap (λ i. bit_at (slice_index marks i) b) same ∙ h.2 b (omega (arith, less, same))
        by_word (inr later) (inr other) = let most = h.0 in absurd (omega (arith, less, later, other, most, lt))
