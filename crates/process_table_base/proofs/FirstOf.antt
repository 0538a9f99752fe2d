-- The lowest bit is that of the first, and without it the others are left.
use Rattle.std.proofs.Common.{◌≡◌, ◌⊎◌, inl, inr, ℕ, ◌*◌, ◌%◌, ◌^◌, ◌<◌, ◌≤◌, bit_and, sym, ap, ◌∙◌, arith, w64}
use Rattle.std.specs.Int.{bit_at, bit_not, trailing_zeros}
use Rattle.std.proofs.lemmas.Bool.{cases_lt}
use Rattle.std.proofs.lemmas.Nat.{and_le_l}
use Rattle.std.proofs.lemmas.Nat.Bits.{bit_at-trailing_zeros, bit_at_above, bit_at_clear_other, bit_at_clear_same}
use Rattle.apex_types.specs.declared.limits.TheConstants.{MARK_BITS}
use Rattle.process_table_base.proofs.Treating.{clash}
use Rattle.process_table_base.specs.DueMask.{IsFirstOf}

-- the mask without one bit
abbrev pub without_bit : ℕ → ℕ → ℕ
without_bit mask k = bit_and mask (bit_not w64 (1 * 2 ^ k % 2 ^ 64))

pub first_of : (mask : ℕ) → 0 < mask → mask < 2 ^ 64 → IsFirstOf mask (trailing_zeros w64 mask) (without_bit mask (trailing_zeros w64 mask))
first_of mask some fits = record {
  set = set;
  lower = found.2;
  gone = gone;
  others = λ q other. by_width q other (cases_lt q MARK_BITS);
  fewer = by_order (cases_lt rest mask);
}
  where
    place : ℕ
    place = trailing_zeros w64 mask

    rest : ℕ
    rest = without_bit mask place

    found : (place < MARK_BITS) × (bit_at mask place ≡ 1) × ((i : ℕ) → i < place → bit_at mask i ≡ 0)
    found = bit_at-trailing_zeros w64 mask some fits

    set : bit_at mask place ≡ 1
    set = found.1

    gone : bit_at rest place ≡ 0
    gone = bit_at_clear_same w64 mask place found.0

    by_width : (q : ℕ) → (q ≡ place → ⊥) → (q < MARK_BITS) ⊎ (MARK_BITS ≤ q) → bit_at rest q ≡ bit_at mask q
    by_width q other (inl lt) = bit_at_clear_other w64 mask place found.0 q lt other
    by_width q other (inr le) =
        let small = and_le_l mask (bit_not w64 (1 * 2 ^ place % 2 ^ 64)) in
        bit_at_above rest MARK_BITS q (omega (arith, small, fits)) le ∙ sym (bit_at_above mask MARK_BITS q fits le)

    by_order : (rest < mask) ⊎ (mask ≤ rest) → rest < mask
    by_order (inl lt) = lt
    by_order (inr le) =
        let small = and_le_l mask (bit_not w64 (1 * 2 ^ place % 2 ^ 64)) in
        let same : rest ≡ mask = omega (arith, small, le) in
        absurd (clash (bit_at rest place) gone (ap (λ m. bit_at m place) same ∙ set))
