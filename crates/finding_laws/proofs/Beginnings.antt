-- Each beginning of what ends within a field ends within a field, and one byte is the first with which no field is cut.
use Rattle.finding_laws.proofs.Prelude.{◌≡◌, ℕ, suc, ◌+◌, ◌<◌, ◌≤◌, Bool, cond, ◌∷◌, ◌++◌, take, Result, Ok, Err, ◌∙◌, inr, nat_eq, leb_tells, Foreign, Limit, Order, Read, Trailing, Truncated}
use Rattle.std.proofs.Common.{arith, zero, true, false, List, [], length, refl, sym, ap, inl}
use Rattle.finding_laws.proofs.Steady.{Goes}
use Rattle.finding_laws.proofs.SteadyImages.{fields_steady}
use Rattle.finding_laws.specs.Once.{IsSeenOnce}
use Rattle.image_findings.proofs.Cuts.{nothing_is_cut, whole_is_not_cut}
use Rattle.image_findings.specs.Seen.{IsSeenAt, is_cut, is_truncated}
use Rattle.machine_meaning.specs.Image.{Image}
use Rattle.machine_meaning.specs.ImageReading.{Fault, ◌>>=◌, fields_at, image_at, keeps_table_rules}

-- what is read after the last field
abbrev ends : Image × List ℕ → Result Image Fault
ends read = cond (nat_eq (length read.1) 0) (cond (keeps_table_rules read.0) (Ok read.0) (Err Limit)) (Err Trailing)

no_field_is_cut : (read : Image × List ℕ) → is_truncated (ends read) ≡ false
no_field_is_cut read = by (nat_eq (length read.1) 0) (keeps_table_rules read.0)
  where
    by : (none keeps : Bool) → is_truncated (cond none (cond keeps (Ok read.0) (Err Limit)) (Err Trailing)) ≡ false
    by true true = refl
    by true false = refl
    by false keeps = refl

whole : {P : Type 0} (answer : Result Image Fault) → is_truncated answer ≡ false → is_truncated answer ≡ true → P
whole answer not_cut cut = let k : false ≡ true = sym not_cut ∙ cut in cc

cut_too : (more : List ℕ) (fields longer : Read Image) → Goes more fields longer → is_truncated (longer >>= ends) ≡ true → is_truncated (fields >>= ends) ≡ true
unfolding Goes
cut_too more (Ok read) longer goes cut = whole (longer >>= ends) (ap (λ fields. is_truncated (fields >>= ends)) goes ∙ no_field_is_cut (read.0, read.1 ++ more)) cut
cut_too more (Err Truncated) longer goes cut = refl
cut_too more (Err Foreign) longer goes cut = whole (longer >>= ends) (ap (λ fields. is_truncated (fields >>= ends)) goes) cut
cut_too more (Err Limit) longer goes cut = whole (longer >>= ends) (ap (λ fields. is_truncated (fields >>= ends)) goes) cut
cut_too more (Err Order) longer goes cut = whole (longer >>= ends) (ap (λ fields. is_truncated (fields >>= ends)) goes) cut
cut_too more (Err Trailing) longer goes cut = whole (longer >>= ends) (ap (λ fields. is_truncated (fields >>= ends)) goes) cut

pub beginning_is_cut : (bytes more : List ℕ) → is_truncated (image_at (bytes ++ more)) ≡ true → is_truncated (image_at bytes) ≡ true
unfolding image_at
beginning_is_cut bytes more cut = cut_too more (fields_at bytes) (fields_at (bytes ++ more)) (fields_steady bytes more) cut

-- ---- the place

longer_beginning : (n m : ℕ) (bytes : List ℕ) → n ≤ m → (more : List ℕ) × (take m bytes ≡ take n bytes ++ more)
longer_beginning zero m bytes few = (take m bytes, refl)
longer_beginning (suc n) zero bytes few = absurd (omega (arith, few))
longer_beginning (suc n) (suc m) [] few = ([], refl)
longer_beginning (suc n) (suc m) (b ∷ bytes) few = let rest = longer_beginning n m bytes (omega (arith, few)) in (rest.0, ap (λ (bs : List ℕ). b ∷ bs) rest.1)

cut_before : (n m : ℕ) (bytes : List ℕ) → n ≤ m → is_cut m bytes ≡ true → is_cut n bytes ≡ true
cut_before n m bytes few cut = let more = longer_beginning n m bytes few in beginning_is_cut (take n bytes) more.0 (ap (λ (bs : List ℕ). is_truncated (image_at bs)) (sym more.1) ∙ cut)

not_behind : (one other : ℕ) (bytes : List ℕ) → IsSeenAt one bytes → IsSeenAt other bytes → one < other → ⊥
not_behind one other bytes seen again behind = let k : false ≡ true = sym seen.1 ∙ cut_before (one + 1) other bytes (omega (arith, behind)) again.0 in cc

same_place : (one other : ℕ) (bytes : List ℕ) → IsSeenAt one bytes → IsSeenAt other bytes → other ≡ one
same_place one other bytes seen again = elim (leb_tells (suc one) other) [
  | inl t ↦ absurd (not_behind one other bytes seen again t.1)
  | inr f ↦ elim (leb_tells (suc other) one) [ inl t ↦ absurd (not_behind other one bytes again seen t.1) | inr g ↦ omega (arith, f.1, g.1) ]
]

seen_before : (n : ℕ) (bytes : List ℕ) → is_cut n bytes ≡ false → (place : ℕ) × (place < n) × IsSeenAt place bytes
seen_before zero bytes not_cut = let k : false ≡ true = sym not_cut ∙ nothing_is_cut bytes in cc
seen_before (suc n) bytes not_cut = by (is_cut n bytes) refl (λ k. seen_before n bytes k)
  where
    by : (t : Bool) → is_cut n bytes ≡ t → (is_cut n bytes ≡ false → (place : ℕ) × (place < n) × IsSeenAt place bytes) → (place : ℕ) × (place < suc n) × IsSeenAt place bytes
    by true is before = let next : n + 1 ≡ suc n = omega arith in (n, omega arith, (is, ap (λ k. is_cut k bytes) next ∙ not_cut))
    by false is before = let there = before is in (there.0, omega (arith, there.1), there.2)

pub seen_once : (bytes : List ℕ) → is_truncated (image_at bytes) ≡ false → IsSeenOnce bytes
seen_once bytes not_cut =
    let there = seen_before (length bytes) bytes (whole_is_not_cut bytes not_cut) in
    record { place = there.0; within = there.1; seen = there.2; alone = λ other again. same_place there.0 other bytes there.2 again }
