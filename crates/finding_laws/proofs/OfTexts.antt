-- In a text that is no source something is found.
use Rattle.finding_laws.proofs.Prelude.{◌≡◌, ℕ, suc, ◌≤◌, ◌<◌, Bool, cond, ◌∷◌, Option, Some, ◌∙◌, inr, leb_tells, nat_lt, IsAscii, MOST_SOURCE_BYTES, IsText, has_none, is_above, or_too_long, strays, text_wrongs, NoAscii, What, Wrong, noted, pushed}
use Rattle.std.proofs.Common.{arith, zero, true, false, List, [], length, None, refl, sym, inl}
use Rattle.std.proofs.lemmas.Str.Ascii.{IsAscii-nil}
use Rattle.source_findings.specs.Texts.{stray, too_long}

ascii_front : (b : ℕ) (bs : List ℕ) → b < 128 → IsAscii bs → IsAscii (b ∷ bs)
ascii_front b bs small h zero = small
ascii_front b bs small h (suc i) = h i

-- what was found stays
still_there : (what : Option What) (text : List ℕ) (w : Wrong) (ws : List Wrong) (t : Bool)
    → has_none (cond t (pushed what (record { text = text; found = w ∷ ws })) (record { text = text; found = w ∷ ws })).found ≡ false
still_there None text w ws true = refl
still_there (Some what) text w ws true = refl
still_there what text w ws false = refl

kept : (before : Bool) (text : List ℕ) (found : List Wrong) → has_none found ≡ false → has_none (strays before text found) ≡ false
kept before [] found h = h
kept before (b ∷ bs) [] h = let k : true ≡ false = h in cc
kept before (b ∷ bs) (w ∷ ws) h =
    kept (is_above b) bs (noted (stray before b) (record { text = b ∷ bs; found = w ∷ ws })).found (still_there (stray before b) (b ∷ bs) w ws (nat_lt (length (w ∷ ws)) 20))

below : (n : ℕ) → is_above n ≡ false → n ≤ 127
below n h = elim (leb_tells 128 n) [ inl t ↦ (let k : true ≡ false = sym t.0 ∙ h in cc) | inr f ↦ omega (arith, f.1) ]

pub none_above : (text : List ℕ) → has_none (strays false text []) ≡ true → IsAscii text
none_above [] h = IsAscii-nil
none_above (b ∷ bs) h = by (is_above b) refl h (λ g. none_above bs g)
  where
    by : (t : Bool) → is_above b ≡ t → has_none (strays t bs (noted (cond t (Some (NoAscii b)) None) (record { text = b ∷ bs; found = [] })).found) ≡ true → (has_none (strays false bs []) ≡ true → IsAscii bs) → IsAscii (b ∷ bs)
    by true is g rest = let k : false ≡ true = sym (kept true bs _ refl) ∙ g in cc
    by false is g rest = ascii_front b bs (omega (arith, below b is)) (rest g)

short : (t : Bool) (text : List ℕ) (w : Wrong) → has_none (cond {A = List Wrong} t (w ∷ []) []) ≡ true → t ≡ false
short true text w h = let k : false ≡ true = h in cc
short false text w h = refl

few_bytes : (text : List ℕ) → has_none (too_long text) ≡ true → length text ≤ MOST_SOURCE_BYTES
few_bytes text h = elim (leb_tells (suc MOST_SOURCE_BYTES) (length text)) [
  | inl t ↦ (let k : true ≡ false = sym t.0 ∙ short (nat_lt MOST_SOURCE_BYTES (length text)) text _ h in cc)
  | inr f ↦ omega (arith, f.1)
]

parted : (text : List ℕ) (found : List Wrong) → has_none (or_too_long text found) ≡ true → (has_none found ≡ true) × (has_none (too_long text) ≡ true)
parted text [] h = (refl, h)
parted text (w ∷ ws) h = let k : false ≡ true = h in cc

pub text_found : (text : List ℕ) → has_none (text_wrongs text) ≡ true → IsText text
text_found text h = let parts = parted text (strays false text []) h in (none_above text parts.0, few_bytes text parts.1)
