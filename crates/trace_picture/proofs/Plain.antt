-- An escaped text is plain.
use Rattle.std.proofs.Common.{◌≡◌, ℕ, ◌+◌, ◌/◌, ◌≤◌, Bool, true, false, cond, List, [], ◌∷◌, ◌++◌, refl, arith}
use Rattle.std.specs.Prelude.{flat_map, codes, chars, encode_utf8, ◌==◌, nat_lt}
use Rattle.std.proofs.lemmas.Bool.Decides.{nat_tests}
use Rattle.std.proofs.Math.Utf8.{encode, next}
use Rattle.trace_picture.specs.Escaped.{is_allowed, shown, character_text, escaped, is_plain}

-- a byte that is not one of the five
goes_on : (b : ℕ) (rest : List ℕ) → (b == 38) ≡ false → (b == 60) ≡ false → (b == 62) ≡ false → (b == 34) ≡ false → (b == 39) ≡ false → is_plain rest ≡ true → is_plain (b ∷ rest) ≡ true
goes_on b rest and lt gt quote apostrophe h = rw (and, lt, gt, quote, apostrophe) h

differs : (b n : ℕ) → n ≤ 127 → 128 ≤ b → (b == n) ≡ false
differs b n small high = grind (arith, nat_tests)

high : (b : ℕ) (rest : List ℕ) → 128 ≤ b → is_plain rest ≡ true → is_plain (b ∷ rest) ≡ true
high b rest h = goes_on b rest (differs b 38 (omega arith) h) (differs b 60 (omega arith) h) (differs b 62 (omega arith) h) (differs b 34 (omega arith) h) (differs b 39 (omega arith) h)

-- the bytes of a character, by how many there are
by_count : (one two three : Bool) (d : ℕ) (rest : List ℕ) → is_plain (d ∷ rest) ≡ true → is_plain rest ≡ true
    → is_plain (cond one (d ∷ []) (cond two ((192 + d / 64) ∷ next d ∷ []) (cond three ((224 + d / 4096) ∷ next (d / 64) ∷ next d ∷ []) ((240 + d / 262144) ∷ next (d / 4096) ∷ next (d / 64) ∷ next d ∷ []))) ++ rest) ≡ true
by_count true two three d rest alone h = alone
by_count false true three d rest alone h = high (192 + d / 64) (next d ∷ rest) (omega arith) (high (next d) rest (omega arith) h)
by_count false false true d rest alone h =
    high (224 + d / 4096) (next (d / 64) ∷ next d ∷ rest) (omega arith) (high (next (d / 64)) (next d ∷ rest) (omega arith) (high (next d) rest (omega arith) h))
by_count false false false d rest alone h =
    high (240 + d / 262144) (next (d / 4096) ∷ next (d / 64) ∷ next d ∷ rest) (omega arith)
    (high (next (d / 4096)) (next (d / 64) ∷ next d ∷ rest) (omega arith) (high (next (d / 64)) (next d ∷ rest) (omega arith) (high (next d) rest (omega arith) h)))

encoded : (d : ℕ) (rest : List ℕ) → is_plain (d ∷ rest) ≡ true → is_plain rest ≡ true → is_plain (encode d ++ rest) ≡ true
unfolding encode
encoded d rest alone h = by_count (nat_lt d 128) (nat_lt d 2048) (nat_lt d 65536) d rest alone h

-- a character other than the five is written as itself, or as the replacement character
alone : (allowed : Bool) (c : ℕ) (rest : List ℕ) → is_plain (c ∷ rest) ≡ true → is_plain rest ≡ true → is_plain (cond allowed c 65533 ∷ rest) ≡ true
alone true c rest kept h = kept
alone false c rest kept h = h

-- each of the five is an entity
by_entity : (and lt gt quote apostrophe : Bool) (other rest : List ℕ) → is_plain rest ≡ true
    → (and ≡ false → lt ≡ false → gt ≡ false → quote ≡ false → apostrophe ≡ false → is_plain (other ++ rest) ≡ true)
    → is_plain (cond and (codes "&amp;") (cond lt (codes "&lt;") (cond gt (codes "&gt;") (cond quote (codes "&quot;") (cond apostrophe (codes "&apos;") other)))) ++ rest) ≡ true
by_entity true lt gt quote apostrophe other rest h k = h
by_entity false true gt quote apostrophe other rest h k = h
by_entity false false true quote apostrophe other rest h k = h
by_entity false false false true apostrophe other rest h k = h
by_entity false false false false true other rest h k = h
by_entity false false false false false other rest h k = k refl refl refl refl refl

one : (c : ℕ) (rest : List ℕ) → is_plain rest ≡ true → is_plain (character_text c ++ rest) ≡ true
one c rest h =
    by_entity (c == 38) (c == 60) (c == 62) (c == 34) (c == 39) (encode_utf8 (shown c)) rest h
    (λ and lt gt quote apostrophe. encoded (shown c) rest (alone (is_allowed c) c rest (goes_on c rest and lt gt quote apostrophe h) h) h)

all : (cs : List ℕ) → is_plain (flat_map character_text cs) ≡ true
all [] = refl
all (c ∷ cs) = one c (flat_map character_text cs) (all cs)

pub escaped_is_plain : (text : List ℕ) → is_plain (escaped text) ≡ true
escaped_is_plain text = all (chars text)
