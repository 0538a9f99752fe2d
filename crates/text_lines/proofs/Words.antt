-- Decimals: a plain number is the decimal of its value, a word the signed decimal of its value, and words are found again in their pieces.
use Rattle.std.proofs.Common.{◌≡◌, ℕ, zero, suc, ℤ, pos, negsuc, ◌+◌, ◌-◌, ◌*◌, ◌^◌, ◌<◌, ◌≤◌, Bool, true, false, cond, List, [], ◌∷◌, length, map, get_or, Option, Some, None, refl, sym, ap, subst, ◌∙◌, arith, rules, lit<}
use Rattle.std.specs.Prelude.{fold, not, nat_le, ◌&&◌, ◌==◌, FitsSigned}
use Rattle.std.specs.Fmt.{decimal, signed_decimal}
use Rattle.std.specs.Int.{w64}
use Rattle.std.specs.List.{list_all}
use Rattle.std.proofs.lemmas.Bool.{and_parts, and_from, leb-true, le-leb, lt-ltb, eqb-true, eqb-false, ne_eqb, not-true, not_from_false, cond-true, cond-false}
use Rattle.std.proofs.lemmas.Option.{same_Some}
use Rattle.std.proofs.lemmas.Fmt.{digits_decimal, digits_value-decimal, decimal-digits_value, decimal_nonempty, first_decimal, decimal_digit}
use Rattle.std.proofs.lemmas.Str.Parse.{IsNumeralModel, numerals_by_fold}
use Rattle.apex_types.specs.Line.{space}
use Rattle.module_meaning.specs.DeviceText.{is_plain, if_at_most, plain_number, positive, negative, word, words, put_word, piece, pieces_behind_marks}
use Rattle.engine_meaning.specs.Digits.{is_digit, decimal_value}
use Rattle.text_lines.specs.Pieces.{pieces_of}
use Rattle.text_lines.specs.Words.{AreWords}
use Rattle.text_lines.proofs.Pieces.{is_ink, AreInk}

abbrev AreDigits : List ℕ → Type 0
AreDigits ds = list_all is_digit ds ≡ true

own : IsNumeralModel AreDigits decimal_value
unfolding decimal_value
own = numerals_by_fold AreDigits (search rules) (λ (n : ℕ) (ds : List ℕ). fold (λ (m d : ℕ). m * 10 + (d - 48)) n ds) (search rules)

digit_low : (d : ℕ) → is_digit d ≡ true → (48 ≤ d) × (d ≤ 57)
digit_low d h = let p = and_parts (nat_le 48 d) (nat_le d 57) h in (leb-true 48 d p.0, leb-true d 57 p.1)

digits_ink : (ds : List ℕ) → AreDigits ds → list_all is_ink ds ≡ true
digits_ink [] h = refl
digits_ink (d ∷ ds) h =
    let p = and_parts (is_digit d) (list_all is_digit ds) h in
    and_from (is_ink d) (list_all is_ink ds) (lt-ltb space d (omega (arith, digit_low d p.0))) (digits_ink ds p.1)

-- a plain number is digits, at least one, and has no 0 before others
plain_digits : (ds : List ℕ) → is_plain ds ≡ true → AreDigits ds × (0 < length ds) × (get_or ds 0 0 ≡ 48 → length ds ≡ 1)
plain_digits [] h = cc
plain_digits (d ∷ []) h = (and_from (is_digit d) true h refl, omega arith, λ (e : d ≡ 48). refl)
plain_digits (d ∷ e ∷ ds) h =
    let p = and_parts (is_digit d && not (d == 48)) (list_all is_digit (e ∷ ds)) h in
    let q = and_parts (is_digit d) (not (d == 48)) p.0 in
    (and_from (is_digit d) (list_all is_digit (e ∷ ds)) q.0 p.1, omega arith, λ (z : d ≡ 48). absurd (eqb-false d 48 (not-true (d == 48) q.1) z))

at_most_is : (t : Bool) (n m : ℕ) → cond t (Some n) None ≡ Some m → (t ≡ true) × (n ≡ m)
at_most_is true n m e = (refl, same_Some n m e)
at_most_is false n m e = cc

plain_is : (t : Bool) (most : ℕ) (ds : List ℕ) (n : ℕ) → cond t (if_at_most most (decimal_value ds)) None ≡ Some n → (t ≡ true) × (decimal_value ds ≤ most) × (decimal_value ds ≡ n)
plain_is true most ds n e = let g = at_most_is (nat_le (decimal_value ds) most) (decimal_value ds) n e in (refl, leb-true (decimal_value ds) most g.0, g.1)
plain_is false most ds n e = cc

-- a plain number is the decimal of its value
pub plain_back : (most : ℕ) (ds : List ℕ) (n : ℕ) → most < 2 ^ 64 → plain_number most ds ≡ Some n → (decimal n ≡ ds) × (n ≤ most)
plain_back most ds n small e =
    let g = plain_is (is_plain ds) most ds n e in
    let p = plain_digits ds g.0 in
    (ap decimal (sym g.2) ∙ decimal-digits_value own ds p.0 p.1 p.2 (omega (arith, small, g.1)), subst (λ (m : ℕ). m ≤ most) g.2 g.1)

plain_of : (ds : List ℕ) → AreDigits ds → 48 < get_or ds 0 0 → is_plain ds ≡ true
plain_of [] h first = absurd (omega (arith, first))
plain_of (d ∷ []) h first = (and_parts (is_digit d) true h).0
plain_of (d ∷ e ∷ ds) h first =
    let p = and_parts (is_digit d) (list_all is_digit (e ∷ ds)) h in
    let other : (d == 48) ≡ false = ne_eqb d 48 (λ (z : d ≡ 48). omega (arith, z, first)) in
    and_from (is_digit d && not (d == 48)) (list_all is_digit (e ∷ ds)) (and_from (is_digit d) (not (d == 48)) p.0 (not_from_false (d == 48) other)) p.1

plain_decimal : (n : ℕ) → n < 2 ^ 64 → is_plain (decimal n) ≡ true
plain_decimal zero small = let zero_text : decimal 0 ≡ 48 ∷ [] = decimal_digit 0 (omega arith) in rw zero_text refl
plain_decimal (suc n) small = plain_of (decimal (suc n)) (digits_decimal own (suc n) small) (first_decimal (suc n) (omega arith) small)

-- the decimal of a number is read as it
pub plain_again : (most n : ℕ) → most < 2 ^ 64 → n ≤ most → plain_number most (decimal n) ≡ Some n
plain_again most n small low =
    let fits : n < 2 ^ 64 = omega (arith, small, low) in
    cond-true (is_plain (decimal n)) (if_at_most most (decimal_value (decimal n))) None (plain_decimal n fits)
    ∙ ap (if_at_most most) (digits_value-decimal own n fits)
    ∙ cond-true (nat_le n most) (Some n) None (le-leb n most low)

pub decimal_ink : (n : ℕ) → n < 2 ^ 64 → list_all is_ink (decimal n) ≡ true
decimal_ink n small = digits_ink (decimal n) (digits_decimal own n small)

-- ---- words

fits_positive : (n : ℕ) → n ≤ 2 ^ 63 - 1 → FitsSigned w64 (pos n)
fits_positive n low = record { sfits = omega (arith, low) }

fits_negative : (n : ℕ) → suc n ≤ 2 ^ 63 → FitsSigned w64 (negsuc n)
fits_negative n low = record { sfits = omega (arith, low) }

low_positive : (n : ℕ) → FitsSigned w64 (pos n) → n ≤ 2 ^ 63 - 1
low_positive n fits = omega (arith, fits.sfits)

low_negative : (n : ℕ) → FitsSigned w64 (negsuc n) → suc n ≤ 2 ^ 63
low_negative n fits = omega (arith, fits.sfits)

positive_is : (ds : List ℕ) (o : Option ℕ) (z : ℤ) → plain_number (2 ^ 63 - 1) ds ≡ o → positive o ≡ Some z → (signed_decimal z ≡ ds) × FitsSigned w64 z
positive_is ds None z p e = cc
positive_is ds (Some n) z p e =
    let b = plain_back (2 ^ 63 - 1) ds n (lit< tt) p in
    let is : pos n ≡ z = same_Some (pos n) z e in
    subst (λ (y : ℤ). (signed_decimal y ≡ ds) × FitsSigned w64 y) is (b.0, fits_positive n b.1)

negative_is : (ds : List ℕ) (o : Option ℕ) (z : ℤ) → plain_number (2 ^ 63) ds ≡ o → negative o ≡ Some z → (signed_decimal z ≡ 45 ∷ ds) × FitsSigned w64 z
negative_is ds None z p e = cc
negative_is ds (Some zero) z p e = cc
negative_is ds (Some (suc n)) z p e =
    let b = plain_back (2 ^ 63) ds (suc n) (lit< tt) p in
    let is : negsuc n ≡ z = same_Some (negsuc n) z e in
    subst (λ (y : ℤ). (signed_decimal y ≡ 45 ∷ ds) × FitsSigned w64 y) is (ap (λ (xs : List ℕ). 45 ∷ xs) b.0, fits_negative n b.1)

word_is : (t : Bool) (b : ℕ) (bs : List ℕ) (z : ℤ) → (t ≡ true → b ≡ 45) → cond t (negative (plain_number (2 ^ 63) bs)) (positive (plain_number (2 ^ 63 - 1) (b ∷ bs))) ≡ Some z → (signed_decimal z ≡ b ∷ bs) × FitsSigned w64 z
word_is true b bs z is e =
    subst (λ (x : ℕ). (signed_decimal z ≡ x ∷ bs) × FitsSigned w64 z) (sym (is refl)) (negative_is bs (plain_number (2 ^ 63) bs) z refl e)
word_is false b bs z is e = positive_is (b ∷ bs) (plain_number (2 ^ 63 - 1) (b ∷ bs)) z refl e

pub word_back : (bs : List ℕ) (z : ℤ) → word bs ≡ Some z → (signed_decimal z ≡ bs) × FitsSigned w64 z
word_back [] z e = cc
word_back (b ∷ bs) z e = word_is (b == 45) b bs z (λ (h : (b == 45) ≡ true). eqb-true b 45 h) e

word_of_digits : (ds : List ℕ) → AreDigits ds → 0 < length ds → word ds ≡ positive (plain_number (2 ^ 63 - 1) ds)
word_of_digits [] h some = absurd (omega (arith, some))
word_of_digits (d ∷ ds) h some =
    let p = and_parts (is_digit d) (list_all is_digit ds) h in
    let other : (d == 45) ≡ false = ne_eqb d 45 (λ (z : d ≡ 45). omega (arith, z, digit_low d p.0)) in
    cond-false (d == 45) (negative (plain_number (2 ^ 63) ds)) (positive (plain_number (2 ^ 63 - 1) (d ∷ ds))) other

pub word_again : (z : ℤ) → FitsSigned w64 z → word (signed_decimal z) ≡ Some z
word_again (pos n) fits =
    let low = low_positive n fits in
    let small : n < 2 ^ 64 = omega (arith, low) in
    word_of_digits (decimal n) (digits_decimal own n small) (decimal_nonempty n small)
    ∙ ap positive (plain_again (2 ^ 63 - 1) n (lit< tt) low)
word_again (negsuc n) fits = ap negative (plain_again (2 ^ 63) (suc n) (lit< tt) (low_negative n fits))

pub word_ink : (z : ℤ) → FitsSigned w64 z → list_all is_ink (signed_decimal z) ≡ true
word_ink (pos n) fits = let low = low_positive n fits in decimal_ink n (omega (arith, low))
word_ink (negsuc n) fits = let low = low_negative n fits in decimal_ink (suc n) (omega (arith, low))

pub words_again : (ws : List ℤ) → AreWords ws → words (map signed_decimal ws) ≡ Some ws
unfolding words
words_again [] good = refl
words_again (w ∷ ws) good =
    ap (λ (o : Option ℤ). put_word o (words (map signed_decimal ws))) (word_again w good.0)
    ∙ ap (put_word (Some w)) (words_again ws good.1)

pub words_ink : (ws : List ℤ) → AreWords ws → AreInk (map signed_decimal ws)
words_ink [] good = refl
words_ink (w ∷ ws) good = and_from (list_all is_ink (signed_decimal w)) (list_all (list_all is_ink) (map signed_decimal ws)) (word_ink w good.0) (words_ink ws good.1)

-- the words from here are the next one and those after it
pub next_word : (text front : List ℕ) (more : Option (List ℕ)) (w : Option ℤ) → front ≡ piece space text → pieces_behind_marks space text ≡ pieces_of space more → w ≡ word front → words (pieces_of space (Some text)) ≡ put_word w (words (pieces_of space more))
unfolding words
next_word text front more w f b e =
    ap (λ (p : List ℕ). put_word (word p) (words (pieces_behind_marks space text))) (sym f)
    ∙ ap (λ (o : Option ℤ). put_word o (words (pieces_behind_marks space text))) (sym e)
    ∙ ap (λ (ps : List (List ℕ)). put_word w (words ps)) b
