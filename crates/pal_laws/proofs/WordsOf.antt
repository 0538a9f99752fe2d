-- The words of a text, one after another: each step leaves fewer bytes.
use Rattle.std.proofs.Common.{◌≡◌, ℕ, zero, suc, ◌+◌, ◌<◌, ◌≤◌, Bool, true, false, ◌||◌, List, [], ◌∷◌, length, Option, Some, refl, ap, arith, cond, nat_eq, length-drop, lit<}
use Rattle.std.specs.Prelude.{find}
use Rattle.std.specs.List.{prefix_len, starts_with}
use Rattle.pal_meaning.specs.Grammar.{Word, behind_blanks, behind, word_at, words_within, words_from, sign_word, sign_or_stray, signs, is_lower, is_upper, in_name, in_service, is_blank}
use Rattle.engine_meaning.specs.Digits.{is_digit}

either_short : (b : Bool) (xs ys : List ℕ) (n : ℕ) → length xs ≤ n → length ys ≤ n → length (cond b xs ys) ≤ n
either_short true xs ys n h k = h
either_short false xs ys n h k = k

pub blanks_shorter : (comment : Bool) (bs : List ℕ) → length (behind_blanks comment bs) ≤ length bs
unfolding behind_blanks
blanks_shorter comment [] = omega arith
blanks_shorter comment (b ∷ bs) =
    let f : length (behind_blanks false bs) ≤ length (b ∷ bs) = omega (arith, blanks_shorter false bs) in
    let t : length (behind_blanks true bs) ≤ length (b ∷ bs) = omega (arith, blanks_shorter true bs) in
    let c : length (behind_blanks comment bs) ≤ length (b ∷ bs) = omega (arith, blanks_shorter comment bs) in
    let r : length (b ∷ bs) ≤ length (b ∷ bs) = omega arith in
    either_short (nat_eq b 10) (behind_blanks false bs) _ (length (b ∷ bs)) f
    (either_short (nat_eq b 35) (behind_blanks true bs) _ (length (b ∷ bs)) t
    (either_short (comment || is_blank b) (behind_blanks comment bs) (b ∷ bs) (length (b ∷ bs)) c r))

run_shorter : (p : ℕ → Bool) (b : ℕ) (bs : List ℕ) → p b ≡ true → length (behind p (b ∷ bs)) ≤ length bs
run_shorter p b bs h =
    let n : prefix_len p (b ∷ bs) ≡ 1 + prefix_len p bs = ap (λ t. cond t (1 + prefix_len p bs) 0) h in
    omega (arith, n, length-drop (prefix_len p (b ∷ bs)) (b ∷ bs))

-- each of the texts has a byte
HasBytes : List (List ℕ) → Type 0
HasBytes [] = Unit {0}
HasBytes (s ∷ ss) = (0 < length s) × HasBytes ss

picked_short : (t : Bool) (s : List ℕ) (o : Option (List ℕ)) (b : ℕ) (bs : List ℕ) → length (sign_or_stray (Some s) b bs).1 ≤ length bs → length (sign_or_stray o b bs).1 ≤ length bs → length (sign_or_stray (cond t (Some s) o) b bs).1 ≤ length bs
picked_short true s o b bs h k = h
picked_short false s o b bs h k = k

found_short : (p : List ℕ → Bool) (ss : List (List ℕ)) (b : ℕ) (bs : List ℕ) → HasBytes ss → length (sign_or_stray (find p ss) b bs).1 ≤ length bs
unfolding HasBytes
found_short p [] b bs h = omega arith
found_short p (s ∷ ss) b bs h = picked_short (p s) s (find p ss) b bs (omega (arith, h.0, length-drop (length s) (b ∷ bs))) (found_short p ss b bs h.1)

signs_have_bytes : HasBytes signs
unfolding HasBytes
signs_have_bytes = (lit< tt, (lit< tt, (lit< tt, (lit< tt, (lit< tt, (lit< tt, (lit< tt, (lit< tt, (lit< tt, (lit< tt, (lit< tt, (lit< tt, (lit< tt, (lit< tt, (lit< tt, (lit< tt, (lit< tt, (lit< tt, (lit< tt, (lit< tt, (lit< tt, tt)))))))))))))))))))))

lower_in_name : (b : ℕ) → is_lower b ≡ true → in_name b ≡ true
lower_in_name b h = ap (λ t. t || is_digit b || (nat_eq b 95)) h

upper_in_service : (b : ℕ) → is_upper b ≡ true → in_service b ≡ true
upper_in_service b h = ap (λ t. t || (nat_eq b 95)) h

tested_short : (t : Bool) (x y : Word × List ℕ) (n : ℕ) → (t ≡ true → length x.1 ≤ n) → length y.1 ≤ n → length (cond t x y).1 ≤ n
tested_short true x y n h k = h refl
tested_short false x y n h k = k

pub word_shorter : (b : ℕ) (bs : List ℕ) → length (word_at (b ∷ bs)).1 ≤ length bs
unfolding word_at sign_word
word_shorter b bs =
    tested_short (is_lower b) _ _ _ (λ h. run_shorter in_name b bs (lower_in_name b h))
    (tested_short (is_digit b) _ _ _ (λ h. run_shorter is_digit b bs h)
    (tested_short (is_upper b) _ _ _ (λ h. run_shorter in_service b bs (upper_in_service b h))
    (found_short (starts_with nat_eq (b ∷ bs)) signs b bs signs_have_bytes)))

-- the text after the first word and the blanks that follow it
pub next_shorter : (b : ℕ) (bs : List ℕ) → length (behind_blanks false (word_at (b ∷ bs)).1) < length (b ∷ bs)
next_shorter b bs = omega (arith, blanks_shorter false (word_at (b ∷ bs)).1, word_shorter b bs)

bounds_agree : (n m : ℕ) (bs : List ℕ) → length bs ≤ n → length bs ≤ m → words_within n bs ≡ words_within m bs
unfolding words_within
bounds_agree zero zero bs h k = refl
bounds_agree zero (suc m) [] h k = refl
bounds_agree zero (suc m) (b ∷ bs) h k = absurd (omega arith)
bounds_agree (suc n) zero [] h k = refl
bounds_agree (suc n) zero (b ∷ bs) h k = absurd (omega arith)
bounds_agree (suc n) (suc m) [] h k = refl
bounds_agree (suc n) (suc m) (b ∷ bs) h k =
    let l = next_shorter b bs in
    ap (λ ws. (word_at (b ∷ bs)).0 ∷ ws) (bounds_agree n m (behind_blanks false (word_at (b ∷ bs)).1) (omega (arith, l)) (omega (arith, l)))

pub words_from_none : words_from [] ≡ []
unfolding words_from words_within
words_from_none = refl

pub words_from_more : (b : ℕ) (bs : List ℕ) → words_from (b ∷ bs) ≡ (word_at (b ∷ bs)).0 ∷ words_from (behind_blanks false (word_at (b ∷ bs)).1)
unfolding words_from words_within
words_from_more b bs = ap (λ ws. (word_at (b ∷ bs)).0 ∷ ws) (bounds_agree (length bs) _ _ (omega (arith, next_shorter b bs)) (omega arith))

-- the words of a text that is not empty, and of an empty text
pub next_short : (bs : List ℕ) → 0 < length bs → length (behind_blanks false (word_at bs).1) < length bs
next_short [] h = absurd (omega arith)
next_short (b ∷ bs) h = next_shorter b bs

pub words_from_next : (bs : List ℕ) → 0 < length bs → words_from bs ≡ (word_at bs).0 ∷ words_from (behind_blanks false (word_at bs).1)
words_from_next [] h = absurd (omega arith)
words_from_next (b ∷ bs) h = words_from_more b bs

pub words_from_empty : (bs : List ℕ) → length bs ≡ 0 → words_from bs ≡ []
words_from_empty [] h = words_from_none
words_from_empty (b ∷ bs) h = absurd (omega arith)
