-- A text and its pieces between marks: the pieces with the mark between them are the text, and pieces
-- without the mark are found again.
use Rattle.std.proofs.Common.{◌≡◌, ℕ, ◌+◌, ◌≤◌, Bool, true, false, cond, List, [], ◌∷◌, ◌++◌, length, Option, Some, None, take, refl, sym, ap, ◌∙◌, arith, rules}
use Rattle.std.specs.Prelude.{not, ◌==◌, nat_lt}
use Rattle.std.specs.List.{prefix_len, join_with_byte, list_all}
use Rattle.std.proofs.lemmas.Bool.{and_parts, and_from, eqb-true, eq-eqb, not_from_false, ne_eqb, ltb-true}
use Rattle.std.proofs.lemmas.List.Folds.{list_all-append}
use Rattle.apex_types.specs.Line.{space}
use Rattle.module_meaning.specs.DeviceText.{pieces, pieces_behind_marks}

-- no byte is the mark
abbrev pub is_free : ℕ → List ℕ → Bool
is_free mark bs = list_all (λ b. not (b == mark)) bs

-- a byte above the space: neither a space nor a line feed
abbrev pub is_ink : ℕ → Bool
is_ink b = nat_lt space b

pub ink_is_free : (mark : ℕ) (bs : List ℕ) → mark ≤ space → list_all is_ink bs ≡ true → is_free mark bs ≡ true
ink_is_free mark [] low h = refl
ink_is_free mark (b ∷ bs) low h =
    let parts = and_parts (is_ink b) (list_all is_ink bs) h in
    let other : (b == mark) ≡ false = ne_eqb b mark (λ (e : b ≡ mark). omega (arith, e, low, ltb-true space b parts.0)) in
    and_from (not (b == mark)) (is_free mark bs) (not_from_false (b == mark) other) (ink_is_free mark bs low parts.1)

abbrev pub AreInk : List (List ℕ) → Type 0
AreInk ps = list_all (list_all is_ink) ps ≡ true

pub all_free : (mark : ℕ) (ps : List (List ℕ)) → mark ≤ space → AreInk ps → list_all (is_free mark) ps ≡ true
all_free mark [] low h = refl
all_free mark (p ∷ ps) low h =
    let g = and_parts (list_all is_ink p) (list_all (list_all is_ink) ps) h in
    and_from (is_free mark p) (list_all (is_free mark) ps) (ink_is_free mark p low g.0) (all_free mark ps low g.1)

-- pieces with a space between them have no line feed
pub join_free : (ps : List (List ℕ)) → AreInk ps → is_free 10 (join_with_byte space ps) ≡ true
join_free [] h = refl
join_free (p ∷ []) h = ink_is_free 10 p (omega arith) (and_parts (list_all is_ink p) true h).0
join_free (p ∷ q ∷ ps) h =
    let g = and_parts (list_all is_ink p) (list_all (list_all is_ink) (q ∷ ps)) h in
    list_all-append (λ b. not (b == 10)) p (space ∷ join_with_byte space (q ∷ ps))
    ∙ and_from (is_free 10 p) (is_free 10 (space ∷ join_with_byte space (q ∷ ps))) (ink_is_free 10 p (omega arith) g.0) (join_free (q ∷ ps) g.1)

-- the bytes that are still to come, with one more for a text that is there
abbrev pub rest_length : Option (List ℕ) → ℕ
rest_length None = 0
rest_length (Some text) = length text + 1

one_more : (n b : ℕ) (bs : List ℕ) → take (1 + n) (b ∷ bs) ≡ b ∷ take n bs
one_more n b bs = search rules

join_longer : (mark b : ℕ) (p : List ℕ) (ps : List (List ℕ)) → join_with_byte mark ((b ∷ p) ∷ ps) ≡ b ∷ join_with_byte mark (p ∷ ps)
join_longer mark b p [] = refl
join_longer mark b p (q ∷ ps) = refl

join_step : (t : Bool) (mark b : ℕ) (bs : List ℕ) (n : ℕ) (behind : List (List ℕ)) → (t ≡ true → b ≡ mark) → join_with_byte mark (take n bs ∷ behind) ≡ bs → join_with_byte mark (take (cond (not t) (1 + n) 0) (b ∷ bs) ∷ cond t (take n bs ∷ behind) behind) ≡ b ∷ bs
join_step true mark b bs n behind is h = ap (λ (xs : List ℕ). mark ∷ xs) h ∙ ap (λ (x : ℕ). x ∷ bs) (sym (is refl))
join_step false mark b bs n behind is h =
    ap (λ (p : List ℕ). join_with_byte mark (p ∷ behind)) (one_more n b bs)
    ∙ join_longer mark b (take n bs) behind
    ∙ ap (λ (xs : List ℕ). b ∷ xs) h

pub join_pieces : (mark : ℕ) (bs : List ℕ) → join_with_byte mark (pieces mark bs) ≡ bs
unfolding pieces_behind_marks
join_pieces mark [] = refl
join_pieces mark (b ∷ bs) =
    join_step (b == mark) mark b bs (prefix_len (λ x. not (x == mark)) bs) (pieces_behind_marks mark bs) (λ (e : (b == mark) ≡ true). eqb-true b mark e) (join_pieces mark bs)

-- the first piece, with one more byte at its front
longer : ℕ → List (List ℕ) → List (List ℕ)
longer b [] = []
longer b (p ∷ ps) = (b ∷ p) ∷ ps

split_here : (t : Bool) (b : ℕ) (bs : List ℕ) (n : ℕ) (behind : List (List ℕ)) → t ≡ true → take (cond (not t) (1 + n) 0) (b ∷ bs) ∷ cond t (take n bs ∷ behind) behind ≡ [] ∷ take n bs ∷ behind
split_here true b bs n behind h = refl
split_here false b bs n behind h = cc

split_later : (t : Bool) (b : ℕ) (bs : List ℕ) (n : ℕ) (behind found : List (List ℕ)) → not t ≡ true → take n bs ∷ behind ≡ found → take (cond (not t) (1 + n) 0) (b ∷ bs) ∷ cond t (take n bs ∷ behind) behind ≡ longer b found
unfolding longer
split_later true b bs n behind found h e = cc
split_later false b bs n behind found h e = ap (λ (p : List ℕ). p ∷ behind) (one_more n b bs) ∙ ap (longer b) e

-- a piece without the mark is found again
pub first_piece : (mark : ℕ) (p bs : List ℕ) → is_free mark p ≡ true → pieces mark (p ++ mark ∷ bs) ≡ p ∷ pieces mark bs
unfolding pieces_behind_marks longer
first_piece mark [] bs h = split_here (mark == mark) mark bs (prefix_len (λ x. not (x == mark)) bs) (pieces_behind_marks mark bs) (eq-eqb mark mark refl)
first_piece mark (b ∷ p) bs h =
    let parts = and_parts (not (b == mark)) (is_free mark p) h in
    split_later (b == mark) b (p ++ mark ∷ bs) (prefix_len (λ x. not (x == mark)) (p ++ mark ∷ bs)) (pieces_behind_marks mark (p ++ mark ∷ bs)) (p ∷ pieces mark bs) parts.0 (first_piece mark p bs parts.1)

pub sole_piece : (mark : ℕ) (p : List ℕ) → is_free mark p ≡ true → pieces mark p ≡ p ∷ []
unfolding pieces_behind_marks longer
sole_piece mark [] h = refl
sole_piece mark (b ∷ p) h =
    let parts = and_parts (not (b == mark)) (is_free mark p) h in
    split_later (b == mark) b p (prefix_len (λ x. not (x == mark)) p) (pieces_behind_marks mark p) (p ∷ []) parts.0 (sole_piece mark p parts.1)

-- pieces without the mark are found again
pub pieces_join : (mark : ℕ) (p : List ℕ) (ps : List (List ℕ)) → is_free mark p ≡ true → list_all (is_free mark) ps ≡ true → pieces mark (join_with_byte mark (p ∷ ps)) ≡ p ∷ ps
pieces_join mark p [] h hs = sole_piece mark p h
pieces_join mark p (q ∷ ps) h hs =
    let parts = and_parts (is_free mark q) (list_all (is_free mark) ps) hs in
    first_piece mark p (join_with_byte mark (q ∷ ps)) h ∙ ap (λ (xs : List (List ℕ)). p ∷ xs) (pieces_join mark q ps parts.0 parts.1)
