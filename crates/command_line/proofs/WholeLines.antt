-- The lines of a text that follows whole lines.
use Rattle.std.proofs.Common.{◌≡◌, ℕ, ◌+◌, Bool, true, false, cond, List, [], ◌∷◌, ◌++◌, take, refl, sym, ap, ◌∙◌, append_assoc, codes, rules}
use Rattle.std.specs.Prelude.{not, ◌||◌, ◌==◌}
use Rattle.std.specs.List.{list_any, prefix_len}
use Rattle.apex_types.specs.Line.{kind_text, line_of, partition_text, text_of, thirteen_digits}
use Rattle.apex_types.specs.declared.event.Event.{Event}
use Rattle.module_meaning.specs.DeviceText.{pieces, pieces_behind_marks}
use Rattle.command_line.specs.Awaited.{has_line, has_words, one_has_words}

or_assoc : (a b c : Bool) → ((a || b) || c) ≡ (a || (b || c))
or_assoc true b c = refl
or_assoc false b c = refl

or_false : (a : Bool) → (a || false) ≡ a
or_false true = refl
or_false false = refl

one_more : (n b : ℕ) (bs : List ℕ) → take (1 + n) (b ∷ bs) ≡ b ∷ take n bs
one_more n b bs = search rules

-- the first piece, with one more byte at its front
longer : ℕ → List (List ℕ) → List (List ℕ)
longer b [] = []
longer b (p ∷ ps) = (b ∷ p) ∷ ps

-- the pieces of a text with one more byte in front
abbrev in_front : Bool → ℕ → List (List ℕ) → List (List ℕ)
in_front true b ps = [] ∷ ps
in_front false b ps = longer b ps

split : (t : Bool) (b : ℕ) (bs : List ℕ) (n : ℕ) (behind : List (List ℕ)) → take (cond (not t) (1 + n) 0) (b ∷ bs) ∷ cond t (take n bs ∷ behind) behind ≡ in_front t b (take n bs ∷ behind)
unfolding longer
split true b bs n behind = refl
split false b bs n behind = ap (λ (p : List ℕ). p ∷ behind) (one_more n b bs)

pieces_more : (mark b : ℕ) (bs : List ℕ) → pieces mark (b ∷ bs) ≡ in_front (b == mark) b (pieces mark bs)
unfolding pieces_behind_marks
pieces_more mark b bs = split (b == mark) b bs (prefix_len (λ x. not (x == mark)) bs) (pieces_behind_marks mark bs)

in_front_apart : (t : Bool) (b : ℕ) (p : List ℕ) (ps qs : List (List ℕ)) → in_front t b ((p ∷ ps) ++ qs) ≡ in_front t b (p ∷ ps) ++ qs
unfolding longer
in_front_apart true b p ps qs = refl
in_front_apart false b p ps qs = refl

-- the pieces before a mark, and those after it
pieces_apart : (mark : ℕ) (xs ys : List ℕ) → (mark == mark) ≡ true → pieces mark (xs ++ mark ∷ ys) ≡ pieces mark xs ++ pieces mark ys
unfolding pieces_behind_marks
pieces_apart mark [] ys same = pieces_more mark mark ys ∙ ap (λ t. in_front t mark (pieces mark ys)) same
pieces_apart mark (x ∷ xs) ys same =
    pieces_more mark x (xs ++ mark ∷ ys)
    ∙ ap (in_front (x == mark) x) (pieces_apart mark xs ys same)
    ∙ in_front_apart (x == mark) x _ _ (pieces mark ys)
    ∙ ap (λ ps. ps ++ pieces mark ys) (sym (pieces_more mark x xs))

-- the last of several pieces is after all marks
one_apart : (asked ps : List (List ℕ)) (q : List ℕ) (qs : List (List ℕ)) → one_has_words asked (ps ++ q ∷ qs) ≡ (list_any (has_words asked) ps || one_has_words asked (q ∷ qs))
one_apart asked [] q qs = refl
one_apart asked (p ∷ []) q qs = ap (λ t. t || one_has_words asked (q ∷ qs)) (sym (or_false (has_words asked p)))
one_apart asked (p ∷ r ∷ ps) q qs = ap (λ t. has_words asked p || t) (one_apart asked (r ∷ ps) q qs) ∙ sym (or_assoc (has_words asked p) (list_any (has_words asked) (r ∷ ps)) (one_has_words asked (q ∷ qs)))

line_before : (asked : List (List ℕ)) (xs ys : List ℕ) → has_line asked (xs ++ 10 ∷ ys) ≡ (list_any (has_words asked) (pieces 10 xs) || has_line asked ys)
line_before asked xs ys = ap (one_has_words asked) (pieces_apart 10 xs ys refl) ∙ one_apart asked (pieces 10 xs) _ _

nothing : (asked : List (List ℕ)) → has_line asked [] ≡ false
unfolding pieces_behind_marks
nothing asked = refl

-- a text after a whole line
line_first : (asked : List (List ℕ)) (xs ys : List ℕ) → has_line asked ((xs ++ 10 ∷ []) ++ ys) ≡ (has_line asked (xs ++ 10 ∷ []) || has_line asked ys)
line_first asked xs ys =
    let whole = list_any (has_words asked) (pieces 10 xs) in
    let alone : has_line asked (xs ++ 10 ∷ []) ≡ whole = line_before asked xs [] ∙ ap (λ t. whole || t) (nothing asked) ∙ or_false whole in
    ap (has_line asked) (append_assoc xs (10 ∷ []) ys)
    ∙ line_before asked xs ys
    ∙ ap (λ t. t || has_line asked ys) (sym alone)

-- the line of an event without its line feed
abbrev front_of : Event → List ℕ
front_of e = thirteen_digits e.tick.0 ++ codes " " ++ partition_text e.partition ++ codes " " ++ kind_text e.kind

event_first : (asked : List (List ℕ)) (e : Event) (ys : List ℕ) → has_line asked (line_of e ++ ys) ≡ (has_line asked (line_of e) || has_line asked ys)
event_first asked e ys = line_first asked (front_of e) ys

-- The lines of events with a text after them have such a line if the events have one, or if the text has one.
pub line_behind : (asked : List (List ℕ)) (es : List Event) (ys : List ℕ) → has_line asked (text_of es ++ ys) ≡ (has_line asked (text_of es) || has_line asked ys)
line_behind asked [] ys = ap (λ t. t || has_line asked ys) (sym (nothing asked))
line_behind asked (e ∷ es) ys =
    ap (has_line asked) (append_assoc (line_of e) (text_of es) ys)
    ∙ event_first asked e (text_of es ++ ys)
    ∙ ap (λ t. has_line asked (line_of e) || t) (line_behind asked es ys)
    ∙ sym (or_assoc (has_line asked (line_of e)) (has_line asked (text_of es)) (has_line asked ys))
    ∙ ap (λ t. t || has_line asked ys) (sym (event_first asked e (text_of es)))

pub line_of_nothing : (asked : List (List ℕ)) → has_line asked [] ≡ false
line_of_nothing asked = nothing asked
