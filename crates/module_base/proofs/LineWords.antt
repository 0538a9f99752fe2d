-- Words that are read one by one, the first of which are kept.
use Rattle.module_base.proofs.Prelude.{◌≡◌, ℕ, ℤ, ◌≤◌, Bool, true, false, cond, List, ◌∷◌, ◌++◌, length, Option, Some, None, ◌∙◌, arith, append-nil, length-append, lt-leb, space, MOST_WORDS, ArrayVec, piece, message, pieces_of, fitting, MessageWords}
use Rattle.std.proofs.Common.{[], refl, sym, ap, append_assoc}
use Rattle.std.proofs.lemmas.Bool.{le-leb}
use Rattle.module_meaning.specs.DeviceText.{pieces_behind_marks, word, words, put_word}
use Rattle.text_lines.proofs.Words.{next_word}
use Rattle.module_base.specs.declared.line.MessageWords.TheVariants as held

-- the words of a message, after these were read and kept, or were too many, and the rest is still
-- to come
abbrev pub read_on : List ℤ → Bool → Option (List ℤ) → Option MessageWords
read_on kept is_long None = None
read_on kept true (Some ws) = Some held.TooMany
read_on kept false (Some ws) = Some (fitting (kept ++ ws))

pub read_on_kept : (kept : List ℤ) (is_long : Bool) (w : ℤ) (rest : Option (List ℤ)) → read_on kept is_long (put_word (Some w) rest) ≡ read_on (kept ++ w ∷ []) is_long rest
read_on_kept kept is_long w None = refl
read_on_kept kept true w (Some ws) = refl
read_on_kept kept false w (Some ws) = ap (λ (xs : List ℤ). Some (fitting xs)) (sym (append_assoc kept (w ∷ []) ws))

too_long : (b : Bool) (m : ArrayVec ℤ) → b ≡ false → cond b (held.Few m) held.TooMany ≡ held.TooMany
too_long true m e = cc
too_long false m e = refl

pub read_on_long : (kept : List ℤ) (is_long : Bool) (w : ℤ) (rest : Option (List ℤ)) → length kept ≡ MOST_WORDS → read_on kept is_long (put_word (Some w) rest) ≡ read_on kept true rest
read_on_long kept is_long w None full = refl
read_on_long kept true w (Some ws) full = refl
read_on_long kept false w (Some ws) full =
    ap (λ (m : MessageWords). Some m) (too_long _ (message (kept ++ w ∷ ws)) (lt-leb (length (kept ++ w ∷ ws)) MOST_WORDS (omega (arith, full, length-append kept (w ∷ ws)))))

in_time : (b : Bool) (m : ArrayVec ℤ) → b ≡ true → cond b (held.Few m) held.TooMany ≡ held.Few m
in_time true m e = refl
in_time false m e = cc

pub read_on_done : (kept : List ℤ) → length kept ≤ MOST_WORDS → read_on kept false (Some []) ≡ Some (held.Few (message kept))
read_on_done kept short =
    rw (append-nil kept) (ap (λ (m : MessageWords). Some m) (in_time _ (message kept) (le-leb (length kept) MOST_WORDS short)))

pub keeps_one : (kept new : List ℤ) (is_long : Bool) (rest : Option (List ℕ)) (text front : List ℕ) (more : Option (List ℕ)) (w : ℤ) → new ≡ kept ++ w ∷ [] → rest ≡ Some text → front ≡ piece space text → pieces_behind_marks space text ≡ pieces_of space more → Some w ≡ word front → read_on kept is_long (words (pieces_of space rest)) ≡ read_on new is_long (words (pieces_of space more))
keeps_one kept new is_long rest text front more w n r f b e =
    ap (λ (o : Option (List ℕ)). read_on kept is_long (words (pieces_of space o))) r
    ∙ ap (read_on kept is_long) (next_word text front more (Some w) f b e)
    ∙ read_on_kept kept is_long w (words (pieces_of space more))
    ∙ ap (λ (ws : List ℤ). read_on ws is_long (words (pieces_of space more))) (sym n)

pub drops_one : (kept : List ℤ) (is_long : Bool) (rest : Option (List ℕ)) (text front : List ℕ) (more : Option (List ℕ)) (w : ℤ) → length kept ≡ MOST_WORDS → rest ≡ Some text → front ≡ piece space text → pieces_behind_marks space text ≡ pieces_of space more → Some w ≡ word front → read_on kept is_long (words (pieces_of space rest)) ≡ read_on kept true (words (pieces_of space more))
drops_one kept is_long rest text front more w full r f b e =
    ap (λ (o : Option (List ℕ)). read_on kept is_long (words (pieces_of space o))) r
    ∙ ap (read_on kept is_long) (next_word text front more (Some w) f b e)
    ∙ read_on_long kept is_long w (words (pieces_of space more)) full

pub all_read : (kept : List ℤ) (is_long : Bool) (rest : Option (List ℕ)) → length kept ≤ MOST_WORDS → is_long ≡ false → rest ≡ None → read_on kept is_long (words (pieces_of space rest)) ≡ Some (held.Few (message kept))
unfolding words
all_read kept is_long rest short fits none =
    ap (λ (o : Option (List ℕ)). read_on kept is_long (words (pieces_of space o))) none
    ∙ ap (λ (b : Bool). read_on kept b (Some [])) fits
    ∙ read_on_done kept short
