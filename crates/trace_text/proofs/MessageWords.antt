-- Words that are read one by one and kept, and those that are still to come.
use Rattle.std.proofs.Common.{◌≡◌, ℕ, ℤ, ◌≤◌, Bool, true, false, cond, List, [], ◌∷◌, ◌++◌, length, Option, Some, None, refl, sym, ap, ◌∙◌, arith, append_assoc, append-nil, length-append}
use Rattle.std.proofs.lemmas.Bool.{lt-leb, le-leb}
use Rattle.apex_types.specs.declared.limits.TheConstants.{MOST_WORDS}
use Rattle.apex_types.specs.Line.{space}
use Rattle.arrayvec.specs.ArrayVec.{ArrayVec}
use Rattle.module_meaning.specs.DeviceText.{piece, pieces_behind_marks, word, words, put_word}
use Rattle.kernel_meaning.specs.Step.{message}
use Rattle.text_lines.specs.Pieces.{pieces_of}
use Rattle.text_lines.proofs.Words.{next_word}
use Rattle.trace_text.specs.Reading.{few}

-- the value of all words, after `kept`, with the other words still to come
abbrev pub few_behind : List ℤ → Option (List ℤ) → Option (ArrayVec ℤ)
few_behind kept None = None
few_behind kept (Some ws) = few (Some (kept ++ ws))

few_behind_more : (kept : List ℤ) (w : ℤ) (rest : Option (List ℤ)) → few_behind kept (put_word (Some w) rest) ≡ few_behind (kept ++ w ∷ []) rest
few_behind_more kept w None = refl
few_behind_more kept w (Some ws) = ap (λ (xs : List ℤ). few (Some xs)) (sym (append_assoc kept (w ∷ []) ws))

too_long : (b : Bool) (m : ArrayVec ℤ) → b ≡ false → cond b (Some m) None ≡ None
too_long true m e = cc
too_long false m e = refl

few_behind_full : (kept : List ℤ) (w : ℤ) (rest : Option (List ℤ)) → length kept ≡ MOST_WORDS → few_behind kept (put_word (Some w) rest) ≡ None
few_behind_full kept w None full = refl
few_behind_full kept w (Some ws) full = too_long _ (message (kept ++ w ∷ ws)) (lt-leb (length (kept ++ w ∷ ws)) MOST_WORDS (omega (arith, full, length-append kept (w ∷ ws))))

in_time : (b : Bool) (m : ArrayVec ℤ) → b ≡ true → cond b (Some m) None ≡ Some m
in_time true m e = refl
in_time false m e = cc

pub all_kept : (kept : List ℤ) → length kept ≤ MOST_WORDS → few_behind kept (Some []) ≡ Some (message kept)
all_kept kept short = rw (append-nil kept) (in_time _ (message kept) (le-leb (length kept) MOST_WORDS short))

pub keeps_one : (kept new : List ℤ) (rest : Option (List ℕ)) (text front : List ℕ) (more : Option (List ℕ)) (w : ℤ) → new ≡ kept ++ w ∷ [] → rest ≡ Some text → front ≡ piece space text → pieces_behind_marks space text ≡ pieces_of space more → Some w ≡ word front → few_behind kept (words (pieces_of space rest)) ≡ few_behind new (words (pieces_of space more))
keeps_one kept new rest text front more w n r f b e =
    ap (λ (o : Option (List ℕ)). few_behind kept (words (pieces_of space o))) r
    ∙ ap (few_behind kept) (next_word text front more (Some w) f b e)
    ∙ few_behind_more kept w (words (pieces_of space more))
    ∙ ap (λ (ws : List ℤ). few_behind ws (words (pieces_of space more))) (sym n)

pub one_too_many : (kept : List ℤ) (rest : Option (List ℕ)) (text front : List ℕ) (more : Option (List ℕ)) (w : ℤ) → length kept ≡ MOST_WORDS → rest ≡ Some text → front ≡ piece space text → pieces_behind_marks space text ≡ pieces_of space more → Some w ≡ word front → few_behind kept (words (pieces_of space rest)) ≡ None
one_too_many kept rest text front more w full r f b e =
    ap (λ (o : Option (List ℕ)). few_behind kept (words (pieces_of space o))) r
    ∙ ap (few_behind kept) (next_word text front more (Some w) f b e)
    ∙ few_behind_full kept w (words (pieces_of space more)) full

pub no_word : (kept : List ℤ) (rest : Option (List ℕ)) (text front : List ℕ) (more : Option (List ℕ)) → rest ≡ Some text → front ≡ piece space text → pieces_behind_marks space text ≡ pieces_of space more → None ≡ word front → few_behind kept (words (pieces_of space rest)) ≡ None
no_word kept rest text front more r f b e =
    ap (λ (o : Option (List ℕ)). few_behind kept (words (pieces_of space o))) r
    ∙ ap (few_behind kept) (next_word text front more None f b e)
