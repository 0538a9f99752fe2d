-- The parts of a line: how much of a text is left at a piece, and one turn of the search for the pieces.
use Rattle.std.proofs.Common.{◌≡◌, ℕ, suc, ◌+◌, Bool, true, false, cond, List, [], ◌∷◌, ◌++◌, length, Option, Some, None, take, refl, sym, ap, ◌∙◌, arith, rules, append_assoc, append-nil}
use Rattle.std.specs.Prelude.{not, ◌==◌}
use Rattle.std.specs.List.{prefix_len}
use Rattle.apex_types.specs.Line.{space}
use Rattle.module_meaning.specs.DeviceText.{piece, pieces, pieces_behind_marks}
use Rattle.text_lines.specs.Pieces.{pieces_of}
use Rattle.std.proofs.lemmas.List.{map-append}
use Rattle.image_findings.specs.Parts.{Part, parts, total}
use Rattle.image_findings.specs.Views.{part_of, parts_of}
use Rattle.image_findings.specs.declared.parts.Part as code

one_more : (n b : ℕ) (bs : List ℕ) → length (take (1 + n) (b ∷ bs)) ≡ 1 + length (take n bs)
one_more n b bs = search rules

total_step : (t : Bool) (b : ℕ) (bs : List ℕ) (n whole : ℕ) (more : List (List ℕ)) → total (take n bs ∷ more) ≡ whole → total (take (cond (not t) (1 + n) 0) (b ∷ bs) ∷ cond t (take n bs ∷ more) more) ≡ suc whole
total_step true b bs n whole more h = omega (arith, h)
total_step false b bs n whole more h = omega (arith, h, one_more n b bs)

-- the pieces of a text and the marks between them are as long as the text
pub total_pieces : (mark : ℕ) (bs : List ℕ) → total (pieces mark bs) ≡ length bs
unfolding pieces_behind_marks
total_pieces mark [] = refl
total_pieces mark (b ∷ bs) =
    total_step (b == mark) b bs (prefix_len (λ x. not (x == mark)) bs) (length bs) (pieces_behind_marks mark bs) (total_pieces mark bs)

-- ---- one turn

-- the parts that were found, and those of the rest
abbrev pub found_and_rest : List Part → Option (List ℕ) → List Part
found_and_rest found rest = found ++ parts (pieces_of space rest)

pub next_part : (found new : List Part) (rest : Option (List ℕ)) (text front : List ℕ) (more : Option (List ℕ)) (p : Part)
    → rest ≡ Some text → front ≡ piece space text → pieces_behind_marks space text ≡ pieces_of space more → p.text ≡ front → p.left ≡ length text → new ≡ found ++ p ∷ []
    → found_and_rest found rest ≡ found_and_rest new more
next_part found new rest text front more p r f b is left n =
    let first : Part = record { text = piece space text; left = total (pieces space text) } in
    let same : first ≡ p = ap (λ (x : List ℕ). record { text = x; left = total (pieces space text) }) (sym (is ∙ f)) ∙ ap (λ (x : ℕ). record { text = p.text; left = x }) (total_pieces space text ∙ sym left) in
    ap (λ (o : Option (List ℕ)). found ++ parts (pieces_of space o)) r
    ∙ ap (λ (ps : List (List ℕ)). found ++ first ∷ parts ps) b
    ∙ ap (λ (x : Part). found ++ x ∷ parts (pieces_of space more)) same
    ∙ sym (append_assoc found (p ∷ []) (parts (pieces_of space more)))
    ∙ ap (λ (xs : List Part). xs ++ parts (pieces_of space more)) (sym n)

pub all_parts : (found whole : List Part) (rest : Option (List ℕ)) → whole ≡ found_and_rest found rest → rest ≡ None → found ≡ whole
all_parts found whole rest w none = sym (w ∙ ap (found_and_rest found) none ∙ append-nil found)

-- one part more
pub pushed : (found new : List code.Part) (p : code.Part) → new ≡ found ++ p ∷ [] → parts_of new ≡ parts_of found ++ part_of p ∷ []
pushed found new p n = ap parts_of n ∙ map-append part_of found (p ∷ [])
