-- The lines that are right, and the first one that is not.
use Rattle.std.proofs.Common.{◌≡◌, ℕ, suc, ◌+◌, ◌<◌, Bool, true, false, cond, List, [], ◌∷◌, length, Option, Some, None, take, refl, sym, ap, ◌∙◌, arith}
use Rattle.std.specs.Prelude.{not, ◌==◌}
use Rattle.std.specs.List.{prefix_len}
use Rattle.apex_types.specs.Line.{space}
use Rattle.module_meaning.specs.DeviceText.{piece, pieces, pieces_behind_marks}
use Rattle.image_findings.specs.First.{first_wrong, in_text, line_wrong, no_feed, unended}
use Rattle.image_findings.specs.Names.{Names}
use Rattle.image_findings.specs.Naming.{tick_of}
use Rattle.image_findings.specs.Parts.{total}
use Rattle.image_findings.specs.What.{Wrong}
use Rattle.image_findings.proofs.Pieces.{total_pieces}

-- what is said after a line that is judged
abbrev after_line : Names → ℕ → List ℕ → List (List ℕ) → ℕ → Option Wrong → Option Wrong
after_line names count line more whole (Some w) = Some (in_text whole (length line) w)
after_line names count line more whole None = first_wrong names (count + 1) (tick_of (piece space line)) more

next_line : (names : Names) (count before : ℕ) (rest front more : List ℕ) → front ≡ piece 10 rest → pieces_behind_marks 10 rest ≡ pieces 10 more → first_wrong names count before (pieces 10 rest) ≡ after_line names count front (pieces 10 more) (length rest) (line_wrong names count before front)
unfolding first_wrong
next_line names count before rest front more f b =
    let whole : total (piece 10 rest ∷ pieces 10 more) ≡ length rest = ap (λ (ps : List (List ℕ)). total (piece 10 rest ∷ ps)) (sym b) ∙ total_pieces 10 rest in
    ap (λ (ps : List (List ℕ)). first_wrong names count before (piece 10 rest ∷ ps)) b
    ∙ ap (λ (n : ℕ). after_line names count (piece 10 rest) (pieces 10 more) n (line_wrong names count before (piece 10 rest))) whole
    ∙ ap (λ (p : List ℕ). after_line names count p (pieces 10 more) (length rest) (line_wrong names count before p)) (sym f)

pub wrong_line : (names : Names) (count before : ℕ) (rest front more : List ℕ) (w : Wrong) → front ≡ piece 10 rest → pieces_behind_marks 10 rest ≡ pieces 10 more → Some w ≡ line_wrong names count before front
    → first_wrong names count before (pieces 10 rest) ≡ Some (in_text (length rest) (length front) w)
wrong_line names count before rest front more w f b e =
    next_line names count before rest front more f b ∙ ap (after_line names count front (pieces 10 more) (length rest)) (sym e)

pub right_line : (names : Names) (count before : ℕ) (rest front more : List ℕ) → front ≡ piece 10 rest → pieces_behind_marks 10 rest ≡ pieces 10 more → None ≡ line_wrong names count before front
    → first_wrong names count before (pieces 10 rest) ≡ first_wrong names (count + 1) (tick_of (piece space front)) (pieces 10 more)
right_line names count before rest front more f b e =
    next_line names count before rest front more f b ∙ ap (after_line names count front (pieces 10 more) (length rest)) (sym e)

pub no_more : (names : Names) (count before : ℕ) (rest : List ℕ) → length rest ≡ 0 → first_wrong names count before (pieces 10 rest) ≡ None
unfolding first_wrong pieces_behind_marks
no_more names count before [] h = refl
no_more names count before (b ∷ rest) h = absurd (omega (arith, h))

some_byte : (n b : ℕ) (rest : List ℕ) → unended (take (1 + n) (b ∷ rest)) ≡ Some no_feed
some_byte n b rest = let more : 1 + n ≡ suc n = omega arith in ap (λ (k : ℕ). unended (take k (b ∷ rest))) more

no_mark : (t : Bool) (b n : ℕ) (front rest : List ℕ) (behind more : List (List ℕ)) → cond t (front ∷ behind) more ≡ [] → unended (take (cond (not t) (1 + n) 0) (b ∷ rest)) ≡ Some no_feed
no_mark true b n front rest behind more e = cc
no_mark false b n front rest behind more e = some_byte n b rest

pub no_line_feed : (names : Names) (count before : ℕ) (rest : List ℕ) → 0 < length rest → pieces_behind_marks 10 rest ≡ [] → first_wrong names count before (pieces 10 rest) ≡ Some no_feed
unfolding first_wrong pieces_behind_marks
no_line_feed names count before [] h e = absurd (omega (arith, h))
no_line_feed names count before (b ∷ rest) h e =
    ap (λ (ps : List (List ℕ)). first_wrong names count before (piece 10 (b ∷ rest) ∷ ps)) e
    ∙ no_mark (b == 10) b (prefix_len (λ x. not (x == 10)) rest) (piece 10 rest) rest (pieces_behind_marks 10 rest) (pieces_behind_marks 10 rest) e

-- a line and its feed are at least one byte
pub one_more : (rest front more : List ℕ) → front ≡ piece 10 rest → pieces_behind_marks 10 rest ≡ pieces 10 more → length more < length rest
one_more rest front more f b =
    let whole : total (piece 10 rest ∷ pieces 10 more) ≡ length rest = ap (λ (ps : List (List ℕ)). total (piece 10 rest ∷ ps)) (sym b) ∙ total_pieces 10 rest in
    omega (arith, whole, total_pieces 10 more)
