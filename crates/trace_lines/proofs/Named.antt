-- Words that are read one by one.
use Rattle.std.proofs.Common.{◌≡◌, ℕ, List, [], ◌∷◌, Option, Some, None, refl, sym, ap, ◌∙◌, option_copied}
use Rattle.module_meaning.specs.DeviceText.{piece, pieces, pieces_behind_marks}
use Rattle.text_lines.specs.Pieces.{pieces_of}
use Rattle.trace_text.specs.Reading.{keyword_of}
use Rattle.trace_text.specs.declared.keyword.Keyword.{Keyword}
use Rattle.trace_lines.specs.KindSets.{with_kind, with_word, with_words}
use Rattle.trace_lines.specs.declared.kinds.Kinds.{Kinds}

-- the pieces of a text that is there: the first, and those after the marks
first_piece : (text front : List ℕ) (more : Option (List ℕ)) → front ≡ piece 44 text → pieces_behind_marks 44 text ≡ pieces_of 44 more → pieces 44 text ≡ front ∷ pieces_of 44 more
first_piece text front more f b = ap (λ (p : List ℕ). p ∷ pieces_behind_marks 44 text) (sym f) ∙ ap (λ (ps : List (List ℕ)). front ∷ ps) b

no_words : (words : List (List ℕ)) → with_words words None ≡ None
no_words [] = refl
no_words (word ∷ words) = refl

pub one_word : (rest : Option (List ℕ)) (text front : List ℕ) (more : Option (List ℕ)) (kinds : Kinds) (word : Option Keyword) → rest ≡ Some text → front ≡ piece 44 text → pieces_behind_marks 44 text ≡ pieces_of 44 more → word ≡ keyword_of front
    → with_words (pieces_of 44 rest) (Some kinds) ≡ with_words (pieces_of 44 more) (with_word word kinds)
one_word rest text front more kinds word r f b w =
    ap (λ (o : Option (List ℕ)). with_words (pieces_of 44 o) (Some kinds)) r
    ∙ ap (λ (ps : List (List ℕ)). with_words ps (Some kinds)) (first_piece text front more f b)
    ∙ ap (λ (k : Option Keyword). with_words (pieces_of 44 more) (with_word k kinds)) (sym w)

pub unknown_word : (rest : Option (List ℕ)) (text front : List ℕ) (more : Option (List ℕ)) (kinds : Kinds) → rest ≡ Some text → front ≡ piece 44 text → pieces_behind_marks 44 text ≡ pieces_of 44 more → None ≡ keyword_of front
    → with_words (pieces_of 44 rest) (Some kinds) ≡ None
unknown_word rest text front more kinds r f b w = one_word rest text front more kinds None r f b w ∙ no_words (pieces_of 44 more)
