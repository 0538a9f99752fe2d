-- What is wrong with the first wrong line of a text, and how much of the text is left there.
use Rattle.std.specs.Prelude.{ℕ, ◌+◌, ◌-◌, List, [], ◌∷◌, length, Option, Some, None}
use Rattle.apex_types.specs.Line.{space}
use Rattle.module_meaning.specs.DeviceText.{piece, pieces}
use Rattle.image_findings.specs.Form.{form_wrong, or_else, wrong}
use Rattle.image_findings.specs.Names.{Names}
use Rattle.image_findings.specs.Naming.{meaning_wrong, tick_of}
use Rattle.image_findings.specs.Parts.{parts, total}
use Rattle.image_findings.specs.What.{Unended, Wrong}

-- what is wrong with a line after `count` others, of which the last has the tick `before`
abbrev pub line_wrong : Names → ℕ → ℕ → List ℕ → Option Wrong
line_wrong names count before line =
    or_else (form_wrong names.kind line (parts (pieces space line))) (meaning_wrong names count before (parts (pieces space line)))

abbrev pub no_feed : Wrong
no_feed = wrong 0 Unended

-- nothing may follow the last line feed
abbrev pub unended : List ℕ → Option Wrong
unended [] = None
unended (byte ∷ bytes) = Some no_feed

-- a place of a line that is the first one of the rest of a text, by what is left of the text
abbrev pub in_text : ℕ → ℕ → Wrong → Wrong
in_text rest line w = wrong (rest - (line - w.left)) w.what

-- the first wrong line of these, after `count` others of which the last has the tick `before`
unfoldable pub first_wrong : Names → ℕ → ℕ → List (List ℕ) → Option Wrong
first_wrong names count before [] = None
first_wrong names count before (last ∷ []) = unended last
first_wrong names count before (line ∷ next ∷ more) = elim (line_wrong names count before line) [
  | Some w ↦ Some (in_text (total (line ∷ next ∷ more)) (length line) w)
  | None ↦ first_wrong names (count + 1) (tick_of (piece space line)) (next ∷ more)
]
