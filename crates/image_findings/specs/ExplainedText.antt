-- The place of what is wrong with a text, as `--explain` shows it.
use Rattle.std.specs.Prelude.{ℕ, ◌-◌, List, length, Option, Some, None}
use Rattle.module_meaning.specs.DeviceText.{pieces}
use Rattle.finding_lines.specs.Lines.{IsAt}
use Rattle.finding_lines.specs.Reports.{Report}
use Rattle.image_findings.specs.First.{first_wrong}
use Rattle.image_findings.specs.Names.{Names}
use Rattle.image_findings.specs.What.{Wrong}

-- the lines report this, or there are none
abbrev pub IsOf : Report → List ℕ → Option Wrong → Option (List ℕ) → Type 0
IsOf r text None None = Unit {0}
IsOf r text (Some w) (Some lines) = IsAt r text (length text - w.left) lines
IsOf r text found lines = ⊥

-- the lines report what is wrong with the first wrong line; there are none if no line is wrong
abbrev pub IsExplanation : Report → Names → List ℕ → Option (List ℕ) → Type 0
IsExplanation r names text lines = IsOf r text (first_wrong names 0 0 (pieces 10 text)) lines
