-- The places of what is wrong with a refused source, as `--explain` shows them.
use Rattle.std.specs.Prelude.{◌≡◌, ℕ, ◌-◌, List, length, map, Some}
use Rattle.finding_lines.specs.Lines.{AreAt, IsAt}
use Rattle.finding_lines.specs.Reports.{Report}
use Rattle.pal.specs.declared.report.BodyCost.{BodyCost}
use Rattle.pal_base.specs.Leaving.{IsLookedFor}
use Rattle.pal_base.specs.declared.fault.Refusal.{Refusal}
use Rattle.pal_base.specs.declared.fault.Refusal.TheVariants as rule
use Rattle.pal_base.specs.declared.looking.LookedFor.{LookedFor}
use Rattle.pal_meaning.specs.Grammar.{IsProgramOf}
use Rattle.pal_meaning.specs.Lines.{from_word}
use Rattle.pal_meaning.specs.Syntax as written
use Rattle.source_findings.specs.Bodies.{wrongs}
use Rattle.source_findings.specs.Lengths.{length_wrongs}
use Rattle.source_findings.specs.Texts.{text_wrongs}
use Rattle.source_findings.specs.What.{Wrong}

abbrev pub offset_of : List ℕ → Wrong → ℕ
offset_of text w = length text - w.left

-- the lines report the places where something is wrong, one after another
abbrev pub AreOf : Report → List ℕ → List Wrong → List ℕ → Type 0
AreOf r text ws lines = AreAt r text (map (offset_of text) ws) lines

-- the place where a text leaves the grammar
abbrev pub unfit_offset : List ℕ → LookedFor → ℕ
unfit_offset text place = length text - length (from_word place.place text)

abbrev pub IsUnfit : Report → List ℕ → List ℕ → Type 0
IsUnfit r text lines = (place : LookedFor) × IsLookedFor text (Some place) × IsAt r text (unfit_offset text place) lines

-- each place where a program breaks a rule
abbrev pub IsOfProgram : Report → ℕ → List ℕ → Refusal → List ℕ → Type 0
IsOfProgram r period text rule lines = (program : written.Program) × IsProgramOf text program × AreOf r text (wrongs rule period text program) lines

-- the lines say what is wrong with a source by the rule of its refusal, for a partition of this period
abbrev pub IsExplanation : Report → ℕ → List ℕ → Refusal → List ℕ → Type 0
IsExplanation r period text rule.Text lines = AreOf r text (text_wrongs text) lines
IsExplanation r period text rule.Grammar lines = IsUnfit r text lines
IsExplanation r period text rule lines = IsOfProgram r period text rule lines

-- the lines report the body with which a program of this text is too long, by the costs of its bodies
abbrev pub IsOfLength : Report → List ℕ → List BodyCost → List ℕ → Type 0
IsOfLength r text bodies lines = AreOf r text (length_wrongs text bodies) lines
