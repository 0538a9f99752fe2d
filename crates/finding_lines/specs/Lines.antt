-- The lines that report findings, as `--explain` shows them: where each one is. What they say of it is not laid down here.
use Rattle.std.specs.Prelude.{◌≡◌, ℕ, List, [], ◌∷◌, ◌++◌, codes, take}
use Rattle.std.specs.Fmt.{decimal}
use Rattle.finding_lines.specs.Texts.{column_of, line_of}
use Rattle.finding_lines.specs.Objects.{at_byte, at_place, object_line, of_file, of_rule}
use Rattle.finding_lines.specs.Reports.{Form, Report, json, plain}

-- ---- at an offset of a text

-- for people the lines begin with the file, and the line and the column after what is before the place
abbrev pub begun_at : List ℕ → List ℕ → List ℕ → List ℕ
begun_at file before rest = file ++ (codes ":" ++ (decimal (line_of before) ++ (codes ":" ++ (decimal (column_of before) ++ (codes ": " ++ rest)))))

abbrev pub object_at : List ℕ → List ℕ → List ℕ → List ℕ → List ℕ → List ℕ
object_at file before rule said advice = object_line (at_place file (line_of before) (column_of before) rule said advice)

abbrev pub IsToldAt : Form → List ℕ → List ℕ → List ℕ → Type 0
IsToldAt plain file before lines = (rest : List ℕ) × (lines ≡ begun_at file before rest)
IsToldAt (json rule) file before lines = (said : List ℕ) × (advice : List ℕ) × (lines ≡ object_at file before rule said advice)

abbrev pub IsAt : Report → List ℕ → ℕ → List ℕ → Type 0
IsAt r text offset lines = IsToldAt r.form r.file (take offset text) lines

-- the lines report these places of a text, one after another
abbrev pub AreAt : Report → List ℕ → List ℕ → List ℕ → Type 0
AreAt r text [] lines = lines ≡ []
AreAt r text (offset ∷ offsets) lines = (first : List ℕ) × (others : List ℕ) × IsAt r text offset first × AreAt r text offsets others × (lines ≡ first ++ others)

-- ---- at a byte of a file that is no text, counted from 0

abbrev pub IsToldAtByte : Form → List ℕ → ℕ → List ℕ → Type 0
IsToldAtByte plain file offset lines = (rest : List ℕ) × (lines ≡ file ++ (codes ": byte " ++ (decimal offset ++ (codes ": " ++ rest))))
IsToldAtByte (json rule) file offset lines = (said : List ℕ) × (advice : List ℕ) × (lines ≡ object_line (at_byte file offset rule said advice))

abbrev pub IsAtByte : Report → ℕ → List ℕ → Type 0
IsAtByte r offset lines = IsToldAtByte r.form r.file offset lines

-- ---- without a place

abbrev pub IsToldOf : Form → List ℕ → List ℕ → Type 0
IsToldOf plain file lines = (rest : List ℕ) × (lines ≡ file ++ (codes ": " ++ rest))
IsToldOf (json rule) file lines = (said : List ℕ) × (advice : List ℕ) × (lines ≡ object_line (of_file file rule said advice))

abbrev pub IsOfFile : Report → List ℕ → Type 0
IsOfFile r lines = IsToldOf r.form r.file lines

-- ---- a refusal that is about no file

abbrev pub rule_line : List ℕ → List ℕ → List ℕ → List ℕ
rule_line rule said advice = object_line (of_rule rule said advice)
