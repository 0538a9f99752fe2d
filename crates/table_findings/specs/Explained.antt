-- The findings of a table as `--explain` shows them.
use Rattle.std.specs.Prelude.{ℕ, ◌-◌, Bool, true, false, if◌then◌else◌, List, [], ◌∷◌, ◌++◌, length, map, Option, Some, None, take}
use Rattle.finding_lines.specs.Lines.{AreAt}
use Rattle.finding_lines.specs.Reports.{Report}
use Rattle.finding_lines.specs.Entries.{Entry, Path, first_at, key}
use Rattle.table_findings.specs.Findings.{Finding, Missing, Unknown, What}
use Rattle.table_findings.specs.Subjects.{subject_path}

-- ---- the place of a finding

abbrev pub key_step : Option (List ℕ) → Path
key_step None = []
key_step (Some k) = key k ∷ []

-- the key path of a finding
abbrev pub finding_path : Finding → Path
finding_path f = subject_path f.subject ++ key_step f.key

-- what is found is about the key, or about its value
abbrev pub is_of_key : What → Bool
is_of_key (Missing _ _) = true
is_of_key (Unknown _) = true
is_of_key what = false

-- how much of the text is left at the place of a finding; all of it, if the text has no entry there
abbrev pub left_at : ℕ → What → Option Entry → ℕ
left_at whole what None = whole
left_at whole what (Some e) = if is_of_key what then e.key_left else e.value_left

-- how much of a text with these entries is before the place of a finding
abbrev pub offset_of : List ℕ → List Entry → Finding → ℕ
offset_of text es f = length text - left_at (length text) f.what (first_at (finding_path f) es)

-- ---- the lines

-- the lines report the places of the first twenty findings, one after another
abbrev pub AreOf : Report → List ℕ → List Entry → List Finding → List ℕ → Type 0
AreOf r text es found lines = AreAt r text (map (offset_of text es) (take 20 found)) lines
