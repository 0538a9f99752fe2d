-- The kinds of rows.
use Rattle.std.specs.Prelude.{◌≡◌, ℕ, List, [], ◌∷◌, Some}
use Rattle.std.specs.List.{filter}
use Rattle.std.specs.Str.{bytes_eq}
use Rattle.kernel_meaning.specs.Partition.{Member}
use Rattle.machine_meaning.specs.Image.{Item}
use Rattle.machine_meaning.specs.MachineControl.{MachineControl}
use Rattle.state_rows.specs.Rows.{Field, Row}
use Rattle.state_rows.specs.States.{member_rows}
use Rattle.state_view.specs.Parts.{member_part, part_with}

-- what a row is of: its first key
abbrev pub first_key : List Field → List ℕ
first_key [] = []
first_key (f ∷ fs) = f.key

-- the rows with this first key
abbrev pub of_kind : List ℕ → List Row → List Row
of_kind key rows = filter (λ r. bytes_eq key (first_key r.fields)) rows

-- all rows are of this partition
abbrev pub AreOf : List ℕ → List Row → Type 0
AreOf p [] = Unit {0}
AreOf p (r ∷ rs) = (r.partition ≡ Some p) × AreOf p rs

-- the rows of a kind are all in its part
abbrev pub IsInItsPart : List ℕ → Type 0
IsInItsPart key = (i : Item) (x : Member MachineControl) → of_kind key (member_part (part_with key) i x) ≡ of_kind key (member_rows i x)
