-- What a report says of a partition by its number.
use Rattle.std.specs.Prelude.{ℕ, ◌+◌, ◌==◌, List, [], ◌∷◌, Option, Some, None, if◌then◌else◌}
use Rattle.apex_types.specs.declared.row.WindowRow.{WindowRow}
use Rattle.module_meaning.specs.Table.{at_number}
use Rattle.schedule_load.specs.declared.load.PartitionLoad.{PartitionLoad}

-- the name of a partition that is there
abbrev pub name_or_none : Option PartitionLoad → List ℕ
name_or_none None = []
name_or_none (Some load) = load.name

-- the name of the partition with this number, or an empty text
abbrev pub name_of : List PartitionLoad → ℕ → List ℕ
name_of loads number = name_or_none (at_number loads number)

-- how many of the windows are of the partition with this number
abbrev pub windows_of : ℕ → List WindowRow → ℕ
windows_of number [] = 0
windows_of number (w ∷ ws) = (if w.partition.0 == number then 1 else 0) + windows_of number ws
