-- The contents of the cells of tables.
use Rattle.std.specs.Prelude.{ℕ, Option, Some, None}
use Rattle.number_tables.specs.declared.cell.Cell.{Cell}
use Rattle.number_tables.specs.declared.cell.Cell.TheVariants as cell

abbrev pub number_cell : Option ℕ → Cell
number_cell None = cell.Absent
number_cell (Some n) = cell.Number n
