-- When a source text is accepted as a program with its names resolved.
use Rattle.std.specs.Prelude.{◌≡◌, ℕ, List, Ok}
use Rattle.apex_types.specs.declared.row.PortRow.{PortRow}
use Rattle.pal_meaning.specs.Program.{Program}
use Rattle.pal_meaning.specs.Syntax as written
use Rattle.pal_meaning.specs.WellFormed.{verdict}
use Rattle.pal_meaning.specs.Grammar.{IsProgramOf}

-- there is a text of the program
abbrev pub HasText : written.Program → Type 0
HasText program = (text : List ℕ) × IsProgramOf text program

-- There is a text of a program that is well formed for a partition with these ports and this period, and
-- this is that program.
pub record IsAccepted (program : Program) : Type 0 where
  pub ports : List PortRow
  pub period : ℕ
  pub text : List ℕ
  pub tree : written.Program
  pub written : IsProgramOf text tree
  pub judged : verdict ports period tree ≡ Ok program
