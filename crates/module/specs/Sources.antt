-- Accepted sources as the code holds them.
use Rattle.std.specs.Prelude.{◌≡◌, ℕ, List, [], ◌∷◌, map, Ok}
use Rattle.module_meaning.specs.Table.{Partition}
use Rattle.pal_meaning.specs.Program.{Program}
use Rattle.pal_meaning.specs.Syntax as written
use Rattle.pal_meaning.specs.WellFormed.{verdict}
use Rattle.pal_meaning.specs.Grammar.{IsProgramOf}
use Rattle.pal_base.specs.ProgramView.{program_of}
use Rattle.pal.specs.ProcedureNames.{names_of_procedures, procedure_names}
use Rattle.pal_base.specs.declared.checked.Checked.{Checked}

abbrev pub programs_of : List Checked → List Program
programs_of accepted = map (λ (a : Checked). program_of a.program) accepted

-- The source is the text of a program, which is well formed for its partition; its procedures keep their names.
pub record IsSource (row : Partition) (source : List ℕ) (a : Checked) : Type 0 where
  pub tree : written.Program
  pub written : IsProgramOf source tree
  pub judged : verdict row.ports row.period tree ≡ Ok (program_of a.program)
  pub named : names_of_procedures a.program.procedures.items ≡ procedure_names tree.declarations

abbrev pub AreSources : List Partition → List (List ℕ) → List Checked → Type 0
AreSources [] [] [] = Unit {0}
AreSources (row ∷ rows) (source ∷ sources) (a ∷ accepted) = IsSource row source a × AreSources rows sources accepted
AreSources _ _ _ = ⊥
