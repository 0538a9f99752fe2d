-- The names of the procedures of a program, in the order of declaration.
use Rattle.std.specs.Prelude.{ℕ, List, map, filter_map, Option, Some, None}
use Rattle.pal_meaning.specs.Syntax as written
use Rattle.pal_base.specs.declared.program.Procedure as code_procedure

abbrev pub name_if_procedure : List ℕ → written.Kind → Option (List ℕ)
name_if_procedure name (written.Procedure parameters body) = Some name
name_if_procedure name _ = None

-- as the program is written
abbrev pub procedure_names : List written.Declaration → List (List ℕ)
procedure_names declarations = filter_map (λ d. name_if_procedure d.name d.kind) declarations

-- as the program with its names resolved holds them
abbrev pub names_of_procedures : List code_procedure.Procedure → List (List ℕ)
names_of_procedures procedures = map (λ p. p.name) procedures
