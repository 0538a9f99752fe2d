use Rattle.std.proofs.Common.{◌≡◌, ◌++◌, map, drop, filter_map, true}
use Rattle.std.specs.List.{list_all}
use Rattle.pal_meaning.specs.Resolve as meant
use Rattle.pal_meaning.specs.WellFormed.{keeps_declaration}
use Rattle.pal_base.specs.View.{texts, declaration_of}
use Rattle.pal_base.specs.ProgramView as shown
use Rattle.pal.specs.ProcedureNames.{names_of_procedures, procedure_names}
use Rattle.pal.specs.Tables.{entries_of}
use Rattle.pal.proofs.resolving.resolve_procedures.Given as goal

abbrev pub invariant-loop-declaration : goal.invariant-loop-declaration
invariant-loop-declaration l = (map shown.procedure_of l.procedures.items ++ filter_map (λ d. meant.procedure_of (entries_of l.declared) d.kind) (map (declaration_of (texts l.names.keys)) (drop l.declaration-index l.declarations)) ≡ filter_map (λ d. meant.procedure_of (entries_of l.declared) d.kind) (map (declaration_of (texts l.names.keys)) l.declarations))
    × (names_of_procedures l.procedures.items ++ procedure_names (map (declaration_of (texts l.names.keys)) (drop l.declaration-index l.declarations)) ≡ procedure_names (map (declaration_of (texts l.names.keys)) l.declarations))
    × (list_all (keeps_declaration (entries_of l.declared)) (map (declaration_of (texts l.names.keys)) (drop l.declaration-index l.declarations)) ≡ true)
