-- The costs of the bodies of the partitions of a module.
use Rattle.std.specs.Prelude.{◌≡◌, ℕ, List, [], ◌∷◌, ◌++◌, map, Option, Some, None, Ok}
use Rattle.apex_types.specs.declared.cost.Costs.{Costs}
use Rattle.pal_meaning.specs.BodyCosts as cost
use Rattle.module_meaning.specs.Table.{Partition, Table}
use Rattle.pal_meaning.specs.Program.{Program, Procedure, Body, Process}
use Rattle.pal_meaning.specs.Syntax as written
use Rattle.pal_meaning.specs.WellFormed.{verdict}
use Rattle.pal.specs.Costs.{costs_of}
use Rattle.pal.specs.ProcedureNames.{procedure_names}
use Rattle.pal.specs.declared.report.BodyCost.{BodyCost}
use Rattle.pal.specs.declared.report.BodyName.{BodyName}
use Rattle.pal.specs.declared.report.BodyName.TheVariants as body
use Rattle.pal_meaning.specs.Grammar.{IsProgramOf}
use Rattle.module_meaning.specs.Accepted.{IsTable}
use Rattle.module.specs.Refusals.{IsRefusal, IsRefusedWith}
use Rattle.module.specs.Sources.{AreSources}
use Rattle.window_table.specs.Views.{table_of}
use Rattle.pal_base.specs.declared.checked.Checked.{Checked}
use Rattle.module.specs.declared.costing.AcceptedModule.{AcceptedModule}
use Rattle.module.specs.declared.costing.PartitionCosts.{PartitionCosts}
use Rattle.module.specs.declared.fault.BuildFault.{BuildFault}
use Rattle.module.specs.declared.fault.BuildFault.TheVariants as fault

-- ---- the costs of a program

-- its instructions, its frame, and the sum of the costs of its constructs
abbrev pub cost_of_body : Costs → BodyName → Body → BodyCost
cost_of_body costs name b = record { name = name; instructions = cost.size_of_body b; frame = cost.frame_of_body b; cost = cost.cost_of_body costs b }

abbrev pub cost_of_procedure : Costs → List ℕ → Procedure → BodyCost
cost_of_procedure costs name p = record { name = body.Procedure name; instructions = cost.size_of_procedure p; frame = cost.frame_of_procedure p; cost = cost.cost_of_procedure costs p }

abbrev pub cost_of_process : Costs → Process → BodyCost
cost_of_process costs p = cost_of_body costs (body.Process p.name) p.body

abbrev pub costs_of_handler : Costs → Option Body → List BodyCost
costs_of_handler costs None = []
costs_of_handler costs (Some b) = cost_of_body costs body.Handler b ∷ []

-- procedures with these names: a program with its names resolved has numbers in place of them
abbrev pub costs_of_procedures : Costs → List (List ℕ) → List Procedure → List BodyCost
costs_of_procedures costs (name ∷ names) (p ∷ ps) = cost_of_procedure costs name p ∷ costs_of_procedures costs names ps
costs_of_procedures costs _ _ = []

-- INIT, the handler, the processes, and the procedures with these names
abbrev pub costs_of_program : Costs → List (List ℕ) → Program → List BodyCost
costs_of_program costs names p = cost_of_body costs body.Init p.init ∷ costs_of_handler costs p.handler ++ map (cost_of_process costs) p.processes ++ costs_of_procedures costs names p.procedures

-- ---- the costs of a module

-- The source is the text of a program, which is well formed for its partition, and these are its costs.
pub record IsCosted (costs : Costs) (row : Partition) (source : List ℕ) (c : PartitionCosts) : Type 0 where
  pub partition : c.partition ≡ row.name
  pub tree : written.Program
  pub written : IsProgramOf source tree
  pub program : Program
  pub judged : verdict row.ports row.period tree ≡ Ok program
  pub bodies : c.bodies.items ≡ costs_of_program costs (procedure_names tree.declarations) program

-- one for each partition, in order
abbrev pub AreCosted : Costs → List Partition → List (List ℕ) → List PartitionCosts → Type 0
AreCosted costs [] [] [] = Unit {0}
AreCosted costs (row ∷ rows) (source ∷ sources) (c ∷ cs) = IsCosted costs row source c × AreCosted costs rows sources cs
AreCosted costs _ _ _ = ⊥

-- the table and the sources are accepted, and these are the costs of their programs
pub record AreCosts (table : List ℕ) (sources : List (List ℕ)) (costs : List PartitionCosts) : Type 0 where
  pub rows : Table
  pub accepted : IsTable table rows
  pub costed : AreCosted rows.costs rows.partitions sources costs

-- ---- accepted sources

-- The table and the sources are accepted, and this is what the code holds of them.
pub record IsAcceptedModule (table : List ℕ) (sources : List (List ℕ)) (a : AcceptedModule) : Type 0 where
  pub accepted : IsTable table (table_of a.table)
  pub programs : AreSources (table_of a.table).partitions sources a.sources.items

-- ---- their costs

pub record IsCostOf (costs : Costs) (row : Partition) (a : Checked) (c : PartitionCosts) : Type 0 where
  pub partition : c.partition ≡ row.name
  pub bodies : c.bodies.items ≡ costs_of costs a.program

abbrev pub AreCostsOf : Costs → List Partition → List Checked → List PartitionCosts → Type 0
AreCostsOf costs [] [] [] = Unit {0}
AreCostsOf costs (row ∷ rows) (a ∷ accepted) (c ∷ cs) = IsCostOf costs row a c × AreCostsOf costs rows accepted cs
AreCostsOf costs _ _ _ = ⊥

-- ---- refusals: as for building, but no program is too long

abbrev pub IsCostRefusedWith : Table → List (List ℕ) → BuildFault → Type 0
IsCostRefusedWith t sources (fault.Compile name f) = ⊥
IsCostRefusedWith t sources f = IsRefusedWith t sources f

abbrev pub IsCostRefusal : List ℕ → List (List ℕ) → BuildFault → Type 0
IsCostRefusal table sources (fault.Compile name f) = ⊥
IsCostRefusal table sources f = IsRefusal table sources f
