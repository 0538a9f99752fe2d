-- The costs of programs, one after the other.
use Rattle.module.proofs.Prelude.{◌≡◌, ℕ, ◌+◌, ◌<◌, List, ◌∷◌, ◌++◌, length, map, take, get_or, Option, Some, None, refl, sym, ap, ◌∙◌, arith, map-append, take_more, Costs, Partition, Table, partition_of, program_of, PartitionRow, IsTable, AreSourceRefusals, IsTableRefusal, AreCostsOf, AreSources, IsSource, Checked, BuildFault}
use Rattle.std.proofs.Common.{[]}
use Rattle.std.specs.Option.{option_map}
use Rattle.pal_base.specs.ProgramView.{body_of, procedure_of, process_of}
use Rattle.pal_base.specs.declared.program.Body as code_body
use Rattle.pal_base.specs.declared.program.Procedure as code_procedure
use Rattle.pal_base.specs.declared.program.Process as code_process
use Rattle.pal_base.specs.declared.program.Program as code_program
use Rattle.pal.specs.Costs as report
use Rattle.pal.specs.ProcedureNames.{names_of_procedures}
use Rattle.pal.specs.declared.report.BodyCost.{BodyCost}
use Rattle.module.specs.Costs.{AreCosted, IsCosted, IsCostOf, IsCostRefusal, IsCostRefusedWith, cost_of_process, costs_of_handler, costs_of_procedures, costs_of_program}
use Rattle.module.specs.declared.costing.PartitionCosts.{PartitionCosts}
use Rattle.module.specs.declared.fault.BuildFault.TheVariants as fault

-- ---- one program

handler_costs : (costs : Costs) (h : Option code_body.Body) → report.cost_of_handler costs h ≡ costs_of_handler costs (option_map body_of h)
handler_costs costs None = refl
handler_costs costs (Some b) = refl

process_costs : (costs : Costs) (ps : List code_process.Process) → map (report.cost_of_process costs) ps ≡ map (cost_of_process costs) (map process_of ps)
process_costs costs [] = refl
process_costs costs (p ∷ ps) = ap (λ (rows : List BodyCost). report.cost_of_process costs p ∷ rows) (process_costs costs ps)

procedure_costs : (costs : Costs) (ps : List code_procedure.Procedure) → map (report.cost_of_procedure costs) ps ≡ costs_of_procedures costs (names_of_procedures ps) (map procedure_of ps)
procedure_costs costs [] = refl
procedure_costs costs (p ∷ ps) = ap (λ (rows : List BodyCost). report.cost_of_procedure costs p ∷ rows) (procedure_costs costs ps)

costs_of_code : (costs : Costs) (p : code_program.Program) → report.costs_of costs p ≡ costs_of_program costs (names_of_procedures p.procedures.items) (program_of p)
costs_of_code costs p =
    rw (sym (handler_costs costs p.handler), sym (process_costs costs p.processes.items), sym (procedure_costs costs p.procedures.items)) refl

is_costed : (k : Costs) (row : Partition) (source : List ℕ) (a : Checked) (c : PartitionCosts) → IsSource row source a → IsCostOf k row a c → IsCosted k row source c
is_costed k row source a c is of = record {
  partition = of.partition;
  tree = is.tree;
  written = is.written;
  program = program_of a.program;
  judged = is.judged;
  bodies = of.bodies ∙ costs_of_code k a.program ∙ ap (λ (names : List (List ℕ)). costs_of_program k names (program_of a.program)) is.named;
}

pub are_costed : (k : Costs) (rows : List Partition) (sources : List (List ℕ)) (given : List Checked) (costs : List PartitionCosts)
    → AreSources rows sources given → AreCostsOf k rows given costs → AreCosted k rows sources costs
are_costed k [] [] [] [] is of = tt
are_costed k [] [] [] (c ∷ costs) is of = absurd of
are_costed k [] [] (a ∷ given) costs is of = absurd is
are_costed k [] (s ∷ sources) given costs is of = absurd is
are_costed k (row ∷ rows) [] given costs is of = absurd is
are_costed k (row ∷ rows) (s ∷ sources) [] costs is of = absurd is
are_costed k (row ∷ rows) (s ∷ sources) (a ∷ given) [] is of = absurd of
are_costed k (row ∷ rows) (s ∷ sources) (a ∷ given) (c ∷ costs) is of = (is_costed k row s a c is.0 of.0, are_costed k rows sources given costs is.1 of.1)

-- ---- programs one after the other

one_more_costed : (k : Costs) (rows : List Partition) (given : List Checked) (costs : List PartitionCosts) (row : Partition) (a : Checked) (c : PartitionCosts)
    → AreCostsOf k rows given costs → IsCostOf k row a c → AreCostsOf k (rows ++ row ∷ []) (given ++ a ∷ []) (costs ++ c ∷ [])
one_more_costed k [] [] [] row a c h one = (one, tt)
one_more_costed k [] [] (d ∷ costs) row a c h one = absurd h
one_more_costed k [] (b ∷ given) costs row a c h one = absurd h
one_more_costed k (r ∷ rows) [] costs row a c h one = absurd h
one_more_costed k (r ∷ rows) (b ∷ given) [] row a c h one = absurd h
one_more_costed k (r ∷ rows) (b ∷ given) (d ∷ costs) row a c h one = (h.0, one_more_costed k rows given costs row a c h.1 one)

pub next_costed : (k : Costs) (rows : List PartitionRow) (place : ℕ) (given : List Checked) (a : Checked) (costs next : List PartitionCosts) (row : PartitionRow) (c : PartitionCosts)
    → place < length rows → row ≡ get_or rows place row → next ≡ costs ++ c ∷ [] → IsCostOf k (partition_of row) a c
    → AreCostsOf k (map partition_of (take place rows)) given costs
    → AreCostsOf k (map partition_of (take (place + 1) rows)) (given ++ a ∷ []) next
next_costed k rows place given a costs next row c within read pushed one h =
    let taken : take (place + 1) rows ≡ take place rows ++ row ∷ [] = take_more rows place row within ∙ ap (λ (r : PartitionRow). take place rows ++ r ∷ []) (sym read) in
    let rows_are : map partition_of (take (place + 1) rows) ≡ map partition_of (take place rows) ++ partition_of row ∷ [] = ap (map partition_of) taken ∙ map-append partition_of (take place rows) (row ∷ []) in
    rw (rows_are, pushed) (one_more_costed k (map partition_of (take place rows)) given costs (partition_of row) a c h one)

-- if a source is left, there is a row for it
pub stands_within : {A B : Type 0} (rows : List A) (place : ℕ) (source : B) (left rest : List B) → left ≡ source ∷ rest → place + length left ≡ length rows → place < length rows
stands_within rows place source left rest split all = omega (arith, ap length split)

pub one_fewer : {A B : Type 0} (rows : List A) (place : ℕ) (source : B) (left rest : List B) → left ≡ source ∷ rest → place + length left ≡ length rows → place + 1 + length rest ≡ length rows
one_fewer rows place source left rest split all = omega (arith, ap length split)

-- ---- a module

pub table_not_costed : (table : List ℕ) (sources : List (List ℕ)) (f : BuildFault) → IsTableRefusal table f → IsCostRefusal table sources f
table_not_costed table sources (fault.Table f) h = h
table_not_costed table sources fault.Sources h = absurd h
table_not_costed table sources (fault.Pal name f) h = absurd h
table_not_costed table sources (fault.Compile name f) h = absurd h
table_not_costed table sources fault.Memory h = tt

pub source_not_costed : (t : Table) (sources : List (List ℕ)) → length sources ≡ length t.partitions → (f : BuildFault) → AreSourceRefusals t.partitions sources f → IsCostRefusedWith t sources f
source_not_costed t sources count (fault.Table f) h = absurd h
source_not_costed t sources count fault.Sources h = absurd h
source_not_costed t sources count (fault.Pal name f) h = (count, h)
source_not_costed t sources count (fault.Compile name f) h = absurd h
source_not_costed t sources count fault.Memory h = tt

pub not_costed_with : (table : List ℕ) (sources : List (List ℕ)) (t : Table) → IsTable table t → (f : BuildFault) → IsCostRefusedWith t sources f → IsCostRefusal table sources f
not_costed_with table sources t is (fault.Table f) h = absurd h
not_costed_with table sources t is fault.Sources h = (t, is, h)
not_costed_with table sources t is (fault.Pal name f) h = (t, is, h)
not_costed_with table sources t is (fault.Compile name f) h = absurd h
not_costed_with table sources t is fault.Memory h = tt
