-- The rows of the report of a program's costs: one for each body, INIT, the handler, the processes
-- and the procedures, in this order.
use Rattle.std.specs.Prelude.{List, [], ◌∷◌, ◌++◌, map, Option, Some, None}
use Rattle.apex_types.specs.declared.cost.Costs.{Costs}
use Rattle.pal_meaning.specs.BodyCosts as cost
use Rattle.pal_base.specs.declared.program.Body.{Body}
use Rattle.pal_base.specs.declared.program.Procedure as code_procedure
use Rattle.pal_base.specs.declared.program.Process as code_process
use Rattle.pal_base.specs.declared.program.Program.{Program}
use Rattle.pal_base.specs.ProgramView.{body_of, procedure_of}
use Rattle.pal.specs.declared.report.BodyCost.{BodyCost}
use Rattle.pal.specs.declared.report.BodyName.{BodyName}
use Rattle.pal.specs.declared.report.BodyName.TheVariants as name

-- the row of a body: its instructions, its frame, and the sum of the costs of its constructs
abbrev pub cost_of_body : Costs → BodyName → Body → BodyCost
cost_of_body costs n b = record {
  name = n;
  instructions = cost.size_of_body (body_of b);
  frame = cost.frame_of_body (body_of b);
  cost = cost.cost_of_body costs (body_of b);
}

abbrev pub cost_of_handler : Costs → Option Body → List BodyCost
cost_of_handler costs None = []
cost_of_handler costs (Some b) = cost_of_body costs name.Handler b ∷ []

abbrev pub cost_of_process : Costs → code_process.Process → BodyCost
cost_of_process costs p = cost_of_body costs (name.Process p.name) p.body

abbrev pub cost_of_procedure_body : Costs → BodyName → code_procedure.Procedure → BodyCost
cost_of_procedure_body costs n p = record {
  name = n;
  instructions = cost.size_of_procedure (procedure_of p);
  frame = cost.frame_of_procedure (procedure_of p);
  cost = cost.cost_of_procedure costs (procedure_of p);
}

abbrev pub cost_of_procedure : Costs → code_procedure.Procedure → BodyCost
cost_of_procedure costs p = cost_of_procedure_body costs (name.Procedure p.name) p

abbrev pub costs_of : Costs → Program → List BodyCost
costs_of costs p = cost_of_body costs name.Init p.init ∷ cost_of_handler costs p.handler ++ map (cost_of_process costs) p.processes.items ++ map (cost_of_procedure costs) p.procedures.items
