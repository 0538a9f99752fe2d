use Rattle.std.proofs.Common.{◌≡◌, ◌++◌, map, drop}
use Rattle.compiling_laws.specs.Bounds.{AreProceduresHeld}
use Rattle.pal_base.specs.ProgramView.{procedure_of}
use Rattle.pal.specs.Costs.{cost_of_procedure}
use Rattle.pal.proofs.report.report_procedures.Given as goal

abbrev pub invariant-loop-procedure : goal.invariant-loop-procedure
invariant-loop-procedure l = (l.report.items ++ map (cost_of_procedure l.costs) (drop l.procedure-index l.procedures) ≡ l.fn.report.items ++ map (cost_of_procedure l.costs) l.procedures) × AreProceduresHeld l.costs (map procedure_of (drop l.procedure-index l.procedures))
