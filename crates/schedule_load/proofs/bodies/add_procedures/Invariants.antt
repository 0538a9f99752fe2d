use Rattle.std.proofs.Common.{◌≡◌, ◌++◌, map, drop}
use Rattle.schedule_load.specs.Bodies.{procedure_load}
use Rattle.schedule_load.proofs.bodies.add_procedures.Given as goal

abbrev pub invariant-loop-procedure : goal.invariant-loop-procedure
invariant-loop-procedure l = l.loads.items ++ map (procedure_load l.costs) (drop l.procedure-index l.procedures) ≡ l.fn.loads.items ++ map (procedure_load l.costs) l.procedures
