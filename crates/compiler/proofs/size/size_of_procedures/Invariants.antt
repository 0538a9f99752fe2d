use Rattle.std.proofs.Common.{◌≡◌, ◌+◌, ◌≤◌, min, drop, map}
use Rattle.pal_meaning.specs.Program as cost
use Rattle.pal_base.specs.ProgramView.{procedure_of}
use Rattle.std.specs.List.{sum_by}
use Rattle.compiler.proofs.size.size_of_procedures.Given as goal

abbrev pub invariant-loop-procedure : goal.invariant-loop-procedure
invariant-loop-procedure l = (l.size ≤ 4294967295) × (min (l.size + sum_by cost.size_of_procedure (map procedure_of (drop l.procedure-index l.procedures))) 4294967295 ≡ min (sum_by cost.size_of_procedure (map procedure_of l.procedures)) 4294967295)
