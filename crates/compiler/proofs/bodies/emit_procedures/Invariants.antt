use Rattle.std.proofs.Common.{◌≡◌, ◌+◌, ◌≤◌, drop, map, length, ◌++◌}
use Rattle.pal_meaning.specs.Program as cost
use Rattle.compiling_laws.specs.CompiledCode as code_of
use Rattle.pal_base.specs.ProgramView.{procedure_of}
use Rattle.std.specs.List.{sum_by}
use Rattle.apex_types.specs.declared.limits.TheConstants.{MOST_INSTRUCTIONS}
use Rattle.compiler.proofs.bodies.emit_procedures.Given as goal

abbrev pub invariant-loop-procedure : goal.invariant-loop-procedure
invariant-loop-procedure l = let rest = map procedure_of (drop l.procedure-index l.procedures) in let all = map procedure_of l.procedures in
    (l.code.items ++ code_of.procedures_code (length l.code.items) rest ≡ l.fn.code.items ++ code_of.procedures_code (length l.fn.code.items) all)
    × (l.rows.items ++ code_of.routine_rows (length l.code.items) rest ≡ code_of.routine_rows (length l.fn.code.items) all)
    × (length l.code.items + sum_by cost.size_of_procedure rest ≤ MOST_INSTRUCTIONS)
