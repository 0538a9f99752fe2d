use Rattle.std.proofs.Common.{◌≡◌, ◌+◌, ◌≤◌, drop, map, length, ◌++◌}
use Rattle.pal_meaning.specs.Program as cost
use Rattle.compiling_laws.specs.CompiledCode as code_of
use Rattle.pal_base.specs.ProgramView.{process_of}
use Rattle.std.specs.List.{sum_by}
use Rattle.apex_types.specs.declared.limits.TheConstants.{MOST_INSTRUCTIONS}
use Rattle.compiler.proofs.bodies.emit_processes.Given as goal

abbrev pub invariant-loop-process : goal.invariant-loop-process
invariant-loop-process l = let rest = map process_of (drop l.process-index l.processes) in let all = map process_of l.processes in
    (l.code.items ++ code_of.processes_code (length l.code.items) rest ≡ l.fn.code.items ++ code_of.processes_code (length l.fn.code.items) all)
    × (l.rows.items ++ code_of.process_rows (length l.code.items) rest ≡ code_of.process_rows (length l.fn.code.items) all)
    × (length l.code.items + sum_by cost.size_of_process rest ≤ MOST_INSTRUCTIONS)
