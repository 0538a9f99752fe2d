use Rattle.std.proofs.Common.{◌≡◌, ◌+◌, ◌≤◌, min, drop, map}
use Rattle.pal_meaning.specs.Program as cost
use Rattle.pal_base.specs.ProgramView.{process_of}
use Rattle.std.specs.List.{sum_by}
use Rattle.compiler.proofs.size.size_of_processes.Given as goal

abbrev pub invariant-loop-process : goal.invariant-loop-process
invariant-loop-process l = (l.size ≤ 4294967295) × (min (l.size + sum_by cost.size_of_process (map process_of (drop l.process-index l.processes))) 4294967295 ≡ min (sum_by cost.size_of_process (map process_of l.processes)) 4294967295)
