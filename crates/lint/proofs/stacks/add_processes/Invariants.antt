use Rattle.std.proofs.Common.{◌≡◌, ◌++◌, drop}
use Rattle.lint.specs.Stacks.{small_stacks_of_processes}
use Rattle.lint.specs.Views.{found_all}
use Rattle.lint.proofs.stacks.add_processes.Given as goal

abbrev pub invariant-loop-process : goal.invariant-loop-process
invariant-loop-process l = found_all l.findings.items ++ small_stacks_of_processes l.known (drop l.process-index l.processes) ≡ found_all l.fn.findings.items ++ small_stacks_of_processes l.known l.processes
