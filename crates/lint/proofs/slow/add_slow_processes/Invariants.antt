use Rattle.std.proofs.Common.{◌≡◌, ◌++◌, drop}
use Rattle.lint.specs.Slow.{slow_processes}
use Rattle.lint.specs.Views.{found_all}
use Rattle.lint.proofs.slow.add_slow_processes.Given as goal

abbrev pub invariant-loop-process : goal.invariant-loop-process
invariant-loop-process l = found_all l.findings.items ++ slow_processes l.costs (drop l.process-index l.processes) ≡ found_all l.fn.findings.items ++ slow_processes l.costs l.processes
