use Rattle.std.proofs.Common.{◌≡◌, ◌++◌, map, drop}
use Rattle.compiling_laws.specs.Bounds.{AreProcessesHeld}
use Rattle.pal_base.specs.ProgramView.{process_of}
use Rattle.pal.specs.Costs.{cost_of_process}
use Rattle.pal.proofs.report.report_processes.Given as goal

abbrev pub invariant-loop-process : goal.invariant-loop-process
invariant-loop-process l = (l.report.items ++ map (cost_of_process l.costs) (drop l.process-index l.processes) ≡ l.fn.report.items ++ map (cost_of_process l.costs) l.processes) × AreProcessesHeld l.costs (map process_of (drop l.process-index l.processes))
