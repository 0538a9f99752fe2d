use Rattle.std.proofs.Common.{◌≡◌, ◌++◌, map, drop}
use Rattle.schedule_load.specs.Bodies.{process_load}
use Rattle.schedule_load.proofs.bodies.add_processes.Given as goal

abbrev pub invariant-loop-process : goal.invariant-loop-process
invariant-loop-process l = l.loads.items ++ map (process_load l.costs) (drop l.process-index l.processes) ≡ l.fn.loads.items ++ map (process_load l.costs) l.processes
