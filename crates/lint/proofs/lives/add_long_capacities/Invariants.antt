use Rattle.std.proofs.Common.{◌≡◌, ◌++◌, drop, flat_map, map}
use Rattle.pal_base.specs.View.{process_of, texts}
use Rattle.lint.specs.Lives.{long_capacity}
use Rattle.lint.specs.Views.{found_all}
use Rattle.lint.proofs.lives.add_long_capacities.Given as goal

abbrev pub invariant-loop-process : goal.invariant-loop-process
invariant-loop-process l = found_all l.findings.items ++ flat_map long_capacity (map (process_of (texts l.names.keys)) (drop l.process-index l.processes)) ≡ found_all l.fn.findings.items ++ flat_map long_capacity (map (process_of (texts l.names.keys)) l.processes)
