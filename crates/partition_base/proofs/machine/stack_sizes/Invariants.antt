use Rattle.std.proofs.Common.{◌≡◌, ◌∷◌, map, take}
use Rattle.machine_meaning.specs.MachineMeaning.{body_of_row}
use Rattle.partition_base.specs.Slots.{stack_of_body}
use Rattle.partition_base.proofs.machine.stack_sizes.Given as goal

abbrev pub invariant-loop-process : goal.invariant-loop-process
invariant-loop-process l = l.sizes.items ≡ map stack_of_body (l.init ∷ l.handler ∷ map body_of_row (take l.process-index l.processes))
