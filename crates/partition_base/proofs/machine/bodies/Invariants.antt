use Rattle.std.proofs.Common.{◌≡◌, map, take}
use Rattle.machine_meaning.specs.MachineMeaning.{body_of_row}
use Rattle.partition_base.proofs.machine.bodies.Given as goal

abbrev pub invariant-loop-row : goal.invariant-loop-row
invariant-loop-row l = l.bodies.items ≡ map body_of_row (take l.row-index l.rows)
