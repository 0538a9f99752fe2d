use Rattle.std.proofs.Common.{◌≡◌, map, take}
use Rattle.kernel_meaning.specs.Objects.{fresh_port}
use Rattle.ports.proofs.ports.fresh_ports.Given as goal

abbrev pub invariant-loop-row : goal.invariant-loop-row
invariant-loop-row l = l.all.items ≡ map fresh_port (take l.row-index l.rows)
