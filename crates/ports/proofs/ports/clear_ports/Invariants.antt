use Rattle.std.proofs.Common.{◌≡◌, ◌≤◌, ◌++◌, length, map, take, drop}
use Rattle.kernel_meaning.specs.Objects.{cleared_port}
use Rattle.ports.proofs.ports.clear_ports.Given as goal

abbrev pub invariant-loop-port : goal.invariant-loop-port
invariant-loop-port l = (l.port-index ≤ length l.port-items) × (take l.port-index l.port-items ++ map cleared_port (drop l.port-index l.port-items) ≡ map cleared_port l.fn.all.items)
