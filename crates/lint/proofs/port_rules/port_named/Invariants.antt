use Rattle.std.proofs.Common.{◌≡◌, drop}
use Rattle.lint.specs.Ports.{port_named}
use Rattle.lint.proofs.port_rules.port_named.Given as goal

abbrev pub invariant-loop-port : goal.invariant-loop-port
invariant-loop-port l = port_named l.ports l.name ≡ port_named (drop l.port-index l.ports) l.name
