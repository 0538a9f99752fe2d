use Rattle.std.proofs.Common.{◌≡◌, ◌++◌, map, drop}
use Rattle.pal_base.specs.View.{declaration_of, texts}
use Rattle.lint.specs.Ports.{undeclared_ports}
use Rattle.lint.specs.Views.{found_all}
use Rattle.lint.proofs.port_rules.add_undeclared.Given as goal

abbrev pub invariant-loop-port : goal.invariant-loop-port
invariant-loop-port l = found_all l.findings.items ++ undeclared_ports (map (declaration_of (texts l.names.keys)) l.declarations) (drop l.port-index l.ports) ≡ found_all l.fn.findings.items ++ undeclared_ports (map (declaration_of (texts l.names.keys)) l.declarations) l.ports
