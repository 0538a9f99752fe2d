use Rattle.std.proofs.Common.{◌≡◌, ◌++◌, map, drop}
use Rattle.pal_base.specs.View.{declaration_of, texts}
use Rattle.lint.specs.Ports.{unknown_ports}
use Rattle.lint.specs.Views.{found_all}
use Rattle.lint.proofs.port_rules.add_unknown.Given as goal

abbrev pub invariant-loop-declaration : goal.invariant-loop-declaration
invariant-loop-declaration l = found_all l.findings.items ++ unknown_ports l.ports (map (declaration_of (texts l.names.keys)) (drop l.declaration-index l.declarations)) ≡ found_all l.fn.findings.items ++ unknown_ports l.ports (map (declaration_of (texts l.names.keys)) l.declarations)
