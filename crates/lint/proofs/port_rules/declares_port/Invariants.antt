use Rattle.std.proofs.Common.{◌≡◌, map, drop}
use Rattle.pal_base.specs.View.{declaration_of, texts}
use Rattle.lint.specs.Ports.{declares_port}
use Rattle.lint.proofs.port_rules.declares_port.Given as goal

abbrev pub invariant-loop-declaration : goal.invariant-loop-declaration
invariant-loop-declaration l = declares_port l.name (map (declaration_of (texts l.names.keys)) l.declarations) ≡ declares_port l.name (map (declaration_of (texts l.names.keys)) (drop l.declaration-index l.declarations))
