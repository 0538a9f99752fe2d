use Rattle.std.proofs.Common.{◌≡◌, ◌≤◌, ◌+◌, map, drop}
use Rattle.pal_base.specs.View.{declaration_of, texts}
use Rattle.lint.specs.Ports.{misfits}
use Rattle.lint.proofs.port_rules.misfits.Given as goal

abbrev pub invariant-loop-declaration : goal.invariant-loop-declaration
invariant-loop-declaration l = record {
  small : l.count ≤ l.declaration-index;
  left : l.count + misfits l.ports (map (declaration_of (texts l.names.keys)) (drop l.declaration-index l.declarations)) ≡ misfits l.ports (map (declaration_of (texts l.names.keys)) l.declarations);
}
