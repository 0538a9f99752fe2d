use Rattle.std.proofs.Common.{◌≡◌, map, drop}
use Rattle.std.specs.List.{list_any}
use Rattle.module_meaning.specs.TableRules.{same}
use Rattle.window_table.specs.Views.{port_text}
use Rattle.window_table.proofs.names.has_port.Given as goal

abbrev pub invariant-loop-port : goal.invariant-loop-port
invariant-loop-port l = list_any (λ b. same l.name b.name) (map port_text l.ports) ≡ list_any (λ b. same l.name b.name) (map port_text (drop l.port-index l.ports))
