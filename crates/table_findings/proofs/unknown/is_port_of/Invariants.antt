use Rattle.std.proofs.Common.{◌≡◌, ◌∷◌, ◌++◌, drop, map}
use Rattle.std.specs.List.{list_any}
use Rattle.module_meaning.specs.TableRules.{same}
use Rattle.window_table.specs.Views.{port_text}
use Rattle.table_findings.proofs.unknown.is_port_of.Given as goal

abbrev pub invariant-loop-port : goal.invariant-loop-port
invariant-loop-port l =
    list_any (λ q. same l.text (l.partition ++ 46 ∷ q.name)) (map port_text l.ports)
    ≡ list_any (λ q. same l.text (l.partition ++ 46 ∷ q.name)) (map port_text (drop l.port-index l.ports))
