use Rattle.std.proofs.Common.{◌≡◌, ◌+◌, ◌++◌, ◌∷◌, map, drop}
use Rattle.module_meaning.specs.TableRules.{same}
use Rattle.module_meaning.specs.TableRules.{number_from}
use Rattle.window_table.specs.Views.{port_text}
use Rattle.window_table.proofs.names.port_number.Given as goal

abbrev pub invariant-loop-port : goal.invariant-loop-port
invariant-loop-port l = record {
  counted : l.number ≡ l.port-index + 1;
  left : number_from 1 (λ q. same l.text (l.partition.name.now ++ 46 ∷ q.name)) (map port_text l.partition.ports.items) ≡ number_from l.number (λ q. same l.text (l.partition.name.now ++ 46 ∷ q.name)) (map port_text (drop l.port-index l.partition.ports.items));
}
