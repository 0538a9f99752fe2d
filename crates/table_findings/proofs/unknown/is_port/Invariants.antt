use Rattle.std.proofs.Common.{◌≡◌, ◌∷◌, ◌++◌, drop, map}
use Rattle.std.specs.List.{list_any}
use Rattle.module_meaning.specs.TableRules.{same}
use Rattle.window_table.specs.Views.{partition_text}
use Rattle.table_findings.proofs.unknown.is_port.Given as goal

abbrev pub invariant-loop-partition : goal.invariant-loop-partition
invariant-loop-partition l =
    list_any (λ p. list_any (λ q. same l.text (p.name ++ 46 ∷ q.name)) p.ports) (map partition_text l.partitions)
    ≡ list_any (λ p. list_any (λ q. same l.text (p.name ++ 46 ∷ q.name)) p.ports) (map partition_text (drop l.partition-index l.partitions))
