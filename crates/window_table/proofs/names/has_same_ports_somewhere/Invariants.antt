use Rattle.std.proofs.Common.{◌≡◌, map, drop}
use Rattle.std.specs.List.{list_any}
use Rattle.module_meaning.specs.TableRules.{same}
use Rattle.module_meaning.specs.Table.{has_twice}
use Rattle.window_table.specs.Views.{partition_text}
use Rattle.window_table.proofs.names.has_same_ports_somewhere.Given as goal

abbrev pub invariant-loop-partition : goal.invariant-loop-partition
invariant-loop-partition l = list_any (λ p. has_twice (λ a b. same a.name b.name) p.ports) (map partition_text l.partitions) ≡ list_any (λ p. has_twice (λ a b. same a.name b.name) p.ports) (map partition_text (drop l.partition-index l.partitions))
