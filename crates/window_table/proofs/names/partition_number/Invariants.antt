use Rattle.std.proofs.Common.{◌≡◌, ◌+◌, map, drop}
use Rattle.module_meaning.specs.TableRules.{same}
use Rattle.module_meaning.specs.TableRules.{number_from}
use Rattle.window_table.specs.Views.{partition_text}
use Rattle.window_table.proofs.names.partition_number.Given as goal

abbrev pub invariant-loop-partition : goal.invariant-loop-partition
invariant-loop-partition l = record {
  counted : l.number ≡ l.partition-index + 1;
  left : number_from 1 (λ p. same p.name l.name) (map partition_text l.partitions.rows.now) ≡ number_from l.number (λ p. same p.name l.name) (map partition_text (drop l.partition-index l.partitions.rows.now));
}
