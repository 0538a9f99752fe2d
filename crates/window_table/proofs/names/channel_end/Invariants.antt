use Rattle.std.proofs.Common.{◌≡◌, ◌+◌, map, drop, false}
use Rattle.std.specs.List.{list_any}
use Rattle.module_meaning.specs.TableRules.{port_from, has_many_ports}
use Rattle.window_table.specs.Views.{partition_text}
use Rattle.window_table.proofs.names.channel_end.Given as goal

abbrev pub invariant-loop-partition : goal.invariant-loop-partition
invariant-loop-partition l = record {
  counted : l.number ≡ l.partition-index + 1;
  few : list_any has_many_ports (map partition_text (drop l.partition-index l.partitions.rows.now)) ≡ false;
  left : port_from 1 (map partition_text l.partitions.rows.now) l.text ≡ port_from l.number (map partition_text (drop l.partition-index l.partitions.rows.now)) l.text;
}
