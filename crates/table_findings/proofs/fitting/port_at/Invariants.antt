use Rattle.std.proofs.Common.{◌≡◌, drop, map}
use Rattle.table_findings.specs.Ends.{port_from}
use Rattle.window_table.specs.Views.{partition_text}
use Rattle.table_findings.proofs.fitting.port_at.Given as goal

abbrev pub invariant-loop-index : goal.invariant-loop-index
invariant-loop-index l = port_from l.index (map partition_text (drop l.index l.partitions)) l.text ≡ port_from 0 (map partition_text l.partitions) l.text
