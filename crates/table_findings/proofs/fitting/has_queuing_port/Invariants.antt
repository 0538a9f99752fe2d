use Rattle.std.proofs.Common.{◌≡◌, drop, map}
use Rattle.std.specs.List.{list_any}
use Rattle.table_findings.specs.Ends.{is_queuing_port}
use Rattle.window_table.specs.Views.{partition_text}
use Rattle.table_findings.proofs.fitting.has_queuing_port.Given as goal

abbrev pub invariant-loop-text : goal.invariant-loop-text
invariant-loop-text l =
    list_any (is_queuing_port (map partition_text l.partitions)) (map (λ text. text.now) l.texts) ≡ list_any (is_queuing_port (map partition_text l.partitions)) (map (λ text. text.now) (drop l.text-index l.texts))
