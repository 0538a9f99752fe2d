use Rattle.std.proofs.Common.{◌≡◌, drop, map}
use Rattle.table_findings.specs.Ends.{first_port}
use Rattle.window_table.specs.Views.{partition_text}
use Rattle.table_findings.proofs.fitting.first_port.Given as goal

abbrev pub invariant-loop-text : goal.invariant-loop-text
invariant-loop-text l =
    first_port (map partition_text l.partitions) (map (λ text. text.now) (drop l.text-index l.texts)) ≡ first_port (map partition_text l.partitions) (map (λ text. text.now) l.texts)
