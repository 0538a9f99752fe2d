use Rattle.std.proofs.Common.{◌≡◌, map, drop}
use Rattle.std.specs.List.{list_any}
use Rattle.std.proofs.Common.{is_none}
use Rattle.window_table.specs.Views.{partition_text}
use Rattle.window_table.proofs.read.lacks_health.Given as goal

abbrev pub invariant-loop-partition : goal.invariant-loop-partition
invariant-loop-partition l = list_any (λ p. is_none p.health) (map partition_text l.partitions) ≡ list_any (λ p. is_none p.health) (map partition_text (drop l.partition-index l.partitions))
