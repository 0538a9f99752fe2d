use Rattle.std.proofs.Common.{◌≡◌, ◌++◌, drop}
use Rattle.trace_view.specs.Traffic.{totals_from}
use Rattle.trace_view.proofs.counts.Counts.route_totals.Given as goal

-- the totals so far, and those of the partitions that follow, are all
abbrev pub invariant-loop-partition : goal.invariant-loop-partition
invariant-loop-partition l = l.totals.items ++ totals_from (drop l.partition-index l.partitions) l.self.traffic.passages.items ≡ totals_from l.partitions l.self.traffic.passages.items
