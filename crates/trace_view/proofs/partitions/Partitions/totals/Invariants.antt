use Rattle.std.proofs.Common.{◌≡◌, ◌++◌, drop, map}
use Rattle.trace_view.specs.Partitions.{partition_total}
use Rattle.trace_view.proofs.partitions.Partitions.totals.Given as goal

-- the totals so far, and those of the rest, are all
abbrev pub invariant-loop-row : goal.invariant-loop-row
invariant-loop-row l = l.totals.items ++ map (partition_total l.window) (drop l.row-index l.self.rows.items) ≡ map (partition_total l.window) l.self.rows.items
