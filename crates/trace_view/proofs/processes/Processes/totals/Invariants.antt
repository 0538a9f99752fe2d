use Rattle.std.proofs.Common.{◌≡◌, ◌++◌, drop}
use Rattle.trace_view.specs.Processes.{totals_from}
use Rattle.trace_view.proofs.processes.Processes.totals.Given as goal

-- the totals so far, and those of the partitions that follow, are all
abbrev pub invariant-loop-partition : goal.invariant-loop-partition
invariant-loop-partition l = l.totals.items ++ totals_from l.window (drop l.partition-index l.partitions) l.self.rows.items ≡ totals_from l.window l.partitions l.self.rows.items
