use Rattle.std.proofs.Common.{◌≡◌, ◌++◌, drop}
use Rattle.trace_view.specs.Processes.{totals_at}
use Rattle.trace_view.proofs.processes.Processes.add_totals.Given as goal

-- the totals so far, and those of the rest, are all
abbrev pub invariant-loop-row : goal.invariant-loop-row
invariant-loop-row l = l.totals.items ++ totals_at l.window l.partition (drop l.row-index l.self.rows.items) ≡ l.initial.totals.items ++ totals_at l.window l.partition l.self.rows.items
