use Rattle.std.proofs.Common.{◌≡◌, ◌+◌, ◌^◌, ◌<◌, drop}
use Rattle.trace_windows.specs.Counts.{capped, idle_at}
use Rattle.trace_windows.proofs.counted.Counted.idle_ticks.Given as goal

-- the sum so far, and the rest, are all
abbrev pub invariant-loop-row : goal.invariant-loop-row
invariant-loop-row l = (capped (l.sum + idle_at l.place (drop l.row-index l.self.rows.items)) ≡ capped (idle_at l.place l.self.rows.items)) × (l.sum < 2 ^ 64)
