use Rattle.std.proofs.Common.{◌≡◌, ◌+◌, ◌^◌, ◌<◌, drop}
use Rattle.trace_windows.specs.Counts.{capped, ticks_at}
use Rattle.trace_windows.proofs.counted.Counted.window_ticks.Given as goal

-- the sum so far, and the rest, are all
abbrev pub invariant-loop-row : goal.invariant-loop-row
invariant-loop-row l = (capped (l.sum + ticks_at l.place (drop l.row-index l.self.rows.items)) ≡ capped (ticks_at l.place l.self.rows.items)) × (l.sum < 2 ^ 64)
