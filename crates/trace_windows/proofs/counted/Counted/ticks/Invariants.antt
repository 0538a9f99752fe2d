use Rattle.std.proofs.Common.{◌≡◌, drop}
use Rattle.trace_windows.specs.Counts.{ticks_for}
use Rattle.trace_windows.proofs.counted.Counted.ticks.Given as goal

abbrev pub invariant-loop-row : goal.invariant-loop-row
invariant-loop-row l = ticks_for l.used l.self.rows.items ≡ ticks_for l.used (drop l.row-index l.self.rows.items)
