use Rattle.std.proofs.Common.{◌≡◌, drop}
use Rattle.trace_windows.specs.Counts.{row_from}
use Rattle.trace_windows.proofs.counted.Counted.place_of.Given as goal

abbrev pub invariant-loop-place : goal.invariant-loop-place
invariant-loop-place l = row_from 0 l.used l.self.rows.items ≡ row_from l.place l.used (drop l.place l.self.rows.items)
