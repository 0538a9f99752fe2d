use Rattle.std.proofs.Common.{◌≡◌, drop}
use Rattle.trace_windows.specs.Standings.{place_from}
use Rattle.trace_windows.proofs.shares.Shares.place_of.Given as goal

abbrev pub invariant-loop-place : goal.invariant-loop-place
invariant-loop-place l = place_from 0 l.name l.self.owners.items ≡ place_from l.place l.name (drop l.place l.self.owners.items)
