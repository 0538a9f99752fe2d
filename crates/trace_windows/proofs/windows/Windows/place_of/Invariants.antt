use Rattle.std.proofs.Common.{◌≡◌, drop}
use Rattle.trace_windows.specs.Names.{place_from, place_in}
use Rattle.trace_windows.proofs.windows.Windows.place_of.Given as goal

abbrev pub invariant-loop-place : goal.invariant-loop-place
invariant-loop-place l = place_in l.name l.self.names.items ≡ place_from l.place l.name (drop l.place l.self.names.items)
