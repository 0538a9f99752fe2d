use Rattle.std.proofs.Common.{◌≡◌, ◌++◌, drop, map}
use Rattle.trace_windows.specs.Standings.{without_process}
use Rattle.trace_windows.proofs.lines.owners.Given as goal

abbrev pub invariant-loop-name : goal.invariant-loop-name
invariant-loop-name l = l.owners.items ++ map without_process (drop l.name-index l.names) ≡ map without_process l.names
