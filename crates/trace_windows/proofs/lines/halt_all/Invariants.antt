use Rattle.std.proofs.Common.{◌≡◌, ◌≤◌, ◌++◌, length, map, take, drop}
use Rattle.trace_windows.specs.Standings.{halted}
use Rattle.trace_windows.proofs.lines.halt_all.Given as goal

abbrev pub invariant-loop-owner : goal.invariant-loop-owner
invariant-loop-owner l = (l.owner-index ≤ length l.owner-items) × (take l.owner-index l.owner-items ++ map halted (drop l.owner-index l.owner-items) ≡ map halted l.fn.owners.items)
