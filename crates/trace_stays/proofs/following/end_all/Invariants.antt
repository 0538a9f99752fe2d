use Rattle.std.proofs.Common.{◌≡◌, ◌++◌, drop}
use Rattle.trace_stays.specs.Following.{over_with}
use Rattle.trace_stays.proofs.following.end_all.Given as goal

-- the stays so far, and those of the rest, are all
abbrev pub invariant-loop-place : goal.invariant-loop-place
invariant-loop-place l = l.ended.items ++ over_with l.place l.partition l.next l.tick.0 (drop l.place l.lanes) ≡ l.initial.ended.items ++ over_with 0 l.partition l.next l.tick.0 l.lanes
