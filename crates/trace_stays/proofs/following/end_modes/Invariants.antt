use Rattle.std.proofs.Common.{◌≡◌, ◌++◌, drop}
use Rattle.trace_stays.specs.Following.{modes_left}
use Rattle.trace_stays.proofs.following.end_modes.Given as goal

-- the stays so far, and those of the rest, are all
abbrev pub invariant-loop-place : goal.invariant-loop-place
invariant-loop-place l = l.ended.items ++ modes_left l.place l.until.0 (drop l.place l.lanes) ≡ l.initial.ended.items ++ modes_left 0 l.until.0 l.lanes
