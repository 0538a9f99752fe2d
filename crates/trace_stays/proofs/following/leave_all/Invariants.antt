use Rattle.std.proofs.Common.{◌≡◌, ◌≤◌, ◌++◌, length, map, take, drop}
use Rattle.trace_stays.specs.Following.{gone_from}
use Rattle.trace_stays.proofs.following.leave_all.Given as goal

abbrev pub invariant-loop-lane : goal.invariant-loop-lane
invariant-loop-lane l = (l.lane-index ≤ length l.lane-items) × (take l.lane-index l.lane-items ++ map (gone_from l.partition l.next l.tick.0) (drop l.lane-index l.lane-items) ≡ map (gone_from l.partition l.next l.tick.0) l.fn.lanes.items)
