use Rattle.std.proofs.Common.{◌≡◌, ◌≤◌, ◌-◌, ◌++◌}
use Rattle.window_table.specs.Schedules.{schedule_of}
use Rattle.schedule_load.specs.Gaps.{gaps_from, gaps_of}
use Rattle.schedule_load.proofs.unowned.gaps.Given as goal

abbrev pub invariant-loop-tick : goal.invariant-loop-tick
invariant-loop-tick l = record {
  begun : l.begun ≤ l.tick;
  within : l.tick ≤ l.schedule.frame;
  so_far : l.gaps.items ++ gaps_from (schedule_of l.schedule) l.begun l.tick (l.schedule.frame - l.tick) ≡ gaps_of (schedule_of l.schedule);
}

abbrev pub decreases-loop-tick : goal.decreases-loop-tick
decreases-loop-tick l = l.schedule.frame - l.tick
