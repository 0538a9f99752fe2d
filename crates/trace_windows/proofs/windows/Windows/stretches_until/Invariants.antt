use Rattle.std.proofs.Common.{◌≤◌, ◌-◌}
use Rattle.trace_windows.specs.Frames.{owner_by}
use Rattle.trace_windows.specs.Read.{frames_of}
use Rattle.trace_windows.specs.Stretches.{AreStretches}
use Rattle.window_table.specs.Schedules.{schedule_of}
use Rattle.trace_windows.proofs.windows.Windows.stretches_until.Given as goal

-- the stretches so far are those before this tick
abbrev pub invariant-loop-now : goal.invariant-loop-now
invariant-loop-now l = record {
  past : l.self.next.0 ≤ l.now.0;
  before : l.now.0 ≤ l.until.0;
  so_far : AreStretches (owner_by (schedule_of l.self.schedule) (frames_of l.self)) l.self.next.0 l.now.0 l.more.items;
}

abbrev pub decreases-loop-now : goal.decreases-loop-now
decreases-loop-now l = l.until.0 - l.now.0
