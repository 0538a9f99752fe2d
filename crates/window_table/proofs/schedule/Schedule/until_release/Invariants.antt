use Rattle.std.proofs.Common.{◌≡◌, ◌≤◌, min, drop}
use Rattle.kernel_meaning.specs.Windows.{until_one_of}
use Rattle.window_table.specs.Schedules.{schedule_of}
use Rattle.window_table.proofs.schedule.Schedule.until_release.Given as goal

abbrev pub invariant-loop-window : goal.invariant-loop-window
invariant-loop-window l = record {
  bound : l.least.0 ≤ l.self.frame;
  left : until_one_of (schedule_of l.self) l.partition.0 l.moment.at l.self.windows.items ≡ min l.least.0 (until_one_of (schedule_of l.self) l.partition.0 l.moment.at (drop l.window-index l.self.windows.items));
}
