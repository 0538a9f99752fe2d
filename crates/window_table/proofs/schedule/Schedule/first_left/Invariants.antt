use Rattle.std.proofs.Common.{◌≡◌, ◌+◌, drop}
use Rattle.window_table.specs.Spans.{first_left}
use Rattle.window_table.proofs.schedule.Schedule.first_left.Given as goal

abbrev pub invariant-loop-window : goal.invariant-loop-window
invariant-loop-window l = record {
  same : l.before ≡ l.window-index;
  left : first_left l.place.0 l.self.windows.items ≡ l.before + first_left l.place.0 (drop l.window-index l.self.windows.items);
}
