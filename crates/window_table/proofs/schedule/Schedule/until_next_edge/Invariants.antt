use Rattle.std.proofs.Common.{◌≡◌, ◌<◌, ◌≤◌, ◌-◌, min, drop}
use Rattle.window_table.specs.Edges.{until_edges}
use Rattle.window_table.proofs.schedule.Schedule.until_next_edge.Given as goal

abbrev pub invariant-loop-window : goal.invariant-loop-window
invariant-loop-window l = record {
  some : 0 < l.least;
  bound : l.least ≤ l.self.frame - l.place.0;
  left : until_edges l.self.frame l.place.0 l.self.windows.items ≡ min l.least (until_edges l.self.frame l.place.0 (drop l.window-index l.self.windows.items));
}
