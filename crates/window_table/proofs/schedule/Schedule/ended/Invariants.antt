use Rattle.std.proofs.Common.{◌≡◌, find, drop}
use Rattle.kernel_meaning.specs.Windows.{ends_at}
use Rattle.window_table.proofs.schedule.Schedule.ended.Given as goal

abbrev pub invariant-loop-window : goal.invariant-loop-window
invariant-loop-window l = find (ends_at l.self.frame l.place.0) l.self.windows.items ≡ find (ends_at l.self.frame l.place.0) (drop l.window-index l.self.windows.items)
