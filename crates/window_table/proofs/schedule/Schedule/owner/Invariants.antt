use Rattle.std.proofs.Common.{◌≡◌, find, drop}
use Rattle.kernel_meaning.specs.Windows.{is_within}
use Rattle.window_table.proofs.schedule.Schedule.owner.Given as goal

abbrev pub invariant-loop-window : goal.invariant-loop-window
invariant-loop-window l = find (is_within l.place.0) l.self.windows.items ≡ find (is_within l.place.0) (drop l.window-index l.self.windows.items)
