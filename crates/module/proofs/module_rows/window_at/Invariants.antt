use Rattle.std.proofs.Common.{◌≡◌, find, drop}
use Rattle.kernel_meaning.specs.Windows.{is_within}
use Rattle.module.proofs.module_rows.window_at.Given as goal

abbrev pub invariant-loop-window : goal.invariant-loop-window
invariant-loop-window l = find (is_within l.place) l.schedule.windows.items ≡ find (is_within l.place) (drop l.window-index l.schedule.windows.items)
