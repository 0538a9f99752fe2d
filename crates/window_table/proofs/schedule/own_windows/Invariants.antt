use Rattle.std.proofs.Common.{◌≡◌, ◌++◌, drop}
use Rattle.std.specs.Prelude.{filter, ◌==◌}
use Rattle.window_table.proofs.schedule.own_windows.Given as goal

abbrev pub invariant-loop-window : goal.invariant-loop-window
invariant-loop-window l = l.own.items ++ filter (λ w. w.partition.0 == l.partition.0) (drop l.window-index l.windows) ≡ filter (λ w. w.partition.0 == l.partition.0) l.fn.windows
