use Rattle.std.proofs.Common.{◌≡◌, drop, ◌&&◌, ◌==◌}
use Rattle.std.specs.List.{list_any}
use Rattle.trace_windows.proofs.windows.Windows.is_release.Given as goal

-- the result is that of the windows from here on
abbrev pub invariant-loop-window : goal.invariant-loop-window
invariant-loop-window l =
    list_any (λ w. w.release && (w.offset == l.place)) l.self.schedule.windows.items ≡ list_any (λ w. w.release && (w.offset == l.place)) (drop l.window-index l.self.schedule.windows.items)
