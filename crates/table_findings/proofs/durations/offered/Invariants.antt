use Rattle.std.proofs.Common.{◌≡◌, ◌≤◌, ◌+◌, ◌*◌, ◌^◌, drop, map}
use Rattle.table_findings.specs.Durations.{offered}
use Rattle.window_table.specs.Views.{window_text}
use Rattle.table_findings.proofs.durations.offered.Given as goal

abbrev pub invariant-loop-window : goal.invariant-loop-window
invariant-loop-window l =
    (l.offered ≤ l.window-index * 2 ^ 64)
    × (l.offered + offered l.name l.low (l.low + l.period) (map window_text (drop l.window-index l.windows)) ≡ offered l.name l.low (l.low + l.period) (map window_text l.windows))
