use Rattle.std.proofs.Common.{◌≡◌, ◌≤◌, ◌-◌, ◌*◌, ◌^◌, map}
use Rattle.table_findings.specs.Durations.{first_short}
use Rattle.window_table.specs.Views.{partition_text, window_text}
use Rattle.table_findings.proofs.durations.first_short.Given as goal

abbrev pub invariant-loop-turn : goal.invariant-loop-turn
invariant-loop-turn l =
    (l.low ≤ l._turn * 2 ^ 63)
    × (first_short (l.periods - l._turn) l.low (partition_text l.partition) (map window_text l.windows) ≡ first_short l.periods 0 (partition_text l.partition) (map window_text l.windows))
