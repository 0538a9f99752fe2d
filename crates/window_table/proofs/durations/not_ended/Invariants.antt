use Rattle.std.proofs.Common.{◌≡◌, ◌≤◌, ℕ, length}
use Rattle.module_meaning.specs.Table.{offered}
use Rattle.window_table.proofs.durations.not_ended.Given as goal

abbrev pub invariant-loop-window : goal.invariant-loop-window
invariant-loop-window l = (p low high : ℕ) → l.tick.0 ≤ low → offered p low high l.rest ≡ offered p low high l.windows

abbrev pub decreases-loop-window : goal.decreases-loop-window
decreases-loop-window l = length l.rest
