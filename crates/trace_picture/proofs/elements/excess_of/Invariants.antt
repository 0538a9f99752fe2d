use Rattle.std.proofs.Common.{◌-◌, ◌≤◌, ◌<◌, ◌+◌}
use Rattle.trace_picture.specs.Elements.{count_before}
use Rattle.trace_picture.proofs.elements.excess_of.Given as goal

-- the tick lies between the two
abbrev pub invariant-loop-low : goal.invariant-loop-low
invariant-loop-low l = (l.low ≤ l.high) × (count_before l.low l.begun ≤ 5000) × (5000 < count_before (l.high + 1) l.begun)

abbrev pub decreases-loop-low : goal.decreases-loop-low
decreases-loop-low l = l.high - l.low
