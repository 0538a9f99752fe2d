-- Processes of partitions that have a line.
use Rattle.std.specs.Prelude.{◌≡◌, ℕ, ◌<◌, List, Some, slice_get}
use Rattle.trace_stays.specs.declared.lanes.ProcessLane.{ProcessLane}

-- each process is of a partition that has a line
abbrev pub AreWithin : ℕ → List ProcessLane → Type 0
AreWithin count lanes = (place : ℕ) (lane : ProcessLane) → slice_get lanes place ≡ Some lane → lane.partition < count
