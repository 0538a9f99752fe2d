use Rattle.links.proofs.Prelude.{◌≡◌, ◌≤◌, ◌-◌, ◌++◌, length, take, drop}
use Rattle.links.specs.DueOrder.{without}
use Rattle.links.proofs.dues.leave.Given as goal

abbrev pub invariant-loop-place : goal.invariant-loop-place
invariant-loop-place l = (l.place ≤ length l.dues.items) × (without l.process.0 l.dues.items ≡ take l.place l.dues.items ++ without l.process.0 (drop l.place l.dues.items))

abbrev pub decreases-loop-place : goal.decreases-loop-place
decreases-loop-place l = length l.dues.items - l.place
