use Rattle.links.proofs.Prelude.{◌≡◌, ◌≤◌, ◌-◌, ◌++◌, length, take, drop, without}
use Rattle.links.proofs.entries.leave.Given as goal

abbrev pub invariant-loop-place : goal.invariant-loop-place
invariant-loop-place l = (l.place ≤ length l.entries.items) × (without l.process.0 l.entries.items ≡ take l.place l.entries.items ++ without l.process.0 (drop l.place l.entries.items))

abbrev pub decreases-loop-place : goal.decreases-loop-place
decreases-loop-place l = length l.entries.items - l.place
