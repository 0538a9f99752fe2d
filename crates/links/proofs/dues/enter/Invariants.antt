use Rattle.links.proofs.Prelude.{◌≡◌, ◌≤◌, ◌-◌, ◌++◌, length, take, drop, behind_earlier}
use Rattle.links.proofs.dues.enter.Given as goal

abbrev pub invariant-loop-place : goal.invariant-loop-place
invariant-loop-place l = (l.place ≤ length l.dues.items) × (behind_earlier l.entry l.dues.items ≡ take l.place l.dues.items ++ behind_earlier l.entry (drop l.place l.dues.items))

abbrev pub decreases-loop-place : goal.decreases-loop-place
decreases-loop-place l = length l.dues.items - l.place
