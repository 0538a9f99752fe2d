use Rattle.links.proofs.Prelude.{◌≡◌, ◌≤◌, ◌-◌, ◌++◌, length, take, drop, behind_equals}
use Rattle.links.proofs.entries.enter.Given as goal

abbrev pub invariant-loop-place : goal.invariant-loop-place
invariant-loop-place l = (l.place ≤ length l.entries.items) × (behind_equals l.entry l.entries.items ≡ take l.place l.entries.items ++ behind_equals l.entry (drop l.place l.entries.items))

abbrev pub decreases-loop-place : goal.decreases-loop-place
decreases-loop-place l = length l.entries.items - l.place
