use Rattle.links.proofs.Prelude.{◌≤◌, ◌-◌, length}
use Rattle.links.proofs.DueMask.{HasThoseBefore}
use Rattle.links.proofs.dues.due_by.Given as goal

abbrev pub invariant-loop-place : goal.invariant-loop-place
invariant-loop-place l = (l.place ≤ length l.dues.items) × HasThoseBefore l.now.0 l.place l.dues.items l.mask

abbrev pub decreases-loop-place : goal.decreases-loop-place
decreases-loop-place l = length l.dues.items - l.place
