use Rattle.links.proofs.Prelude.{◌-◌, ◌≡◌, ◌<◌, ◌≤◌, ℕ, slice_index}
use Rattle.links.proofs.marks.first.Given as goal

abbrev pub invariant-loop-word : goal.invariant-loop-word
invariant-loop-word l = (l.word ≤ 4) × ((w : ℕ) → w < l.word → slice_index l.marks w ≡ 0)

abbrev pub decreases-loop-word : goal.decreases-loop-word
decreases-loop-word l = 4 - l.word
