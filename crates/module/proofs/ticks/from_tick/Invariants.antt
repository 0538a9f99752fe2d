use Rattle.module.proofs.Prelude.{◌≡◌, ◌≤◌, ℕ, length, of_tick, AreFrom}
use Rattle.module.proofs.ticks.from_tick.Given as goal

abbrev pub invariant-loop-first : goal.invariant-loop-first
invariant-loop-first l = record {
  order : AreFrom 0 l.left;
  kept : (t : ℕ) → l.tick ≤ t → of_tick t l.left ≡ of_tick t l.lines;
}

abbrev pub decreases-loop-first : goal.decreases-loop-first
decreases-loop-first l = length l.left
