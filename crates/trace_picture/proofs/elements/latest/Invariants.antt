use Rattle.std.proofs.Common.{◌≡◌, ◌≤◌, ◌+◌, ℕ, drop}
use Rattle.trace_picture.specs.Elements.{count_before}
use Rattle.trace_picture.proofs.elements.latest.Given as goal

-- all so far begin up to each tick that is no earlier than the latest of them
abbrev pub invariant-loop-first : goal.invariant-loop-first
invariant-loop-first l = (m : ℕ) → l.latest ≤ m → l.first-index + count_before (m + 1) (drop l.first-index l.begun) ≡ count_before (m + 1) l.begun
