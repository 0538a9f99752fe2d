use Rattle.std.proofs.Common.{◌≡◌, ◌≤◌, ◌+◌, drop}
use Rattle.trace_picture.specs.Elements.{count_before}
use Rattle.trace_picture.proofs.elements.count_before.Given as goal

-- those so far, and those of the rest, are all
abbrev pub invariant-loop-first : goal.invariant-loop-first
invariant-loop-first l =
    (l.count + count_before l.tick (drop l.first-index l.begun) ≡ count_before l.tick l.begun) × (l.count ≤ l.first-index)
