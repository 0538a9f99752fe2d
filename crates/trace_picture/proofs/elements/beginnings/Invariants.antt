use Rattle.std.proofs.Common.{◌≤◌, length}
use Rattle.trace_picture.proofs.elements.beginnings.Given as goal

-- there is one for each shape so far, at the least
abbrev pub invariant-loop-shape : goal.invariant-loop-shape
invariant-loop-shape l = l.shape-index ≤ length l.begun.items
