use Rattle.std.proofs.Common.{◌≤◌, length}
use Rattle.trace_picture.proofs.elements.push_pieces.Given as goal

-- none goes
abbrev pub invariant-loop-stretch : goal.invariant-loop-stretch
invariant-loop-stretch l = length l.initial.begun.items ≤ length l.begun.items
