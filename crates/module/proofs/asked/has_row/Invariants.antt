use Rattle.std.proofs.Common.{◌≡◌, map, length}
use Rattle.module.specs.Asked.{has_row}
use Rattle.module.proofs.asked.has_row.Given as goal

abbrev pub invariant-loop-line : goal.invariant-loop-line
invariant-loop-line l = has_row (map (λ a. a.now) l.fn.asked) l.fn.text ≡ has_row (map (λ a. a.now) l.fn.asked) l.rest

abbrev pub decreases-loop-line : goal.decreases-loop-line
decreases-loop-line l = length l.rest
