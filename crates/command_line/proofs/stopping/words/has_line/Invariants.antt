use Rattle.std.proofs.Common.{◌≡◌, map, length}
use Rattle.command_line.specs.Awaited.{has_line}
use Rattle.command_line.proofs.stopping.words.has_line.Given as goal

abbrev pub invariant-loop-line : goal.invariant-loop-line
invariant-loop-line l = has_line (map (λ a. a.now) l.fn.asked) l.fn.text ≡ has_line (map (λ a. a.now) l.fn.asked) l.rest

abbrev pub decreases-loop-line : goal.decreases-loop-line
decreases-loop-line l = length l.rest
