use Rattle.std.proofs.Common.{◌≡◌}
use Rattle.source_places.specs.Places.{brace_within, next_body}
use Rattle.source_places.proofs.places.next_body.Given as goal

abbrev pub invariant-loop-left : goal.invariant-loop-left
invariant-loop-left l = next_body l.text ≡ brace_within l.left l.rest

abbrev pub decreases-loop-left : goal.decreases-loop-left
decreases-loop-left l = l.left
