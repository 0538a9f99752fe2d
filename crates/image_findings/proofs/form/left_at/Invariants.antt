use Rattle.std.proofs.Common.{◌≡◌, length}
use Rattle.image_findings.specs.Form as spec
use Rattle.image_findings.proofs.form.left_at.Given as goal

abbrev pub invariant-loop-byte : goal.invariant-loop-byte
invariant-loop-byte l = spec.left_at l.wanted l.line ≡ spec.left_at l.wanted l.rest

abbrev pub decreases-loop-byte : goal.decreases-loop-byte
decreases-loop-byte l = length l.rest
