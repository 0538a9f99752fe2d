use Rattle.std.proofs.Common.{length}
use Rattle.source_findings.proofs.lengths.+passing.Given as goal

abbrev pub decreases-passing : goal.decreases-passing
decreases-passing l = length l.bodies.now
