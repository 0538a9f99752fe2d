use Rattle.std.proofs.Common.{length}
use Rattle.image_findings.proofs.foreign.+first_other.Given as goal

abbrev pub decreases-first_other : goal.decreases-first_other
decreases-first_other l = length l.wanted.now
