use Rattle.std.proofs.Common.{length}
use Rattle.source_findings.proofs.lengths.+all_instructions.Given as goal

abbrev pub decreases-all_instructions : goal.decreases-all_instructions
decreases-all_instructions l = length l.bodies.now
