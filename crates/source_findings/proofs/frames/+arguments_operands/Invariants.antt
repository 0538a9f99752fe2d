use Rattle.std.proofs.Common.{length}
use Rattle.source_findings.proofs.frames.+arguments_operands.Given as goal

abbrev pub decreases-arguments_operands : goal.decreases-arguments_operands
decreases-arguments_operands l = length l.kinds.now
