use Rattle.std.proofs.Common.{length}
use Rattle.lint.proofs.recursion.+are_passed_on.Given as goal

abbrev pub decreases-are_passed_on : goal.decreases-are_passed_on
decreases-are_passed_on l = length l.parameters.now
