use Rattle.std.proofs.Common.{length}
use Rattle.pal.proofs.kinds.+check_arguments.Given as goal

abbrev pub decreases-check_arguments : goal.decreases-check_arguments
decreases-check_arguments l = length l.arguments.now
