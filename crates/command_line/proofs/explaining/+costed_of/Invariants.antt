use Rattle.std.proofs.Common.{length}
use Rattle.command_line.proofs.explaining.+costed_of.Given as goal

abbrev pub decreases-costed_of : goal.decreases-costed_of
decreases-costed_of l = length l.costs.now
