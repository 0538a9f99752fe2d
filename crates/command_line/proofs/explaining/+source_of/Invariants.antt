use Rattle.std.proofs.Common.{length}
use Rattle.command_line.proofs.explaining.+source_of.Given as goal

abbrev pub decreases-source_of : goal.decreases-source_of
decreases-source_of l = length l.partitions.now
