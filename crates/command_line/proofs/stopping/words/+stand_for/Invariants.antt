use Rattle.std.proofs.Common.{length}
use Rattle.command_line.proofs.stopping.words.+stand_for.Given as goal

abbrev pub decreases-stand_for : goal.decreases-stand_for
decreases-stand_for l = length l.asked.now
