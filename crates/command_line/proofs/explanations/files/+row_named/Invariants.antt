use Rattle.std.proofs.Common.{length}
use Rattle.command_line.proofs.explanations.files.+row_named.Given as goal

abbrev pub decreases-row_named : goal.decreases-row_named
decreases-row_named l = length l.items.now
