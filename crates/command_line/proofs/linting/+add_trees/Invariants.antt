use Rattle.std.proofs.Common.{length}
use Rattle.command_line.proofs.linting.+add_trees.Given as goal

abbrev pub decreases-add_trees : goal.decreases-add_trees
decreases-add_trees l = length l.sources.now
