use Rattle.std.proofs.Common.{length}
use Rattle.source_places.proofs.passing.+after_targets.Given as goal

abbrev pub decreases-after_targets : goal.decreases-after_targets
decreases-after_targets l = length l.targets.now
