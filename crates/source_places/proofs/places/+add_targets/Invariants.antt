use Rattle.std.proofs.Common.{length}
use Rattle.source_places.proofs.places.+add_targets.Given as goal

abbrev pub decreases-add_targets : goal.decreases-add_targets
decreases-add_targets l = length l.targets.now
