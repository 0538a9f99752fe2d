use Rattle.std.proofs.Common.{length}
use Rattle.module.proofs.naming_states.+add_sources.Given as goal

abbrev pub decreases-add_sources : goal.decreases-add_sources
decreases-add_sources l = length l.texts.now
