use Rattle.std.proofs.Common.{length}
use Rattle.source_places.proofs.passing.+after_locals.Given as goal

abbrev pub decreases-after_locals : goal.decreases-after_locals
decreases-after_locals l = length l.locals.now
