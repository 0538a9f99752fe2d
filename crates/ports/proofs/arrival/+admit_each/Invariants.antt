use Rattle.std.proofs.Common.{length}
use Rattle.ports.proofs.arrival.+admit_each.Given as goal

abbrev pub decreases-admit_each : goal.decreases-admit_each
decreases-admit_each l = length l.entries.now
