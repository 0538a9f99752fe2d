use Rattle.std.proofs.Common.{length}
use Rattle.command_line.proofs.loading.+add_bodies.Given as goal

abbrev pub decreases-add_bodies : goal.decreases-add_bodies
decreases-add_bodies l = length l.rows.now
