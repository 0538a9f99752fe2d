use Rattle.module.proofs.Prelude.{length}
use Rattle.module.proofs.accepting.+first_too_long.Given as goal

abbrev pub decreases-first_too_long : goal.decreases-first_too_long
decreases-first_too_long l = length l.rows.now
