use Rattle.schedule_load.proofs.Sums.{ticks_add_up as law}
use Rattle.schedule_load.proofs.laws.ticks_add_up.Goals as goal

pub returns : goal.returns
returns c = law
