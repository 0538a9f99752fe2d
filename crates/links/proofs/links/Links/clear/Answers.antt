use Rattle.links.proofs.Prelude.{refl, MOST_PROCESSES}
use Rattle.links.proofs.OneHome.{IsHomed-emptied}
use Rattle.links.proofs.links.Links.clear.Goals as goal

pub invariant_of-self : goal.invariant_of-self
invariant_of-self c = record { complete = refl; homed = rw c.clear_all.ensures (IsHomed-emptied MOST_PROCESSES _) }
