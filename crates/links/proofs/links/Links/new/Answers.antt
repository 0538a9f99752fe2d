use Rattle.links.proofs.Prelude.{refl, MOST_PROCESSES}
use Rattle.links.proofs.OneHome.{IsHomed-new}
use Rattle.links.proofs.links.Links.new.Goals as goal

pub invariant_of-result : goal.invariant_of-result
invariant_of-result c = record { complete = refl; homed = rw c.in_ok-empty_lists.ensures (IsHomed-new c.args.lists MOST_PROCESSES) }
