use Rattle.links.proofs.Prelude.{◌∙◌, length-map, emptied_each}
use Rattle.links.proofs.Levels.{at_emptied, in_order_emptied, levels_emptied}
use Rattle.links.proofs.Bits.{marked_none}
use Rattle.links.proofs.ready.ReadyLists.clear.Goals as goal

pub invariant_of-self : goal.invariant_of-self
invariant_of-self c = record { whole = rw c.clear.ensures (length-map _ _ ∙ c.self.invariant.whole); levels = rw c.clear.ensures (levels_emptied 0 _); marked = rw c.clear.ensures (marked_none (emptied_each _) (at_emptied _)) }

pub returns : goal.returns
returns c = rw c.clear.ensures (in_order_emptied c.self.inside.lists)
