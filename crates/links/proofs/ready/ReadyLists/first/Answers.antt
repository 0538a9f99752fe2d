use Rattle.links.proofs.Prelude.{◌∙◌}
use Rattle.links.proofs.Bits.{first_marked, first_none}
use Rattle.links.proofs.ready.ReadyLists.first.Goals as goal

pub returns-in-Some : goal.returns-in-Some
returns-in-Some c = rw (← c.self.view_is) (c.first-in-Some.ensures.value ∙ first_marked _ _ _ c.self.invariant.marked (rw c.in-Some.is at c.first.ensures))

pub returns-in-None : goal.returns-in-None
returns-in-None c = rw (← c.self.view_is) (first_none _ _ c.self.invariant.marked (rw c.in-None.is at c.first.ensures))
