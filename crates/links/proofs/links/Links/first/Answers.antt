use Rattle.links.proofs.OneHome.{first_below}
use Rattle.links.proofs.links.Links.first.Goals as goal
use Rattle.links.proofs.Prelude.{MOST_PROCESSES}

pub returns-clause-below : goal.returns-clause-below
returns-clause-below c = rw (c.front_at.ensures, c.deref.ensures.value) (first_below MOST_PROCESSES _ _ c.self.invariant.complete c.self.invariant.homed c.args.list.0)
