use Rattle.links.proofs.Prelude.{◌∙◌, sym, MOST_PROCESSES}
use Rattle.links.proofs.OneHome.{first_below, pops-seen}
use Rattle.links.proofs.links.Links.pop_front.Goals as goal

pub returns-clause-below : goal.returns-clause-below
returns-clause-below c =
    let found = rw c.deref.ensures.value at c.front_at.ensures in
    rw (sym found ∙ c.in_ok-first.was) at (first_below MOST_PROCESSES _ _ c.self.invariant.complete c.self.invariant.homed c.args.list.0)

pub returns-clause-lists : goal.returns-clause-lists
returns-clause-lists c =
    let found = rw c.deref.ensures.value at c.front_at.ensures in
    c.remove.ensures ∙ pops-seen c.args.list.0 c.in_ok-first.first _ _ _ c.self.view_is c.self.invariant.homed (sym found ∙ c.in_ok-first.was)
