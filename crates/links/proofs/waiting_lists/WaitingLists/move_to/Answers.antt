use Rattle.links.proofs.ByKind.{joins_key}
use Rattle.links.proofs.waiting_lists.WaitingLists.move_to.Goals as goal

pub returns : goal.returns
returns c =
    rw (← c.self.view_is, c.move_to.ensures, c.number_of.ensures) (joins_key c.args.list c.args.discipline c.args.entry c.self.inside.lists c.self.invariant)
