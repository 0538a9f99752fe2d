use Rattle.links.proofs.Prelude.{refl}
use Rattle.links.proofs.ByKind.{list_of_key}
use Rattle.links.proofs.waiting_lists.WaitingLists.entries.Goals as goal

pub returns : goal.returns
returns c =
    let same = list_of_key c.args.list c.self.inside.lists c.self.invariant in
    rw (c.entries.ensures, c.number_of.ensures, same, c.self.view_is) refl
