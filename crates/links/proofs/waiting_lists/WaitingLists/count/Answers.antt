use Rattle.links.proofs.Prelude.{refl}
use Rattle.links.proofs.ByKind.{list_of_key}
use Rattle.links.proofs.waiting_lists.WaitingLists.count.Goals as goal

pub returns-clause-count : goal.returns-clause-count
returns-clause-count c =
    let same = list_of_key c.args.list c.self.inside.lists c.self.invariant in
    rw (c.count.ensures.count, c.number_of.ensures, same, c.self.view_is) refl
