use Rattle.links.proofs.Prelude.{refl}
use Rattle.links.proofs.ByKind.{list_of_key}
use Rattle.links.proofs.waiting_lists.WaitingLists.first.Goals as goal

pub returns-clause-value : goal.returns-clause-value
returns-clause-value c =
    let same = list_of_key c.args.list c.self.inside.lists c.self.invariant in
    rw (c.first.ensures.value, c.number_of.ensures, same, c.self.view_is) refl
