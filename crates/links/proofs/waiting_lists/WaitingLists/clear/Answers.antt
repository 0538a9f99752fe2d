use Rattle.links.proofs.Prelude.{no_entries}
use Rattle.links.proofs.ByKind.{each_key}
use Rattle.links.proofs.waiting_lists.WaitingLists.clear.Goals as goal

pub returns : goal.returns
returns c = rw (← c.self.view_is, c.clear.ensures) (each_key no_entries c.self.inside.lists)
