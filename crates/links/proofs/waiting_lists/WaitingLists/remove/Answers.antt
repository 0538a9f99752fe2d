use Rattle.links.proofs.Prelude.{without}
use Rattle.links.proofs.ByKind.{each_key}
use Rattle.links.proofs.waiting_lists.WaitingLists.remove.Goals as goal

pub returns : goal.returns
returns c = rw (← c.self.view_is, c.remove.ensures) (each_key (without c.args.process.0) c.self.inside.lists)
