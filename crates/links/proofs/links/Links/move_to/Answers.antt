use Rattle.links.proofs.OneHome.{absent}
use Rattle.links.proofs.links.Links.move_to.Goals as goal

pub join-requires-clause-nowhere : goal.join-requires-clause-nowhere
join-requires-clause-nowhere c = absent c.args.entry.process.0 _ _ c.remove.ensures
