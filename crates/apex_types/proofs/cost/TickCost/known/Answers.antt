use Rattle.apex_types.proofs.TickCosts.{is_of_ticks}
use Rattle.apex_types.proofs.cost.TickCost.known.Goals as goal

pub returns : goal.returns
returns c = is_of_ticks c.args.ticks _
