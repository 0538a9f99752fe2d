use Rattle.apex_types.proofs.TickCosts.{is_of_ticks}
use Rattle.apex_types.proofs.cost.TickCost.new.Goals as goal

pub returns-then-ticks-le-MOST_COST : goal.returns-then-ticks-le-MOST_COST
returns-then-ticks-le-MOST_COST c = is_of_ticks c.args.ticks _
