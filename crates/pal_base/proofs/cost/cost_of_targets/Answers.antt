use Rattle.pal_base.proofs.Costs.{one_more}
use Rattle.pal_base.proofs.cost.cost_of_targets.Goals as goal

pub loop-preserved : goal.loop-preserved
loop-preserved c = one_more c.args.costs.now.scalar.ticks c.args.targets.now c.loop.index _ _ c.loop-test.true c.and-cost.ensures c.loop.invariant
