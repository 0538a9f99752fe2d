use Rattle.std.proofs.Common.{drop}
use Rattle.pal_meaning.specs.BodyCosts as cost
use Rattle.pal_base.specs.ProgramView.{block_of}
use Rattle.pal_base.proofs.Costs.{UnderWay}
use Rattle.pal_base.proofs.cost.+cost_of_stmt.Given as goal

abbrev pub invariant-cost_of_block-loop-stmt : goal.invariant-cost_of_block-loop-stmt
invariant-cost_of_block-loop-stmt l = UnderWay l.cost (cost.costs_of_block l.costs (block_of (drop l.stmt-index l.block))) (cost.costs_of_block l.costs (block_of l.block))
