use Rattle.apex_types.proofs.TickCosts.{in_order}
use Rattle.apex_types.proofs.cost.Costs.from_order.Goals as goal

pub returns-in-len15 : goal.returns-in-len15
returns-in-len15 c = in_order c.args.costs.now c.in-len15.len_at_least c.in-len15.len_below _ _ _ _ _ _ _ _ _ _ _ _ _ _ _ c.literal-item.is c.scalar-item.is c.array-item.is c.add-item.is c.mul-item.is c.div-item.is c.logic-item.is c.branch-item.is c.jump-item.is c.call-item.is c.ret-item.is c.create-item.is c.message-item.is c.service-item.is c.end-item.is
