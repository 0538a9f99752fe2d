use Rattle.std.proofs.Common.{map, drop}
use Rattle.pal_base.proofs.Costs.{UnderWay}
use Rattle.pal_base.proofs.cost.cost_of_targets.Given as goal

abbrev pub invariant-loop : goal.invariant-loop
invariant-loop l = UnderWay l.cost (map (λ _. l.costs.scalar.ticks) (drop l.index l.targets)) (map (λ _. l.costs.scalar.ticks) l.targets)
