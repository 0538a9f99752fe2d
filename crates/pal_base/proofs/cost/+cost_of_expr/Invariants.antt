use Rattle.std.proofs.Common.{drop}
use Rattle.pal_meaning.specs.BodyCosts as cost
use Rattle.pal_base.specs.ProgramView.{exprs_of, links_of}
use Rattle.pal_base.proofs.Costs.{UnderWay}
use Rattle.pal_base.proofs.cost.+cost_of_expr.Given as goal

abbrev pub invariant-cost_of_exprs-loop-expr : goal.invariant-cost_of_exprs-loop-expr
invariant-cost_of_exprs-loop-expr l = UnderWay l.cost (cost.costs_of_exprs l.costs (exprs_of (drop l.expr-index l.exprs))) (cost.costs_of_exprs l.costs (exprs_of l.exprs))

abbrev pub invariant-cost_of_links-loop-link : goal.invariant-cost_of_links-loop-link
invariant-cost_of_links-loop-link l = UnderWay l.cost (cost.costs_of_links l.costs (links_of (drop l.link-index l.links))) (cost.costs_of_links l.costs (links_of l.links))
