use Rattle.std.proofs.Common.{◌≡◌, ◌+◌, ◌≤◌, min, max, drop}
use Rattle.pal_meaning.specs.Program as cost
use Rattle.pal_base.specs.ProgramView.{exprs_of, links_of}
use Rattle.pal_base.proofs.operands.+operands_of_expr.Given as goal

abbrev pub invariant-operands_of_links-loop-link : goal.invariant-operands_of_links-loop-link
invariant-operands_of_links-loop-link l = (l.most ≤ 18446744073709551615) × (min (max l.most (cost.operands_of_links (links_of (drop l.link-index l.links)))) 18446744073709551615 ≡ min (cost.operands_of_links (links_of l.links)) 18446744073709551615)

abbrev pub invariant-operands_of_exprs-loop-expr : goal.invariant-operands_of_exprs-loop-expr
invariant-operands_of_exprs-loop-expr l = (l.most ≤ 18446744073709551615) × (l.waiting ≤ 18446744073709551615) × (min (max (max l.most l.waiting) (l.waiting + cost.operands_of_exprs (exprs_of (drop l.expr-index l.exprs)))) 18446744073709551615 ≡ min (cost.operands_of_exprs (exprs_of l.exprs)) 18446744073709551615)
