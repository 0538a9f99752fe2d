use Rattle.std.proofs.Common.{◌≡◌, ◌+◌, ◌≤◌, min, drop}
use Rattle.pal_meaning.specs.Program as cost
use Rattle.pal_base.specs.ProgramView.{exprs_of, links_of}
use Rattle.pal_base.proofs.sizes.+size_of_expr.Given as goal

abbrev pub invariant-size_of_links-loop-link : goal.invariant-size_of_links-loop-link
invariant-size_of_links-loop-link l = (l.size ≤ 18446744073709551615) × (min (l.size + cost.size_of_links (links_of (drop l.link-index l.links))) 18446744073709551615 ≡ min (cost.size_of_links (links_of l.links)) 18446744073709551615)

abbrev pub invariant-size_of_exprs-loop-expr : goal.invariant-size_of_exprs-loop-expr
invariant-size_of_exprs-loop-expr l = (l.size ≤ 18446744073709551615) × (min (l.size + cost.size_of_exprs (exprs_of (drop l.expr-index l.exprs))) 18446744073709551615 ≡ min (cost.size_of_exprs (exprs_of l.exprs)) 18446744073709551615)
