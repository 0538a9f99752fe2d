use Rattle.std.proofs.Common.{◌≡◌, ◌+◌, ◌≤◌, min, max, drop}
use Rattle.pal_base.specs.ProgramView.{exprs_of, links_of}
use Rattle.lint.specs.Stacks.{words_of_exprs, words_of_links}
use Rattle.lint.proofs.stacks.+words_of_expr.Given as goal

abbrev pub invariant-words_of_links-loop-link : goal.invariant-words_of_links-loop-link
invariant-words_of_links-loop-link l = (l.most ≤ 18446744073709551615) × (min (max l.most (words_of_links l.known (links_of (drop l.link-index l.links)))) 18446744073709551615 ≡ min (words_of_links l.known (links_of l.links)) 18446744073709551615)

abbrev pub invariant-words_of_exprs-loop-expr : goal.invariant-words_of_exprs-loop-expr
invariant-words_of_exprs-loop-expr l = (l.most ≤ 18446744073709551615) × (l.waiting ≤ 18446744073709551615) × (min (max (max l.most l.waiting) (l.waiting + words_of_exprs l.known (exprs_of (drop l.expr-index l.exprs)))) 18446744073709551615 ≡ min (words_of_exprs l.known (exprs_of l.exprs)) 18446744073709551615)
