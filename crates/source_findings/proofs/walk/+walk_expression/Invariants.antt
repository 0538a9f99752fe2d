use Rattle.std.proofs.Common.{◌≡◌, drop, true}
use Rattle.pal_base.specs.View.{exprs_of, links_of}
use Rattle.source_findings.specs.Views.{judge_of, names_of, state_of}
use Rattle.source_findings.specs.Walk as spec
use Rattle.source_findings.proofs.walk.+walk_expression.Given as goal

abbrev pub invariant-links-loop-link : goal.invariant-links-loop-link
invariant-links-loop-link l =
    spec.links (judge_of l.judge) (links_of (names_of l.judge) (drop l.link-index l.links)) (state_of l.walk)
    ≡ spec.links (judge_of l.judge) (links_of (names_of l.judge) l.links) (state_of l.fn.walk)

abbrev pub invariant-expressions-loop-expr : goal.invariant-expressions-loop-expr
invariant-expressions-loop-expr l =
    spec.exprs (judge_of l.judge) (exprs_of (names_of l.judge) (drop l.expr-index l.exprs)) l.is_first (state_of l.walk)
    ≡ spec.exprs (judge_of l.judge) (exprs_of (names_of l.judge) l.exprs) true (state_of l.fn.walk)
