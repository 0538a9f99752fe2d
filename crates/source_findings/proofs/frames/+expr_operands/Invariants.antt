use Rattle.std.proofs.Common.{◌≡◌, ℕ, ◌+◌, ◌≤◌, List, min, max, drop}
use Rattle.pal_base.specs.View.{exprs_of, links_of}
use Rattle.source_findings.specs.Frames as spec
use Rattle.source_findings.proofs.frames.+expr_operands.Given as goal

abbrev pub invariant-links_operands-loop-link : goal.invariant-links_operands-loop-link
invariant-links_operands-loop-link l =
    (l.most ≤ 18446744073709551615)
    × ((names : List (List ℕ)) → min (max l.most (spec.links_operands (links_of names (drop l.link-index l.links)))) 18446744073709551615 ≡ min (spec.links_operands (links_of names l.links)) 18446744073709551615)

abbrev pub invariant-exprs_operands-loop-expr : goal.invariant-exprs_operands-loop-expr
invariant-exprs_operands-loop-expr l =
    (l.most ≤ 18446744073709551615) × (l.waiting ≤ 18446744073709551615)
    × ((names : List (List ℕ)) → min (max (max l.most l.waiting) (l.waiting + spec.exprs_operands (exprs_of names (drop l.expr-index l.exprs)))) 18446744073709551615 ≡ min (spec.exprs_operands (exprs_of names l.exprs)) 18446744073709551615)
