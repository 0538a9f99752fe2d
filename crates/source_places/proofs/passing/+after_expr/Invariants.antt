use Rattle.std.proofs.Common.{◌≡◌, ℕ, List, drop, true}
use Rattle.pal_base.specs.View.{exprs_of, links_of}
use Rattle.source_places.specs.Passing as spec
use Rattle.source_places.proofs.passing.+after_expr.Given as goal

abbrev pub invariant-after_links-loop-link : goal.invariant-after_links-loop-link
invariant-after_links-loop-link l = (names : List (List ℕ)) → spec.after_links (links_of names (drop l.link-index l.links)) l.rest ≡ spec.after_links (links_of names l.links) l.text

abbrev pub invariant-after_arguments-loop-expr : goal.invariant-after_arguments-loop-expr
invariant-after_arguments-loop-expr l =
    (names : List (List ℕ)) → spec.after_arguments (exprs_of names (drop l.expr-index l.exprs)) l.is_first l.rest ≡ spec.after_arguments (exprs_of names l.exprs) true l.text
