use Rattle.std.proofs.Common.{◌≡◌, ℕ, List, drop, ◌++◌}
use Rattle.pal_base.specs.View.{exprs_of, links_of}
use Rattle.source_places.specs.Places as spec
use Rattle.source_places.proofs.places.+add_expr.Given as goal

abbrev pub invariant-add_exprs-loop-expr : goal.invariant-add_exprs-loop-expr
invariant-add_exprs-loop-expr l =
    (names : List (List ℕ)) → l.places.items ++ spec.exprs_places l.place (exprs_of names (drop l.expr-index l.exprs)) ≡ l.fn.places.items ++ spec.exprs_places l.place (exprs_of names l.exprs)

abbrev pub invariant-add_links-loop-link : goal.invariant-add_links-loop-link
invariant-add_links-loop-link l =
    (names : List (List ℕ)) → l.places.items ++ spec.links_places l.place (links_of names (drop l.link-index l.links)) ≡ l.fn.places.items ++ spec.links_places l.place (links_of names l.links)
