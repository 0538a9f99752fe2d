use Rattle.std.proofs.Common.{◌≡◌, drop}
use Rattle.pal_base.specs.View.{exprs_of, links_of}
use Rattle.pal.specs.Scopes.{names_of, sees}
use Rattle.pal_meaning.specs.WellFormed.{fits_exprs, fits_links}
use Rattle.pal.proofs.kinds.+kinds_expression.Given as goal

abbrev pub invariant-check_expressions-loop-expression : goal.invariant-check_expressions-loop-expression
invariant-check_expressions-loop-expression l = fits_exprs (sees l.scope) (exprs_of (names_of l.scope) (drop l.expression-index l.expressions)) ≡ fits_exprs (sees l.scope) (exprs_of (names_of l.scope) l.expressions)

abbrev pub invariant-check_links-loop-link : goal.invariant-check_links-loop-link
invariant-check_links-loop-link l = fits_links (sees l.scope) (links_of (names_of l.scope) (drop l.link-index l.links)) ≡ fits_links (sees l.scope) (links_of (names_of l.scope) l.links)
