use Rattle.std.proofs.Common.{◌≡◌, drop}
use Rattle.pal_base.specs.View.{texts, exprs_of, links_of}
use Rattle.pal_meaning.specs.WellFormed.{keeps_exprs, keeps_links}
use Rattle.pal.proofs.limits.+limits_expression.Given as goal

abbrev pub invariant-check_expressions-loop-expression : goal.invariant-check_expressions-loop-expression
invariant-check_expressions-loop-expression l = keeps_exprs (exprs_of (texts l.names.keys) (drop l.expression-index l.expressions)) ≡ keeps_exprs (exprs_of (texts l.names.keys) l.expressions)

abbrev pub invariant-check_links-loop-link : goal.invariant-check_links-loop-link
invariant-check_links-loop-link l = keeps_links (links_of (texts l.names.keys) (drop l.link-index l.links)) ≡ keeps_links (links_of (texts l.names.keys) l.links)
