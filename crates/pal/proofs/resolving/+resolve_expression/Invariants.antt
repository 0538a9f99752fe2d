use Rattle.std.proofs.Common.{◌≡◌, drop}
use Rattle.pal_meaning.specs.Resolve as meant
use Rattle.pal_base.specs.View as view
use Rattle.pal_base.specs.View.{texts, name_of, integer_of, declaration_of}
use Rattle.pal.specs.Scopes.{names_of, sees}
use Rattle.pal.specs.Parts.{exprs_onto, links_onto}
use Rattle.pal.proofs.resolving.+resolve_expression.Given as goal

abbrev pub invariant-resolve_expressions-loop-expression : goal.invariant-resolve_expressions-loop-expression
invariant-resolve_expressions-loop-expression l = exprs_onto l.resolved.items (meant.resolve_exprs (sees l.scope) (view.exprs_of (names_of l.scope) (drop l.expression-index l.expressions))) ≡ meant.resolve_exprs (sees l.scope) (view.exprs_of (names_of l.scope) l.expressions)

abbrev pub invariant-resolve_links-loop-link : goal.invariant-resolve_links-loop-link
invariant-resolve_links-loop-link l = links_onto l.resolved.items (meant.resolve_links (sees l.scope) (view.links_of (names_of l.scope) (drop l.link-index l.links))) ≡ meant.resolve_links (sees l.scope) (view.links_of (names_of l.scope) l.links)
