use Rattle.std.proofs.Common.{◌∙◌, ap, sym}
use Rattle.pal_meaning.specs.Program as tree
use Rattle.pal_meaning.specs.Resolve.{resolve_expr, resolve_exprs, resolve_links}
use Rattle.pal_base.specs.View as view
use Rattle.pal_base.specs.ProgramView.{expr_of, links_of}
use Rattle.pal.specs.Scopes.{names_of, sees}
use Rattle.pal.proofs.SyntaxRows.{seen_apply, seen_chain}
use Rattle.pal_base.proofs.ProgramRows.{view_apply, view_chain}
use Rattle.pal.proofs.Resolved.{exprs_step, exprs_done, links_step, links_done}
use Rattle.pal.proofs.resolving.+resolve_expression.Goals as goal

pub resolve_expression-returns-in_ok-arguments-in-Apply : goal.resolve_expression-returns-in_ok-arguments-in-Apply
resolve_expression-returns-in_ok-arguments-in-Apply t c =
    let names = names_of c.args.scope.now in
    let scope = sees c.args.scope.now in
    let seen = ap (resolve_expr scope) (seen_apply names _ _ _ _ c.in-Apply.is c.deref-in-Apply.ensures.value) in
    view_apply c.procedure.result c.in_ok-arguments-in-Apply.arguments
    ∙ ap (λ r. tree.Apply c.procedure.result r) c.in_ok-arguments-in-Apply.ensures
    ∙ ap (λ n. tree.Apply n (resolve_exprs scope (view.exprs_of names c.deref-in-Apply.result.now))) c.procedure.ensures
    ∙ sym seen

pub resolve_expression-returns-in_ok-rest-in-Chain : goal.resolve_expression-returns-in_ok-rest-in-Chain
resolve_expression-returns-in_ok-rest-in-Chain t c =
    let names = names_of c.args.scope.now in
    let scope = sees c.args.scope.now in
    let seen = ap (resolve_expr scope) (seen_chain names _ _ _ _ _ c.in-Chain.is c.deref-in-Chain.ensures c.deref-in-Chain-2.ensures.value) in
    let first = ap expr_of c.in_ok-first-in-Chain.ensures.ok ∙ (c.in_ok-resolve_expression-in-Chain).ensures in
    view_chain c.in_ok-first-in-Chain.first c.in_ok-rest-in-Chain.rest
    ∙ ap (λ e. tree.Chain e (links_of c.in_ok-rest-in-Chain.rest.items)) first
    ∙ ap (λ r. tree.Chain (resolve_expr scope (view.expr_of names c.deref-in-Chain.result.now)) r) c.in_ok-rest-in-Chain.ensures
    ∙ sym seen

pub resolve_expressions-loop-expression-preserved : goal.resolve_expressions-loop-expression-preserved
resolve_expressions-loop-expression-preserved t c =
    exprs_step (names_of c.args.scope.now) (sees c.args.scope.now) c.args.expressions.now c.loop-expression.expression-index c.expression-item.result c.loop-expression.resolved.items c.push.new.self.items
    (c.in_ok-resolve_expression).field-0 (resolve_exprs (sees c.args.scope.now) (view.exprs_of (names_of c.args.scope.now) c.args.expressions.now)) c.loop-expression-test.true c.expression-item.is c.in_ok-push.ensures.items (c.in_ok-resolve_expression).ensures c.loop-expression.invariant

pub resolve_expressions-returns : goal.resolve_expressions-returns
resolve_expressions-returns t c = exprs_done (names_of c.args.scope.now) (sees c.args.scope.now) c.args.expressions.now c.loop-expression.expression-index c.loop-expression.resolved.items (resolve_exprs (sees c.args.scope.now) (view.exprs_of (names_of c.args.scope.now) c.args.expressions.now)) c.loop-expression-test.false c.loop-expression.invariant

pub resolve_links-loop-link-preserved : goal.resolve_links-loop-link-preserved
resolve_links-loop-link-preserved t c =
    links_step (names_of c.args.scope.now) (sees c.args.scope.now) c.args.links.now c.loop-link.link-index c.link-item.result c.loop-link.resolved.items c.push.new.self.items
    c.in_ok-operand.operand (resolve_links (sees c.args.scope.now) (view.links_of (names_of c.args.scope.now) c.args.links.now)) c.loop-link-test.true c.link-item.is c.in_ok-push.ensures.items c.in_ok-operand.ensures c.loop-link.invariant

pub resolve_links-returns : goal.resolve_links-returns
resolve_links-returns t c = links_done (names_of c.args.scope.now) (sees c.args.scope.now) c.args.links.now c.loop-link.link-index c.loop-link.resolved.items (resolve_links (sees c.args.scope.now) (view.links_of (names_of c.args.scope.now) c.args.links.now)) c.loop-link-test.false c.loop-link.invariant
