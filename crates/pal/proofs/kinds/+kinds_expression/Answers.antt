use Rattle.std.proofs.Common.{◌∙◌, ap, sym}
use Rattle.pal.specs.Scopes.{names_of, sees}
use Rattle.pal.proofs.Tests.{then_of, stops_at, is_not_ok}
use Rattle.pal.proofs.SyntaxRows.{seen_apply, seen_chain}
use Rattle.pal_meaning.specs.WellFormed.{fits_expr, is_procedure}
use Rattle.pal_base.specs.View.{name_of}
use Rattle.pal.proofs.Counted.{counted}
use Rattle.pal.proofs.kinds.+kinds_expression.Goals as goal

pub check_expression-returns-in_ok-check_procedure-in-Apply : goal.check_expression-returns-in_ok-check_procedure-in-Apply
check_expression-returns-in_ok-check_procedure-in-Apply t c =
    let seen = ap (fits_expr (sees c.args.scope.now)) (seen_apply (names_of c.args.scope.now) _ _ _ _ c.in-Apply.is c.as_slice-arguments.ensures.value) in
    let found = sees c.args.scope.now (name_of (names_of c.args.scope.now) c.in-Apply.procedure) in
    let count = counted (names_of c.args.scope.now) c.as_slice-arguments.result.now in
    then_of _ _ _ (c.in_ok-check_procedure-in-Apply.ensures ∙ ap (λ n. is_procedure n found) count) c.check_expressions.ensures ∙ sym seen

pub check_expression-returns-in_err-check_procedure-in-Apply : goal.check_expression-returns-in_err-check_procedure-in-Apply
check_expression-returns-in_err-check_procedure-in-Apply t c =
    let seen = ap (fits_expr (sees c.args.scope.now)) (seen_apply (names_of c.args.scope.now) _ _ _ _ c.in-Apply.is c.as_slice-arguments.ensures.value) in
    let found = sees c.args.scope.now (name_of (names_of c.args.scope.now) c.in-Apply.procedure) in
    let count = counted (names_of c.args.scope.now) c.as_slice-arguments.result.now in
    is_not_ok _ c.from_residual-in_err-check_procedure-in-Apply.ensures.0
    ∙ stops_at _ _ (c.in_err-check_procedure-in-Apply.ensures ∙ ap (λ n. is_procedure n found) count) ∙ sym seen

pub check_expression-returns-in_ok-check_expression-in-Chain : goal.check_expression-returns-in_ok-check_expression-in-Chain
check_expression-returns-in_ok-check_expression-in-Chain t c =
    let seen = ap (fits_expr (sees c.args.scope.now)) (seen_chain (names_of c.args.scope.now) _ _ _ _ _ c.in-Chain.is c.deref-in-Chain.ensures c.deref-in-Chain-2.ensures.value) in
    then_of _ _ _ c.in_ok-check_expression-in-Chain.ensures c.check_links.ensures ∙ sym seen
