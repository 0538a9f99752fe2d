use Rattle.std.proofs.Common.{◌∙◌, ap, sym}
use Rattle.pal.specs.Scopes.{names_of, sees}
use Rattle.pal.proofs.Tests.{then_of}
use Rattle.pal.proofs.SyntaxRows.{seen_apply, seen_chain}
use Rattle.pal_meaning.specs.WellFormed.{knows_expr}
use Rattle.pal.proofs.names.+names_expression.Goals as goal

pub check_expression-returns-in_ok-check_known-in-Apply : goal.check_expression-returns-in_ok-check_known-in-Apply
check_expression-returns-in_ok-check_known-in-Apply t c =
    let seen = ap (knows_expr (sees c.args.scope.now)) (seen_apply (names_of c.args.scope.now) _ _ _ _ c.in-Apply.is c.deref-in-Apply.ensures.value) in
    then_of _ _ _ c.in_ok-check_known-in-Apply.ensures c.check_expressions.ensures ∙ sym seen

pub check_expression-returns-in_ok-check_expression-in-Chain : goal.check_expression-returns-in_ok-check_expression-in-Chain
check_expression-returns-in_ok-check_expression-in-Chain t c =
    let seen = ap (knows_expr (sees c.args.scope.now)) (seen_chain (names_of c.args.scope.now) _ _ _ _ _ c.in-Chain.is c.deref-in-Chain.ensures c.deref-in-Chain-2.ensures.value) in
    then_of _ _ _ c.in_ok-check_expression-in-Chain.ensures c.check_links.ensures ∙ sym seen
