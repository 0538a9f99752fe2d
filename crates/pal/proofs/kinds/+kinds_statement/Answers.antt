use Rattle.std.proofs.Common.{◌∙◌, ap, refl, sym}
use Rattle.pal.specs.Scopes.{names_of, sees}
use Rattle.pal.proofs.Tests.{then_of, stops_at, is_not_ok}
use Rattle.pal.proofs.SyntaxRows.{seen_if, seen_if_else, seen_while}
use Rattle.pal_meaning.specs.WellFormed.{fits_stmt}
use Rattle.pal.proofs.kinds.+kinds_statement.Goals as goal

pub check_statement-returns-in_ok-check_expression-in-If : goal.check_statement-returns-in_ok-check_expression-in-If
check_statement-returns-in_ok-check_expression-in-If t c =
    let seen = ap (fits_stmt (sees c.args.scope.now) c.args.returns) (seen_if (names_of c.args.scope.now) _ _ _ _ c.in-If.is c.deref.ensures.value) in
    then_of _ _ _ c.in_ok-check_expression-in-If.ensures c.check_block.ensures ∙ sym seen

pub check_statement-returns-in_ok-check_expression-in-While : goal.check_statement-returns-in_ok-check_expression-in-While
check_statement-returns-in_ok-check_expression-in-While t c =
    let seen = ap (fits_stmt (sees c.args.scope.now) c.args.returns) (seen_while (names_of c.args.scope.now) _ _ _ _ c.in-While.is c.deref-in-While.ensures.value) in
    then_of _ _ _ c.in_ok-check_expression-in-While.ensures c.check_block-in-While.ensures ∙ sym seen

pub check_statement-returns-in_ok-check_block-in-IfElse : goal.check_statement-returns-in_ok-check_block-in-IfElse
check_statement-returns-in_ok-check_block-in-IfElse t c =
    let seen = ap (fits_stmt (sees c.args.scope.now) c.args.returns) (seen_if_else (names_of c.args.scope.now) _ _ _ _ _ _ c.in-IfElse.is c.deref-in-IfElse.ensures.value c.deref-in-IfElse-2.ensures.value) in
    then_of _ _ _ c.in_ok-check_expression-in-IfElse.ensures (then_of _ _ _ c.in_ok-check_block-in-IfElse.ensures c.check_block-in-IfElse-2.ensures) ∙ sym seen

pub check_statement-returns-in_err-check_block-in-IfElse : goal.check_statement-returns-in_err-check_block-in-IfElse
check_statement-returns-in_err-check_block-in-IfElse t c =
    let seen = ap (fits_stmt (sees c.args.scope.now) c.args.returns) (seen_if_else (names_of c.args.scope.now) _ _ _ _ _ _ c.in-IfElse.is c.deref-in-IfElse.ensures.value refl) in
    is_not_ok _ c.from_residual-in_err-check_block-in-IfElse.ensures.0
    ∙ then_of _ _ _ c.in_ok-check_expression-in-IfElse.ensures (stops_at _ _ c.in_err-check_block-in-IfElse.ensures) ∙ sym seen
