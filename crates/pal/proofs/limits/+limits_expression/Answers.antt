use Rattle.std.proofs.Common.{◌∙◌, ap, sym}
use Rattle.pal_base.specs.View.{texts}
use Rattle.pal.proofs.Tests.{then_of}
use Rattle.pal.proofs.SyntaxRows.{seen_apply, seen_chain}
use Rattle.pal_meaning.specs.WellFormed.{keeps_expr}
use Rattle.pal.proofs.limits.+limits_expression.Goals as goal

pub check_expression-returns-in_ok-check_name_form-in-Apply : goal.check_expression-returns-in_ok-check_name_form-in-Apply
check_expression-returns-in_ok-check_name_form-in-Apply t c =
    let seen = ap keeps_expr (seen_apply (texts c.args.names.now.keys) _ _ _ _ c.in-Apply.is c.deref-in-Apply.ensures.value) in
    then_of _ _ _ c.in_ok-check_name_form-in-Apply.ensures c.check_expressions.ensures ∙ sym seen

pub check_expression-returns-in_ok-check_expression-in-Chain : goal.check_expression-returns-in_ok-check_expression-in-Chain
check_expression-returns-in_ok-check_expression-in-Chain t c =
    let seen = ap keeps_expr (seen_chain (texts c.args.names.now.keys) _ _ _ _ _ c.in-Chain.is c.deref-in-Chain.ensures c.deref-in-Chain-2.ensures.value) in
    then_of _ _ _ c.in_ok-check_expression-in-Chain.ensures c.check_links.ensures ∙ sym seen
