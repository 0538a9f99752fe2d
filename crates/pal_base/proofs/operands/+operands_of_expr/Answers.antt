use Rattle.std.proofs.Common.{ap, arith}
use Rattle.pal_meaning.specs.Program as cost
use Rattle.pal_base.proofs.ProgramRows.{seen_apply, seen_chain}
use Rattle.pal_base.proofs.operands.+operands_of_expr.Goals as goal

pub operands_of_expr-returns-in-Chain : goal.operands_of_expr-returns-in-Chain
operands_of_expr-returns-in-Chain t c =
    let seen = ap cost.operands_of_expr (seen_chain _ _ _ _ _ c.in-Chain.is c.deref-in-Chain.ensures c.deref-in-Chain-2.ensures.value) in
    omega (arith, c.max.ensures, c.operands_of_expr-in-Chain.ensures, c.operands_of_links.ensures)

pub operands_of_expr-returns-in-Apply : goal.operands_of_expr-returns-in-Apply
operands_of_expr-returns-in-Apply t c =
    let seen = ap cost.operands_of_expr (seen_apply _ _ _ _ c.in-Apply.is c.deref-in-Apply.ensures.value) in
    omega (arith, c.max-in-Apply.ensures, c.operands_of_exprs.ensures)
