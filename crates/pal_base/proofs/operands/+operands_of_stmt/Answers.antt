use Rattle.std.proofs.Common.{ap, arith}
use Rattle.pal_meaning.specs.Program as cost
use Rattle.pal_base.proofs.ProgramRows.{seen_if, seen_if_else, seen_while}
use Rattle.pal_base.proofs.operands.+operands_of_stmt.Goals as goal

pub operands_of_stmt-returns-in-If : goal.operands_of_stmt-returns-in-If
operands_of_stmt-returns-in-If t c =
    let seen = ap cost.operands_of_stmt (seen_if _ _ _ _ c.in-If.is c.deref.ensures.value) in
    omega (arith, c.max-in-If.ensures, c.operands_of_expr-in-If.ensures, c.operands_of_block.ensures)

pub operands_of_stmt-returns-in-While : goal.operands_of_stmt-returns-in-While
operands_of_stmt-returns-in-While t c =
    let seen = ap cost.operands_of_stmt (seen_while _ _ _ _ c.in-While.is c.deref-in-While.ensures.value) in
    omega (arith, c.max-in-While.ensures, c.operands_of_expr-in-While.ensures, c.operands_of_block-in-While.ensures)

pub operands_of_stmt-returns-in-IfElse : goal.operands_of_stmt-returns-in-IfElse
operands_of_stmt-returns-in-IfElse t c =
    let seen = ap cost.operands_of_stmt (seen_if_else _ _ _ _ _ _ c.in-IfElse.is c.deref-in-IfElse.ensures.value c.deref-in-IfElse-2.ensures.value) in
    omega (arith, c.max-in-IfElse.ensures, c.max-in-IfElse-2.ensures, c.operands_of_expr-in-IfElse.ensures, c.operands_of_block-in-IfElse.ensures, c.operands_of_block-in-IfElse-2.ensures)
