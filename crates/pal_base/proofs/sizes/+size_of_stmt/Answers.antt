use Rattle.std.proofs.Common.{ap, arith}
use Rattle.pal_meaning.specs.Program as cost
use Rattle.pal_base.proofs.ProgramRows.{seen_if, seen_if_else, seen_while}
use Rattle.pal_base.proofs.sizes.+size_of_stmt.Goals as goal

pub size_of_stmt-returns-in-If : goal.size_of_stmt-returns-in-If
size_of_stmt-returns-in-If t c =
    let seen = ap cost.size_of_stmt (seen_if _ _ _ _ c.in-If.is c.deref.ensures.value) in
    omega (arith, c.saturating_add-in-If.ensures, c.saturating_add-in-If-2.ensures, c.size_of_expr-in-If.ensures, c.size_of_block.ensures)

pub size_of_stmt-returns-in-IfElse : goal.size_of_stmt-returns-in-IfElse
size_of_stmt-returns-in-IfElse t c =
    let seen = ap cost.size_of_stmt (seen_if_else _ _ _ _ _ _ c.in-IfElse.is c.deref-in-IfElse.ensures.value c.deref-in-IfElse-2.ensures.value) in
    omega (arith, c.saturating_add-in-IfElse.ensures, c.saturating_add-in-IfElse-2.ensures, c.saturating_add-in-IfElse-3.ensures, c.size_of_expr-in-IfElse.ensures, c.size_of_block-in-IfElse.ensures, c.size_of_block-in-IfElse-2.ensures)

pub size_of_stmt-returns-in-While : goal.size_of_stmt-returns-in-While
size_of_stmt-returns-in-While t c =
    let seen = ap cost.size_of_stmt (seen_while _ _ _ _ c.in-While.is c.deref-in-While.ensures.value) in
    omega (arith, c.saturating_add-in-While.ensures, c.saturating_add-in-While-2.ensures, c.size_of_expr-in-While.ensures, c.size_of_block-in-While.ensures)
