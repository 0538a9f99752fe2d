use Rattle.std.proofs.Common.{ap, arith}
use Rattle.pal_base.proofs.ProgramRows.{seen_if, seen_if_else, seen_while}
use Rattle.lint.specs.Stacks.{words_of_stmt}
use Rattle.lint.proofs.stacks.+words_of_stmt.Goals as goal

pub words_of_stmt-returns-in-If : goal.words_of_stmt-returns-in-If
words_of_stmt-returns-in-If t c =
    let seen = ap (words_of_stmt c.args.known.now) (seen_if _ _ _ _ c.in-If.is c.deref.ensures.value) in
    omega (arith, c.max-in-If.ensures, c.words_of_expr-in-If.ensures, c.words_of_block.ensures)

pub words_of_stmt-returns-in-While : goal.words_of_stmt-returns-in-While
words_of_stmt-returns-in-While t c =
    let seen = ap (words_of_stmt c.args.known.now) (seen_while _ _ _ _ c.in-While.is c.deref-in-While.ensures.value) in
    omega (arith, c.max-in-While.ensures, c.words_of_expr-in-While.ensures, c.words_of_block-in-While.ensures)

pub words_of_stmt-returns-in-IfElse : goal.words_of_stmt-returns-in-IfElse
words_of_stmt-returns-in-IfElse t c =
    let seen = ap (words_of_stmt c.args.known.now) (seen_if_else _ _ _ _ _ _ c.in-IfElse.is c.deref-in-IfElse.ensures.value c.deref-in-IfElse-2.ensures.value) in
    omega (arith, c.max-in-IfElse.ensures, c.max-in-IfElse-2.ensures, c.words_of_expr-in-IfElse.ensures, c.words_of_block-in-IfElse.ensures, c.words_of_block-in-IfElse-2.ensures)
