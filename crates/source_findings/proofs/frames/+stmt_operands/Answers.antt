use Rattle.std.proofs.Common.{ap, arith}
use Rattle.pal.proofs.SyntaxRows.{seen_if, seen_if_else, seen_while}
use Rattle.source_findings.specs.Frames as spec
use Rattle.source_findings.proofs.frames.+stmt_operands.Goals as goal

pub stmt_operands-returns-in-If : goal.stmt_operands-returns-in-If
stmt_operands-returns-in-If t c = λ names.
    let seen = ap spec.stmt_operands (seen_if names _ _ _ _ c.in-If.is c.deref.ensures.value) in
    omega (arith, c.max-in-If.ensures, c.expr_operands-in-If.ensures names, c.block_operands.ensures names)

pub stmt_operands-returns-in-While : goal.stmt_operands-returns-in-While
stmt_operands-returns-in-While t c = λ names.
    let seen = ap spec.stmt_operands (seen_while names _ _ _ _ c.in-While.is c.deref-in-While.ensures.value) in
    omega (arith, c.max-in-While.ensures, c.expr_operands-in-While.ensures names, c.block_operands-in-While.ensures names)

pub stmt_operands-returns-in-IfElse : goal.stmt_operands-returns-in-IfElse
stmt_operands-returns-in-IfElse t c = λ names.
    let seen = ap spec.stmt_operands (seen_if_else names _ _ _ _ _ _ c.in-IfElse.is c.deref-in-IfElse.ensures.value c.deref-in-IfElse-2.ensures.value) in
    omega (arith, c.max-in-IfElse.ensures, c.max-in-IfElse-2.ensures, c.expr_operands-in-IfElse.ensures names, c.block_operands-in-IfElse.ensures names, c.block_operands-in-IfElse-2.ensures names)
