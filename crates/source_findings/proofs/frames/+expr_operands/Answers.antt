use Rattle.std.proofs.Common.{ap, arith}
use Rattle.pal.proofs.SyntaxRows.{seen_apply, seen_chain}
use Rattle.source_findings.specs.Frames as spec
use Rattle.source_findings.proofs.frames.+expr_operands.Goals as goal

pub expr_operands-returns-in-Chain : goal.expr_operands-returns-in-Chain
expr_operands-returns-in-Chain t c = λ names.
    let seen = ap spec.expr_operands (seen_chain names _ _ _ _ _ c.in-Chain.is c.deref-in-Chain.ensures c.deref-in-Chain-2.ensures.value) in
    omega (arith, c.max-in-Chain.ensures, c.expr_operands-in-Chain.ensures names, c.links_operands.ensures names)

pub expr_operands-returns-in-Apply : goal.expr_operands-returns-in-Apply
expr_operands-returns-in-Apply t c = λ names.
    let seen = ap spec.expr_operands (seen_apply names _ _ _ _ c.in-Apply.is c.deref-in-Apply.ensures.value) in
    omega (arith, c.max.ensures, c.exprs_operands.ensures names)
