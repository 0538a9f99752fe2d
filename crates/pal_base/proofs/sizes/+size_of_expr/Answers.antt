use Rattle.std.proofs.Common.{ap, arith}
use Rattle.pal_meaning.specs.Program as cost
use Rattle.pal_base.proofs.ProgramRows.{seen_apply, seen_chain}
use Rattle.pal_base.proofs.sizes.+size_of_expr.Goals as goal

pub size_of_expr-returns-in-Chain : goal.size_of_expr-returns-in-Chain
size_of_expr-returns-in-Chain t c =
    let seen = ap cost.size_of_expr (seen_chain _ _ _ _ _ c.in-Chain.is c.deref-in-Chain.ensures c.deref-in-Chain-2.ensures.value) in
    omega (arith, c.saturating_add-in-Chain.ensures, c.size_of_expr-in-Chain.ensures, c.size_of_links.ensures)

pub size_of_expr-returns-in-Apply : goal.size_of_expr-returns-in-Apply
size_of_expr-returns-in-Apply t c =
    let seen = ap cost.size_of_expr (seen_apply _ _ _ _ c.in-Apply.is c.deref-in-Apply.ensures.value) in
    omega (arith, c.saturating_add-in-Apply.ensures, c.size_of_exprs.ensures)
