use Rattle.std.proofs.Common.{ap, arith}
use Rattle.pal_base.proofs.ProgramRows.{seen_apply, seen_chain}
use Rattle.lint.specs.Stacks.{words_of_expr}
use Rattle.lint.proofs.stacks.+words_of_expr.Goals as goal

pub words_of_expr-returns-in-Chain : goal.words_of_expr-returns-in-Chain
words_of_expr-returns-in-Chain t c =
    let seen = ap (words_of_expr c.args.known.now) (seen_chain _ _ _ _ _ c.in-Chain.is c.deref-in-Chain.ensures c.deref-in-Chain-2.ensures.value) in
    omega (arith, c.max.ensures, c.words_of_expr-in-Chain.ensures, c.words_of_links.ensures)

pub words_of_expr-returns-in-Apply : goal.words_of_expr-returns-in-Apply
words_of_expr-returns-in-Apply t c =
    let seen = ap (words_of_expr c.args.known.now) (seen_apply _ _ _ _ c.in-Apply.is c.deref-in-Apply.ensures.value) in
    omega (arith, c.called.ensures, c.max-in-Apply.ensures, c.max-in-Apply-2.ensures, c.words_of_exprs.ensures)
