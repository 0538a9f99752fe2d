use Rattle.std.proofs.Common.{◌+◌, ◌++◌, ◌∷◌, ap, sym, ◌∙◌, drop}
use Rattle.pal_meaning.specs.BodyCosts as cost
use Rattle.pal_base.specs.Costs.{comes_to}
use Rattle.pal_base.specs.ProgramView.{expr_of, stmt_of, block_of}
use Rattle.pal_base.proofs.Costs.{goes_on, next_of}
use Rattle.pal_base.proofs.ProgramRows.{seen_if, seen_if_else, seen_while}
use Rattle.pal_base.proofs.cost.+cost_of_stmt.Goals as goal

pub cost_of_stmt-returns-in-If : goal.cost_of_stmt-returns-in-If
cost_of_stmt-returns-in-If t c =
    let seen = seen_if _ _ _ _ c.in-If.is c.deref.ensures.value in
    c.joined_by.ensures (cost.costs_of_expr c.args.costs.now (expr_of c.in-If.test)) (cost.costs_of_block c.args.costs.now (block_of c.deref.result.now)) c.cost_of_expr-in-If.ensures c.cost_of_block.ensures ∙ ap (λ s. comes_to (cost.costs_of_stmt c.args.costs.now s)) (sym seen)

pub cost_of_stmt-returns-in-IfElse : goal.cost_of_stmt-returns-in-IfElse
cost_of_stmt-returns-in-IfElse t c =
    let seen = seen_if_else _ _ _ _ _ _ c.in-IfElse.is c.deref-in-IfElse.ensures.value c.deref-in-IfElse-2.ensures.value in
    let test = cost.costs_of_expr c.args.costs.now (expr_of c.in-IfElse.test) in
    let block = cost.costs_of_block c.args.costs.now (block_of c.deref-in-IfElse.result.now) in
    let first = c.joined_by-in-IfElse.ensures test block c.cost_of_expr-in-IfElse.ensures c.cost_of_block-in-IfElse.ensures in
    c.joined_by-in-IfElse-2.ensures (test ++ c.args.costs.now.branch.ticks ∷ block) (cost.costs_of_block c.args.costs.now (block_of c.deref-in-IfElse-2.result.now)) first c.cost_of_block-in-IfElse-2.ensures ∙ ap (λ s. comes_to (cost.costs_of_stmt c.args.costs.now s)) (sym seen)

pub cost_of_stmt-returns-in-While : goal.cost_of_stmt-returns-in-While
cost_of_stmt-returns-in-While t c =
    let seen = seen_while _ _ _ _ c.in-While.is c.deref-in-While.ensures.value in
    let test = cost.costs_of_expr c.args.costs.now (expr_of c.in-While.test) in
    let block = cost.costs_of_block c.args.costs.now (block_of c.deref-in-While.result.now) in
    let first = c.joined_by-in-While.ensures test block c.cost_of_expr-in-While.ensures c.cost_of_block-in-While.ensures in
    c.and-in-While.ensures (test ++ c.args.costs.now.branch.ticks ∷ block) first ∙ ap (λ s. comes_to (cost.costs_of_stmt c.args.costs.now s)) (sym seen)

pub cost_of_block-loop-stmt-preserved : goal.cost_of_block-loop-stmt-preserved
cost_of_block-loop-stmt-preserved t c =
    let i = c.loop-stmt.stmt-index in
    let rest = cost.costs_of_block c.args.costs.now (block_of (drop (i + 1) c.args.block.now)) in
    let next = next_of (λ ss. cost.costs_of_block c.args.costs.now (block_of ss)) c.args.block.now i c.stmt-item.result c.loop-stmt-test.true c.stmt-item.is in
    goes_on _ _ _ (cost.costs_of_stmt c.args.costs.now (stmt_of c.stmt-item.result)) rest _ _ c.plus-cost.ensures c.cost_of_stmt.ensures next c.loop-stmt.invariant
