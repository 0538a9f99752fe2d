use Rattle.std.proofs.Common.{◌+◌, ◌∷◌, ◌++◌, [], ap, sym, ◌∙◌, append_assoc, drop}
use Rattle.pal_meaning.specs.BodyCosts as cost
use Rattle.engine_meaning.specs.Operators as operators
use Rattle.pal_base.specs.Costs.{comes_to}
use Rattle.pal_base.specs.ProgramView.{expr_of, exprs_of, links_of}
use Rattle.pal_base.proofs.Costs.{goes_on, next_of}
use Rattle.pal_base.proofs.ProgramRows.{seen_apply, seen_chain}
use Rattle.pal_base.proofs.cost.+cost_of_expr.Goals as goal

pub cost_of_expr-returns-in-Chain : goal.cost_of_expr-returns-in-Chain
cost_of_expr-returns-in-Chain t c =
    let seen = seen_chain _ _ _ _ _ c.in-Chain.is c.deref-in-Chain.ensures c.deref-in-Chain-2.ensures.value in
    c.plus.ensures (cost.costs_of_expr c.args.costs.now (expr_of c.deref-in-Chain.result.now)) (cost.costs_of_links c.args.costs.now (links_of c.deref-in-Chain-2.result.now)) c.cost_of_expr-in-Chain.ensures c.cost_of_links.ensures ∙ ap (λ e. comes_to (cost.costs_of_expr c.args.costs.now e)) (sym seen)

pub cost_of_expr-returns-in-Apply : goal.cost_of_expr-returns-in-Apply
cost_of_expr-returns-in-Apply t c =
    let seen = seen_apply _ _ _ _ c.in-Apply.is c.deref-in-Apply.ensures.value in
    c.and-in-Apply.ensures (cost.costs_of_exprs c.args.costs.now (exprs_of c.deref-in-Apply.result.now)) c.cost_of_exprs.ensures ∙ ap (λ e. comes_to (cost.costs_of_expr c.args.costs.now e)) (sym seen)

pub cost_of_exprs-loop-expr-preserved : goal.cost_of_exprs-loop-expr-preserved
cost_of_exprs-loop-expr-preserved t c =
    let i = c.loop-expr.expr-index in
    let rest = cost.costs_of_exprs c.args.costs.now (exprs_of (drop (i + 1) c.args.exprs.now)) in
    let next = next_of (λ es. cost.costs_of_exprs c.args.costs.now (exprs_of es)) c.args.exprs.now i c.expr-item.result c.loop-expr-test.true c.expr-item.is in
    goes_on _ _ _ (cost.costs_of_expr c.args.costs.now (expr_of c.expr-item.result)) rest _ _ c.plus-cost.ensures c.cost_of_expr.ensures next c.loop-expr.invariant

pub cost_of_links-loop-link-preserved : goal.cost_of_links-loop-link-preserved
cost_of_links-loop-link-preserved t c =
    let i = c.loop-link.link-index in
    let link = c.link-item.result in
    let rest = cost.costs_of_links c.args.costs.now (links_of (drop (i + 1) c.args.links.now)) in
    let next = next_of (λ ls. cost.costs_of_links c.args.costs.now (links_of ls)) c.args.links.now i link c.loop-link-test.true c.link-item.is in
    let item = cost.costs_of_expr c.args.costs.now (expr_of link.operand) ++ (operators.cost_of_binary c.args.costs.now link.operator ∷ []) in
    goes_on _ _ _ item rest _ _ c.plus-cost.ensures c.cost_of_link.ensures (next ∙ sym (append_assoc (cost.costs_of_expr c.args.costs.now (expr_of link.operand)) (operators.cost_of_binary c.args.costs.now link.operator ∷ []) rest)) c.loop-link.invariant
