use Rattle.std.proofs.Common.{◌∙◌, ap, sym}
use Rattle.pal_meaning.specs.Program as tree
use Rattle.pal_meaning.specs.Resolve.{resolve_expr, resolve_stmt, resolve_block}
use Rattle.pal_base.specs.View as view
use Rattle.pal_base.specs.ProgramView.{block_of}
use Rattle.pal.specs.Scopes.{names_of, sees}
use Rattle.pal.proofs.SyntaxRows.{seen_if, seen_while, seen_if_else}
use Rattle.pal_base.proofs.ProgramRows.{view_if, view_while, view_if_else}
use Rattle.pal.proofs.Resolved.{block_step, block_done}
use Rattle.pal.proofs.resolving.+resolve_statement.Goals as goal

pub resolve_statement-returns-in_ok-then-in-If : goal.resolve_statement-returns-in_ok-then-in-If
resolve_statement-returns-in_ok-then-in-If t c =
    let names = names_of c.args.scope.now in
    let scope = sees c.args.scope.now in
    let seen = ap (resolve_stmt scope) (seen_if names _ _ _ _ c.in-If.is c.deref.ensures.value) in
    view_if c.in_ok-test-in-If.test c.in_ok-then-in-If.then
    ∙ ap (λ e. tree.If e (block_of c.in_ok-then-in-If.then.items)) c.in_ok-test-in-If.ensures
    ∙ ap (λ b. tree.If (resolve_expr scope (view.expr_of names c.in-If.test)) b) c.in_ok-then-in-If.ensures
    ∙ sym seen

pub resolve_statement-returns-in_ok-other-in-IfElse : goal.resolve_statement-returns-in_ok-other-in-IfElse
resolve_statement-returns-in_ok-other-in-IfElse t c =
    let names = names_of c.args.scope.now in
    let scope = sees c.args.scope.now in
    let seen = ap (resolve_stmt scope) (seen_if_else names _ _ _ _ _ _ c.in-IfElse.is c.deref-in-IfElse.ensures.value c.deref-in-IfElse-2.ensures.value) in
    let test = resolve_expr scope (view.expr_of names c.in-IfElse.test) in
    let then_block = resolve_block scope (view.block_of names c.deref-in-IfElse.result.now) in
    view_if_else c.in_ok-test-in-IfElse.test c.in_ok-then-in-IfElse.then c.in_ok-other-in-IfElse.other
    ∙ ap (λ e. tree.IfElse e (block_of c.in_ok-then-in-IfElse.then.items) (block_of c.in_ok-other-in-IfElse.other.items)) c.in_ok-test-in-IfElse.ensures
    ∙ ap (λ b. tree.IfElse test b (block_of c.in_ok-other-in-IfElse.other.items)) c.in_ok-then-in-IfElse.ensures
    ∙ ap (λ b. tree.IfElse test then_block b) c.in_ok-other-in-IfElse.ensures
    ∙ sym seen

pub resolve_statement-returns-in_ok-block-in-While : goal.resolve_statement-returns-in_ok-block-in-While
resolve_statement-returns-in_ok-block-in-While t c =
    let names = names_of c.args.scope.now in
    let scope = sees c.args.scope.now in
    let seen = ap (resolve_stmt scope) (seen_while names _ _ _ _ c.in-While.is c.deref-in-While.ensures.value) in
    view_while c.in_ok-test-in-While.test c.in_ok-block-in-While.block
    ∙ ap (λ e. tree.While e (block_of c.in_ok-block-in-While.block.items)) c.in_ok-test-in-While.ensures
    ∙ ap (λ b. tree.While (resolve_expr scope (view.expr_of names c.in-While.test)) b) c.in_ok-block-in-While.ensures
    ∙ sym seen

pub resolve_block-loop-statement-preserved : goal.resolve_block-loop-statement-preserved
resolve_block-loop-statement-preserved t c =
    block_step (names_of c.args.scope.now) (sees c.args.scope.now) c.args.block.now c.loop-statement.statement-index c.statement-item.result c.loop-statement.statements.items c.push.new.self.items
    (c.in_ok-resolve_statement).field-0 (resolve_block (sees c.args.scope.now) (view.block_of (names_of c.args.scope.now) c.args.block.now)) c.loop-statement-test.true c.statement-item.is c.in_ok-push.ensures.items (c.in_ok-resolve_statement).ensures c.loop-statement.invariant

pub resolve_block-returns : goal.resolve_block-returns
resolve_block-returns t c = block_done (names_of c.args.scope.now) (sees c.args.scope.now) c.args.block.now c.loop-statement.statement-index c.loop-statement.statements.items (resolve_block (sees c.args.scope.now) (view.block_of (names_of c.args.scope.now) c.args.block.now)) c.loop-statement-test.false c.loop-statement.invariant
