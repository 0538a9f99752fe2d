use Rattle.std.proofs.Common.{None, option_map}
use Rattle.pal_base.specs.View.{block_of, texts}
use Rattle.lint.specs.Calls.{calls_behind}
use Rattle.lint.specs.Views.{calls_seen, created_of, scope_of}
use Rattle.lint.proofs.Blocks.{both_add, in_if, in_if_else, in_while}
use Rattle.lint.proofs.calls.+block_calls.Goals as goal

pub add_statement-returns-in-If : goal.add_statement-returns-in-If
add_statement-returns-in-If t c =
    let names = texts c.args.names.now.keys in
    in_if names (scope_of names c.args.scope.now) (option_map (created_of names) c.args.created) c.add_block.result (calls_seen names c.args.calls.now.items) (calls_seen names c.add_block.new.calls.items) c.args.statement.now.kind _ _ _ c.in-If.is c.deref.ensures.value c.add_block.ensures

pub add_statement-returns-in-While : goal.add_statement-returns-in-While
add_statement-returns-in-While t c =
    let names = texts c.args.names.now.keys in
    in_while names (scope_of names c.args.scope.now) (option_map (created_of names) c.args.created) c.add_block-in-While.result (calls_seen names c.args.calls.now.items) (calls_seen names c.add_block-in-While.new.calls.items) c.args.statement.now.kind _ _ _ c.in-While.is c.deref-in-While.ensures.value c.add_block-in-While.ensures

pub add_statement-returns-in_ok-add_block-in-IfElse : goal.add_statement-returns-in_ok-add_block-in-IfElse
add_statement-returns-in_ok-add_block-in-IfElse t c =
    let names = texts c.args.names.now.keys in
    in_if_else names (scope_of names c.args.scope.now) (option_map (created_of names) c.args.created) c.add_block-in-IfElse-2.result (calls_seen names c.args.calls.now.items) (calls_seen names c.add_block-in-IfElse-2.new.calls.items) c.args.statement.now.kind _ _ _ _ _ c.in-IfElse.is c.deref-in-IfElse.ensures.value c.deref-in-IfElse-2.ensures.value
    (both_add c.add_block-in-IfElse-2.result (calls_seen names c.args.calls.now.items) _ _ (calls_behind (scope_of names c.args.scope.now) None (block_of names c.deref-in-IfElse.result.now)) (calls_behind (scope_of names c.args.scope.now) None (block_of names c.deref-in-IfElse-2.result.now)) c.in_ok-add_block-in-IfElse.ensures c.add_block-in-IfElse-2.ensures)
