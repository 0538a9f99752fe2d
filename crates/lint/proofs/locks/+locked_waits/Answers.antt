use Rattle.pal_base.specs.View.{block_of, texts}
use Rattle.lint.specs.Locks.{waits_while_locked}
use Rattle.lint.specs.Views.{found_all}
use Rattle.lint.proofs.Blocks.{both_add}
use Rattle.lint.proofs.LockedBlocks.{in_if, in_if_else, in_while}
use Rattle.lint.proofs.locks.+locked_waits.Goals as goal

pub add_statement-returns-in-If : goal.add_statement-returns-in-If
add_statement-returns-in-If t c =
    let names = texts c.args.names.now.keys in
    in_if names c.args.locked c.add_block.result (found_all c.args.findings.now.items) (found_all c.add_block.new.findings.items) c.args.statement.now.kind _ _ _ c.in-If.is c.deref.ensures.value c.add_block.ensures

pub add_statement-returns-in-While : goal.add_statement-returns-in-While
add_statement-returns-in-While t c =
    let names = texts c.args.names.now.keys in
    in_while names c.args.locked c.add_block-in-While.result (found_all c.args.findings.now.items) (found_all c.add_block-in-While.new.findings.items) c.args.statement.now.kind _ _ _ c.in-While.is c.deref-in-While.ensures.value c.add_block-in-While.ensures

pub add_statement-returns-in_ok-add_block-in-IfElse : goal.add_statement-returns-in_ok-add_block-in-IfElse
add_statement-returns-in_ok-add_block-in-IfElse t c =
    let names = texts c.args.names.now.keys in
    in_if_else names c.args.locked c.add_block-in-IfElse-2.result (found_all c.args.findings.now.items) (found_all c.add_block-in-IfElse-2.new.findings.items) c.args.statement.now.kind _ _ _ _ _ c.in-IfElse.is c.deref-in-IfElse.ensures.value c.deref-in-IfElse-2.ensures.value
    (both_add c.add_block-in-IfElse-2.result (found_all c.args.findings.now.items) _ _ (waits_while_locked c.args.locked (block_of names c.deref-in-IfElse.result.now)) (waits_while_locked c.args.locked (block_of names c.deref-in-IfElse-2.result.now)) c.in_ok-add_block-in-IfElse.ensures c.add_block-in-IfElse-2.ensures)
