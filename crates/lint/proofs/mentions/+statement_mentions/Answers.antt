use Rattle.pal_base.specs.View.{texts}
use Rattle.std.proofs.Common.{refl, ◌∙◌, arith}
use Rattle.lint.specs.Views.{mention_of, mentions_seen}
use Rattle.lint.proofs.Naming.{in_if, in_if_else, in_while, is_within, loop_added}
use Rattle.lint.proofs.mentions.+statement_mentions.Goals as goal

pub add_statement-returns-in_ok-add_test-in-If : goal.add_statement-returns-in_ok-add_test-in-If
add_statement-returns-in_ok-add_test-in-If t c =
    let names = texts c.args.names.now.keys in
    in_if names c.add_block.result (mentions_seen names c.args.mentions.now.items) _ (mentions_seen names c.add_block.new.mentions.items) c.args.statement.now _ _ _ c.in-If.is c.deref.ensures.value c.in_ok-add_test-in-If.ensures c.add_block.ensures

pub add_statement-add_endless-requires : goal.add_statement-add_endless-requires
add_statement-add_endless-requires t c =
    let names = texts c.args.names.now.keys in
    let within = is_within (mention_of names) c.add_test-in-While.new.mentions.items c.add_block-in-While.new.mentions.items _ c.in_ok-add_block-in-While.ensures in
    let before = c.len-before.ensures ∙ c.add_test-in-While.new.mentions.ok.0 in
    omega (arith, within, before)

pub add_statement-returns-in_ok-add_block-in-While : goal.add_statement-returns-in_ok-add_block-in-While
add_statement-returns-in_ok-add_block-in-While t c =
    let names = texts c.args.names.now.keys in
    in_while names c.add_endless.result (mentions_seen names c.args.mentions.now.items) _ (mentions_seen names c.add_endless.new.mentions.items) c.args.statement.now _ _ _ c.in-While.is c.deref-in-While.ensures.value c.in_ok-add_test-in-While.ensures
    (loop_added names c.add_endless.result c.len-before.result c.in-While.test c.add_test-in-While.new.mentions.items c.add_block-in-While.new.mentions.items _ (mentions_seen names c.add_endless.new.mentions.items) _ (c.len-before.ensures ∙ c.add_test-in-While.new.mentions.ok.0) refl c.in_ok-add_block-in-While.ensures c.add_endless.ensures)

pub add_statement-returns-in_ok-add_block-in-IfElse : goal.add_statement-returns-in_ok-add_block-in-IfElse
add_statement-returns-in_ok-add_block-in-IfElse t c =
    let names = texts c.args.names.now.keys in
    in_if_else names c.add_block-in-IfElse-2.result (mentions_seen names c.args.mentions.now.items) _ (mentions_seen names c.add_block-in-IfElse-2.new.mentions.items) c.args.statement.now _ _ _ _ _ _ c.in-IfElse.is c.deref-in-IfElse.ensures.value c.deref-in-IfElse-2.ensures.value c.in_ok-add_test-in-IfElse.ensures c.in_ok-add_block-in-IfElse.ensures c.add_block-in-IfElse-2.ensures
