use Rattle.pal_base.specs.View.{texts}
use Rattle.lint.specs.Views.{mentions_seen}
use Rattle.lint.proofs.Naming.{in_apply, in_chain}
use Rattle.lint.proofs.mentions.+expression_mentions.Goals as goal

pub add_expression-returns-in_ok-add_mention-in-Apply : goal.add_expression-returns-in_ok-add_mention-in-Apply
add_expression-returns-in_ok-add_mention-in-Apply t c =
    let names = texts c.args.names.now.keys in
    in_apply names c.add_expressions.result (mentions_seen names c.args.mentions.now.items) _ (mentions_seen names c.add_expressions.new.mentions.items) c.args.expression.now _ _ _ c.in-Apply.is c.as_slice-arguments.ensures.value c.in_ok-add_mention-in-Apply.ensures c.add_expressions.ensures

pub add_expression-returns-in_ok-add_expression-in-Chain : goal.add_expression-returns-in_ok-add_expression-in-Chain
add_expression-returns-in_ok-add_expression-in-Chain t c =
    let names = texts c.args.names.now.keys in
    in_chain names c.add_links.result (mentions_seen names c.args.mentions.now.items) _ (mentions_seen names c.add_links.new.mentions.items) c.args.expression.now _ _ _ _ c.in-Chain.is c.deref-in-Chain.ensures c.deref-in-Chain-2.ensures.value c.in_ok-add_expression-in-Chain.ensures c.add_links.ensures
