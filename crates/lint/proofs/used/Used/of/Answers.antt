use Rattle.std.proofs.Common.{◌∙◌}
use Rattle.pal_base.specs.View.{texts}
use Rattle.lint.specs.Mentions.{is_mentioned}
use Rattle.lint.specs.Views.{mention_of, mentions_seen}
use Rattle.lint.proofs.UsedNames.{no_more, one_more_item, by_names}
use Rattle.lint.proofs.used.Used.of.Goals as goal

pub loop-mention-preserved : goal.loop-mention-preserved
loop-mention-preserved c = λ q.
    one_more_item (mention_of (texts c.args.names.now.keys)) (is_mentioned q) c.args.mentions.now c.loop-mention.mention-index c.mention-item.result _ _ _ c.loop-mention-test.true c.mention-item.is (c.in_ok-add_mention.ensures q) (c.loop-mention.invariant q)

pub returns : goal.returns
returns c = λ q.
    let names = texts c.args.names.now.keys in
    no_more (mention_of names) (is_mentioned q) c.args.mentions.now c.loop-mention.mention-index _ _ c.loop-mention-test.false (c.loop-mention.invariant q)
    ∙ by_names q (mentions_seen names c.args.mentions.now)
