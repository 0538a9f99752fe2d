use Rattle.std.proofs.Common.{refl}
use Rattle.pal_base.specs.View.{texts}
use Rattle.lint.specs.DeclarationsView.{declared_in}
use Rattle.lint.specs.Does.{found_at_mention, found_at_mentions}
use Rattle.lint.specs.Views.{found_all, mention_of, mentions_seen}
use Rattle.lint.proofs.Adding.{all_added, item_goes_on}
use Rattle.lint.proofs.does.add_at_mentions.Goals as goal

pub loop-mention-preserved : goal.loop-mention-preserved
loop-mention-preserved c =
    let names = texts c.args.names.now.keys in
    item_goes_on (λ xs. found_at_mentions (declared_in c.args.declarations.now) (mentions_seen names xs)) (λ x. found_at_mention (declared_in c.args.declarations.now) (mention_of names x)) c.args.mentions.now c.loop-mention.mention-index c.mention-item.result (found_all c.loop-mention.findings.items)
    (found_all c.add_at_mention.new.findings.items) _ (λ y ys. refl) c.loop-mention-test.true c.mention-item.is c.in_ok-add_at_mention.ensures c.loop-mention.invariant

pub returns : goal.returns
returns c =
    let names = texts c.args.names.now.keys in
    all_added (λ xs. found_at_mentions (declared_in c.args.declarations.now) (mentions_seen names xs)) c.args.mentions.now c.loop-mention.mention-index (found_all c.loop-mention.findings.items) _ refl c.loop-mention-test.false c.loop-mention.invariant
