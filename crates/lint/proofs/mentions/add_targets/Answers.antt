use Rattle.std.proofs.Common.{option_map, arith}
use Rattle.pal_base.specs.View.{texts}
use Rattle.lint.specs.Views.{mentions_seen, plain_of}
use Rattle.lint.proofs.Naming.{target_goes_on}
use Rattle.lint.proofs.mentions.add_targets.Goals as goal

pub loop-target-preserved : goal.loop-target-preserved
loop-target-preserved c =
    let names = texts c.args.names.now.keys in
    let l = c.loop-target in
    record {
      counted = omega (arith, l.invariant.counted);
      left = target_goes_on names c.args.service (option_map (plain_of names) c.args.argument) c.args.targets.now l.target-index l.place _ _ (mentions_seen names l.mentions.items) (mentions_seen names c.add_mention.new.mentions.items) _ c.loop-target-test.true (c.thing_at-thing.ensures names) c.in_ok-add_mention.ensures l.invariant.left;
    }
