use Rattle.std.proofs.Common.{refl}
use Rattle.finding_lines.specs.Views.{owned_path, owned_step}
use Rattle.finding_lines.proofs.Steps.{all_made, one_more}
use Rattle.finding_lines.proofs.path.copied.Goals as goal

pub loop-step-preserved : goal.loop-step-preserved
loop-step-preserved c =
    one_more owned_step owned_step c.args.path.now c.loop-step.step-index c.step-item.result c.loop-step.copy.items _ c.in_ok-copied_step.field-0 _ c.loop-step-test.true c.step-item.is c.in_ok-push.ensures.items
    c.in_ok-copied_step.ensures c.loop-step.invariant

pub returns : goal.returns
returns c = all_made owned_path c.args.path.now c.loop-step.step-index (owned_path c.loop-step.copy.items) _ refl c.loop-step-test.false c.loop-step.invariant
