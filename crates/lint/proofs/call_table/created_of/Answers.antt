use Rattle.pal_base.specs.View.{texts}
use Rattle.lint.specs.Lives.{Creation, meets}
use Rattle.lint.specs.Views.{call_of}
use Rattle.lint.proofs.UsedNames.{no_more, one_more_item}
use Rattle.lint.proofs.call_table.created_of.Goals as goal

pub loop-call-preserved : goal.loop-call-preserved
loop-call-preserved c = λ name.
    one_more_item (call_of (texts c.args.names.now.keys)) (meets (Creation c.args.kind name)) c.args.calls.now c.loop-call.call-index c.call-item.result _ _ _ c.loop-call-test.true c.call-item.is (c.in_ok-add_created.ensures name) (c.loop-call.invariant name)

pub returns : goal.returns
returns c = λ name.
    no_more (call_of (texts c.args.names.now.keys)) (meets (Creation c.args.kind name)) c.args.calls.now c.loop-call.call-index _ _ c.loop-call-test.false (c.loop-call.invariant name)
