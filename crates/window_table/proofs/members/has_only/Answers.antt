use Rattle.window_table.proofs.MemberWalks.{only-stops, only-goes, only-ends}
use Rattle.window_table.specs.Keys.{is_key}
use Rattle.window_table.proofs.members.has_only.Goals as goal

pub returns-then-not-has_key : goal.returns-then-not-has_key
returns-then-not-has_key c = only-stops (is_key c.args.part) _ _ _ _ _ c.loop-key.invariant.2 c.in-Some.ensures.steps c.as_str.ensures.value (c.if-not-has_key.ensures)

pub loop-key-preserved : goal.loop-key-preserved
loop-key-preserved c = (tt, tt, only-goes (is_key c.args.part) _ _ _ _ _ c.loop-key.invariant.2 c.in-Some.ensures.steps c.as_str.ensures.value (c.if-not-has_key.ensures))

pub returns : goal.returns
returns c = only-ends (is_key c.args.part) _ _ c.loop-key.invariant.2 c.in-None.ensures.steps.0
