use Rattle.window_table.proofs.MemberWalks.{texts-stop, texts-go, texts-end}
use Rattle.window_table.proofs.members.has_texts_only.Goals as goal

pub returns-then-not-is_str : goal.returns-then-not-is_str
returns-then-not-is_str c = texts-stop _ _ _ _ c.loop-value.invariant.2 c.in-Some.ensures.steps (c.if-not-is_str.ensures)

pub loop-value-preserved : goal.loop-value-preserved
loop-value-preserved c = (tt, tt, texts-go _ _ _ _ c.loop-value.invariant.2 c.in-Some.ensures.steps (c.if-not-is_str.ensures))

pub returns : goal.returns
returns c = texts-end _ _ c.loop-value.invariant.2 c.in-None.ensures.steps.0
