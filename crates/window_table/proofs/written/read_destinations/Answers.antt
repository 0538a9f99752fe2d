use Rattle.window_table.proofs.Reading.{no-text, one-text, no-texts-left, next-value, all-seen}
use Rattle.window_table.proofs.written.read_destinations.Goals as goal

pub returns-in_default : goal.returns-in_default
returns-in_default c = no-text (λ d. d.now) _ _ _ _ _ c.loop-value.invariant (next-value c.args.values.now c.loop-value.value-index c.value-item.result c.value-item.is c.loop-value-test.true) c.in_default.ensures

pub loop-value-preserved : goal.loop-value-preserved
loop-value-preserved c = one-text (λ d. d.now) _ _ _ _ _ _ _ _ c.loop-value.invariant (next-value c.args.values.now c.loop-value.value-index c.value-item.result c.value-item.is c.loop-value-test.true) c.in-Some.ensures c.if-is_err.ensures.value c.push.ensures.items

pub returns : goal.returns
returns c = no-texts-left (λ d. d.now) _ _ _ c.loop-value.invariant (all-seen c.args.values.now c.loop-value.value-index c.loop-value-test.false)
