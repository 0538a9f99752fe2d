use Rattle.std.proofs.Common.{◌≡◌, ◌-◌, ◌+◌, arith, ap, sym, ◌∙◌, pos, replicate}
use Rattle.engine_meaning.specs.Operators.{put_words}
use Rattle.processor.proofs.Stack.{put_zero}
use Rattle.processor.proofs.calls.clear.Goals as goal

pub loop-place-preserved : goal.loop-place-preserved
loop-place-preserved c =
    let p = c.loop-place.place in
    let left = c.args.to - (p + 1) in
    let one_less : c.args.to - p ≡ left + 1 = omega (arith, c.loop-place-test.true) in
    ap (λ s. put_words s (p + 1) (replicate left (pos 0))) c.set.ensures
    ∙ sym (put_zero c.loop-place.stack p (c.args.to - p) left one_less)
    ∙ c.loop-place.invariant
