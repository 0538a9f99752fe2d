use Rattle.std.proofs.Common.{◌≡◌, ◌-◌, ◌+◌, ◌++◌, ◌∷◌, [], arith, ap, sym, ◌∙◌, pos, replicate, slice_set, to_z, of_z, w64}
use Rattle.std.proofs.lemmas.Int.{ints}
use Rattle.engine_meaning.specs.Operators.{put_words}
use Rattle.processor.proofs.Stack.{put_saved}
use Rattle.processor.proofs.calls.save.Goals as goal

pub returns : goal.returns
returns c =
    let r = c.args.routine.now in
    let s = c.args.stack.now in
    let p = c.args.frame + r.parameters in
    let n = r.slots - r.parameters in
    let k = c.args.frame + c.from.result in
    let a = to_z w64 (of_z w64 c.from-3.result) in
    let b = to_z w64 (of_z w64 c.from-4.result) in
    let a_is : a ≡ pos c.args.next = omega (arith, ints, c.from-3.ensures) in
    let b_is : b ≡ pos c.args.caller = omega (arith, ints, c.from-4.ensures) in
    let there : p + n ≡ k = omega (arith, c.from.ensures, c.requires.fits.parameters) in
    let many : k - p ≡ n = omega (arith, there) in
    let zeros = put_words s p (replicate n (pos 0)) in
    let cleared : c.clear.new.stack ≡ zeros =
    c.clear.ensures
    ∙ ap (λ q. put_words s (c.args.frame + q) (replicate (k - (c.args.frame + q)) (pos 0))) c.from-2.ensures
    ∙ ap (λ m. put_words s p (replicate m (pos 0))) many in
    c.set-2.ensures
    ∙ ap (λ t. slice_set t (k + 1) b) (c.set.ensures ∙ ap (λ t. slice_set t k a) cleared)
    ∙ sym (put_saved s p k n a b there)
    ∙ ap (λ v. put_words s p (replicate n (pos 0) ++ v ∷ b ∷ [])) a_is
    ∙ ap (λ v. put_words s p (replicate n (pos 0) ++ pos c.args.next ∷ v ∷ [])) b_is
