use Rattle.std.proofs.Common.{rules, ◌≡◌, ◌-◌, ◌+◌, ◌++◌, ◌∷◌, [], arith, ap, sym, ◌∙◌, length, length-append, to_z, of_z, w64}
use Rattle.machine_meaning.specs.MachineControl.{popped, word}
use Rattle.processor.proofs.Stack.{popped_more}
use Rattle.processor.proofs.calls.popped.Goals as goal

pub loop-place-preserved : goal.loop-place-preserved
loop-place-preserved c =
    let i = c.loop-place.invariant in
    let s = c.args.memory.now.stack in
    let p = c.loop-place.place in
    let n = p - c.args.from in
    let m = p + 1 - c.args.from in
    let one_more : m ≡ n + 1 = omega (arith, i.from) in
    let w = to_z w64 (of_z w64 c.stack_word.result) in
    let w_is : w ≡ word s p = search (rules, c.stack_word.ensures) in
    let pushed : c.push.new.self.items ≡ c.loop-place.words.items ++ w ∷ [] = c.push.ensures.items in
    record {
      words = pushed ∙ ap (λ ws. ws ++ w ∷ []) i.words ∙ ap (λ v. popped n s p [] ++ v ∷ []) w_is ∙ sym (popped_more n m s p one_more);
      count = ap length pushed ∙ length-append c.loop-place.words.items (w ∷ []) ∙ omega (arith, i.count, one_more);
      from = omega (arith, i.from);
    }
