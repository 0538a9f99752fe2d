use Rattle.links.proofs.Prelude.{◌≡◌, ◌∙◌, ◌<◌, length, rules}
use Rattle.links.proofs.Leaving.{leaves-at, same-process}
use Rattle.links.proofs.entries.leave.Goals as goal
use Rattle.links.proofs.entries.leave.Goals.{then-loop-place-test+else-deref-place, else-loop-place-test}

pub returns-then-place-len : goal.returns-then-place-len
returns-then-place-len c =
    let inside : c.loop-place.place < length c.args.entries.now.items = search rules in
    let same : c.remove.result.process.0 ≡ c.args.process.0 = elim c.loop-place-test.branch [
      | then-loop-place-test+else-deref-place w ↦ same-process _ _ _ _ _ _ inside w.deref.ensures.0 c.remove.ensures.value w.if-deref-place.false
      | else-loop-place-test w ↦ search rules
    ] in
    c.remove.ensures.items ∙ leaves-at c.args.process.0 c.loop-place.place c.remove.result c.args.entries.now.items inside c.remove.ensures.value same c.requires c.loop-place.invariant.1
