use Rattle.links.proofs.Prelude.{rules, ◌<◌, arith, slice_index}
use Rattle.links.proofs.FirstMark.{lowest}
use Rattle.links.proofs.marks.first.Goals as goal
use Rattle.links.proofs.marks.first.Goals.{then-loop-word-test+else-marks-word-eq0, else-loop-word-test}

pub returns-then-word-lt4 : goal.returns-then-word-lt4
returns-then-word-lt4 c =
    let some : 0 < slice_index c.args.marks.now c.loop-word.word = elim c.loop-word-test.branch [ then-loop-word-test+else-marks-word-eq0 w ↦ let other = w.if-marks-word-eq0.false in omega arith | else-loop-word-test w ↦ let past = w.loop-word-test.false in omega (arith, c.if-word-lt4.true) ] in
    lowest c.args.marks.now c.loop-word.word c.loop-word.invariant.1 some (search (rules, c.type_inv.marks))
