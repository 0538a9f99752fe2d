use Rattle.std.proofs.Common.{◌≡◌, drop, map}
use Rattle.pal_base.specs.View.{integer_of}
use Rattle.source_findings.specs.Bodies as spec
use Rattle.source_findings.specs.Views.{judge_of, state_of}
use Rattle.source_findings.proofs.declarations.words.Given as goal

abbrev pub invariant-loop-number : goal.invariant-loop-number
invariant-loop-number l =
    spec.words (judge_of l.judge) (map integer_of (drop l.number-index l.numbers)) (state_of l.walk) ≡ spec.words (judge_of l.judge) (map integer_of l.numbers) (state_of l.fn.walk)
