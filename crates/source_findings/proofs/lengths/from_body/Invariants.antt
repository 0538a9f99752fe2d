use Rattle.std.proofs.Common.{◌≡◌, length}
use Rattle.pal_meaning.specs.Lines.{from_word}
use Rattle.source_findings.specs.Lengths.{from_body}
use Rattle.source_findings.proofs.lengths.from_body.Given as goal

abbrev pub invariant-loop-left : goal.invariant-loop-left
invariant-loop-left l = from_body (length l.text) l.name (from_word 0 l.text) ≡ from_body l.left l.name l.rest

abbrev pub decreases-loop-left : goal.decreases-loop-left
decreases-loop-left l = l.left
