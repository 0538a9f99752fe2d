use Rattle.module_base.proofs.Prelude.{◌≡◌, length, pieces}
use Rattle.module_base.specs.TextLines.{lines_by, verdict_by}
use Rattle.module_base.proofs.Reading.{put_lines}
use Rattle.module_base.proofs.read.read_lines.Given as goal

abbrev pub invariant-loop-rest : goal.invariant-loop-rest
invariant-loop-rest g l =
    let named = g.T.TakesLines.named l.taker in
    let tick_of = g.T.TakesLines.tick_of in
    verdict_by l.mark named tick_of l.fn.text ≡ put_lines l.lines.items (lines_by l.mark named tick_of (length l.lines.items) l.before.0 (pieces 10 l.rest))

abbrev pub decreases-loop-rest : goal.decreases-loop-rest
decreases-loop-rest g l = length l.rest
