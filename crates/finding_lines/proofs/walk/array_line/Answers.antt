use Rattle.finding_lines.proofs.Turns.{array_line_is}
use Rattle.finding_lines.proofs.walk.array_line.Goals as goal

pub returns-clause-value : goal.returns-clause-value
returns-clause-value c =
    array_line_is _ _ c.args.start.now _ _ _ _ _ c.skip.ensures.rest c.in_ok-key.ensures.value c.in_ok-after.ensures.value c.in_ok-section.ensures (rw c.as_slice.ensures.value at c.in_ok-add.ensures)
