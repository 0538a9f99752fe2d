use Rattle.finding_lines.proofs.Turns.{table_line_is}
use Rattle.finding_lines.proofs.walk.table_line.Goals as goal

pub returns-clause-value : goal.returns-clause-value
returns-clause-value c =
    table_line_is _ _ c.args.start.now _ _ _ _ c.skip.ensures.rest c.in_ok-key.ensures.value c.in_ok-section.ensures (rw c.as_slice.ensures.value at c.in_ok-add.ensures)
