use Rattle.trace_lines.proofs.Remaining.{left_is}
use Rattle.trace_lines.proofs.laws.lines_are_counted.Goals as goal

pub returns : goal.returns
returns c = left_is
