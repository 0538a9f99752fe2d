use Rattle.trace_lines.proofs.Words.{are_the_same}
use Rattle.trace_lines.proofs.same.are_same.Goals as goal

pub returns : goal.returns
returns c = are_the_same c.args.one.now c.args.other.now c.eq.result c.eq.ensures
