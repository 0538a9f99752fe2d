use Rattle.trace_view.proofs.Counted.{lines_counted}
use Rattle.trace_view.proofs.laws.lines_are_counted.Goals as goal

pub returns : goal.returns
returns c = lines_counted
