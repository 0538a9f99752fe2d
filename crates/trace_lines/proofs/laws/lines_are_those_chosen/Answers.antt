use Rattle.trace_lines.proofs.Chosen.{chosen_one_by_one}
use Rattle.trace_lines.proofs.laws.lines_are_those_chosen.Goals as goal

pub returns : goal.returns
returns c = chosen_one_by_one
