use Rattle.trace_view.proofs.MeasuredTimes.{times_of_turns}
use Rattle.trace_view.proofs.laws.times_are_measured.Goals as goal

pub returns : goal.returns
returns c = times_of_turns
