use Rattle.trace_text.proofs.Traces.{one_event as law}
use Rattle.trace_text.proofs.laws.line_is_of_one_event.Goals as goal

pub returns : goal.returns
returns c = law
