use Rattle.trace_text.proofs.Traces.{again, one}
use Rattle.trace_text.proofs.laws.read_back.Goals as goal

pub returns-clause-again : goal.returns-clause-again
returns-clause-again c = again

pub returns-clause-one : goal.returns-clause-one
returns-clause-one c = one
