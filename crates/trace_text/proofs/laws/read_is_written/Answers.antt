use Rattle.trace_text.proofs.Traces.{back as law}
use Rattle.trace_text.proofs.laws.read_is_written.Goals as goal

pub returns : goal.returns
returns c = law
