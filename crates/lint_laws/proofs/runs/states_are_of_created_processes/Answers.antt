use Rattle.lint_laws.proofs.SleepingPartitions.{never_created_run}
use Rattle.lint_laws.proofs.runs.states_are_of_created_processes.Goals as goal

pub returns : goal.returns
returns c = λ t programs devices n p number row program name judged here there is safe. never_created_run t programs devices n p row program number name judged here there is safe
