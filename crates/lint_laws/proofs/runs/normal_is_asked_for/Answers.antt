use Rattle.lint_laws.proofs.Partitions.{never_normal_run}
use Rattle.lint_laws.proofs.runs.normal_is_asked_for.Goals as goal

pub returns : goal.returns
returns c = λ t programs devices n p row program judged here there safe. never_normal_run t programs devices n p row program judged here there safe
