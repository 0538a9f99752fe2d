use Rattle.kernel_laws.proofs.Prelude.{machine_module, source_module}
use Rattle.kernel_laws.proofs.Fresh.{machine_ordered, source_ordered}
use Rattle.kernel_laws.proofs.Law.{run_goes, run_is_numbered}
use Rattle.kernel_laws.proofs.OwnNames.{machine_own}
use Rattle.kernel_laws.proofs.SourceNames.{accepted_own, source_own}
use Rattle.kernel_laws.proofs.order.order_in_every_run.Goals as goal

pub returns-clause-machine : goal.returns-clause-machine
returns-clause-machine c = λ image devices n. run_goes (machine_module image) devices n (machine_ordered image)

pub returns-clause-source : goal.returns-clause-source
returns-clause-source c = λ t sources devices n. run_goes (source_module t sources) devices n (source_ordered t sources)

pub returns-clause-lawful : goal.returns-clause-lawful
returns-clause-lawful c = λ image devices n within. run_is_numbered (machine_module image) devices n (machine_own image within) (machine_ordered image)

pub returns-clause-named : goal.returns-clause-named
returns-clause-named c = λ t programs devices n own. run_is_numbered (source_module t programs) devices n (source_own t programs own) (source_ordered t programs)

pub returns-clause-accepted : goal.returns-clause-accepted
returns-clause-accepted c = λ table sources t programs devices n is. run_is_numbered (source_module t programs) devices n (source_own t programs (accepted_own t.partitions sources programs is.accepted)) (source_ordered t programs)
