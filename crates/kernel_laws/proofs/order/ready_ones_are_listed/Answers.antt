use Rattle.kernel_laws.proofs.Prelude.{machine_module, source_module}
use Rattle.kernel_laws.proofs.Fresh.{machine_ordered, source_ordered}
use Rattle.kernel_laws.proofs.Law.{listed_are_ready, run_goes, state_has_order}
use Rattle.kernel_laws.proofs.order.ready_ones_are_listed.Goals as goal

pub returns-clause-machine : goal.returns-clause-machine
returns-clause-machine c = λ image devices n p x e. listed_are_ready (machine_module image) p x (state_has_order (machine_module image) devices n p x (run_goes (machine_module image) devices n (machine_ordered image)) e)

pub returns-clause-source : goal.returns-clause-source
returns-clause-source c = λ t sources devices n p x e. listed_are_ready (source_module t sources) p x (state_has_order (source_module t sources) devices n p x (run_goes (source_module t sources) devices n (source_ordered t sources)) e)
