use Rattle.kernel_laws.proofs.Prelude.{machine_module, source_module}
use Rattle.kernel_laws.proofs.Fresh.{machine_ordered, source_ordered}
use Rattle.kernel_laws.proofs.Law.{run_goes}
use Rattle.kernel_laws.proofs.WaitRuns.{all_listed, lawful_holds, machine_holds, run_holds, source_holds}
use Rattle.kernel_laws.proofs.order.waiting_ones_are_listed.Goals as goal

pub returns-clause-machine : goal.returns-clause-machine
returns-clause-machine c = λ image devices n p x e. run_holds (machine_module image) devices n p x (machine_holds image) (run_goes (machine_module image) devices n (machine_ordered image)) e

pub returns-clause-source : goal.returns-clause-source
returns-clause-source c = λ t sources devices n p x e. run_holds (source_module t sources) devices n p x (source_holds t sources) (run_goes (source_module t sources) devices n (source_ordered t sources)) e

pub returns-clause-lawful : goal.returns-clause-lawful
returns-clause-lawful c = λ image devices n p x within e. all_listed (machine_module image) devices n p x (lawful_holds image within) (run_goes (machine_module image) devices n (machine_ordered image)) e
