use Rattle.std.proofs.Common.{arith}
use Rattle.machine_meaning.specs.MachineMeaning.{machine_module}
use Rattle.module_meaning.specs.SourceMeaning.{source_module}
use Rattle.view_laws.proofs.OfRuns.{run_before}
use Rattle.view_laws.proofs.Run.{run_up_to}
use Rattle.view_laws.proofs.uses.lines_are_in_order.Goals as goal

pub returns-clause-machine : goal.returns-clause-machine
returns-clause-machine c = λ image devices n few. run_before (machine_module image) devices n n (omega arith) few

pub returns-clause-source : goal.returns-clause-source
returns-clause-source c = λ t programs devices n few. run_before (source_module t programs) devices n n (omega arith) few

pub returns-clause-machine_part : goal.returns-clause-machine_part
returns-clause-machine_part c = λ image devices n t l. run_up_to (machine_module image) devices n t l

pub returns-clause-source_part : goal.returns-clause-source_part
returns-clause-source_part c = λ t programs devices n i l. run_up_to (source_module t programs) devices n i l
