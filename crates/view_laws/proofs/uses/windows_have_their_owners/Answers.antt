use Rattle.machine_meaning.specs.MachineMeaning.{machine_module}
use Rattle.module_meaning.specs.SourceMeaning.{source_module}
use Rattle.view_laws.proofs.OfRuns.{run_owners}
use Rattle.view_laws.proofs.uses.windows_have_their_owners.Goals as goal

pub returns-clause-machine : goal.returns-clause-machine
returns-clause-machine c = λ image devices n t l. run_owners (machine_module image) devices n t l

pub returns-clause-source : goal.returns-clause-source
returns-clause-source c = λ t programs devices n i l. run_owners (source_module t programs) devices n i l
