use Rattle.state_laws.proofs.First.{source_orderly}
use Rattle.state_laws.proofs.OfModules.{module_orderly}
use Rattle.state_laws.proofs.OfImages.{image_orderly}
use Rattle.state_laws.proofs.runs.runners_run_in_turn.Goals as goal

pub returns-clause-machine : goal.returns-clause-machine
returns-clause-machine c = λ image devices n p item lawful here. image_orderly image devices n lawful p item here

pub returns-clause-source : goal.returns-clause-source
returns-clause-source c = λ t programs devices n p row program judged here there own. source_orderly t programs devices n judged p row program here there own

pub returns-clause-accepted : goal.returns-clause-accepted
returns-clause-accepted c = λ table sources t programs devices n p row accepted here. module_orderly table sources t programs devices n accepted p row here
