use Rattle.state_laws.proofs.First.{source_worker}
use Rattle.state_laws.proofs.OfModules.{module_worker}
use Rattle.state_laws.proofs.OfImages.{image_worker}
use Rattle.state_laws.proofs.runs.lines_tell_who_works.Goals as goal

pub returns-clause-machine : goal.returns-clause-machine
returns-clause-machine c = λ image devices n p item lawful here owns. image_worker image devices n p item lawful here owns

pub returns-clause-source : goal.returns-clause-source
returns-clause-source c = λ t programs devices n p row program judged here there own owns. source_worker t programs devices n p row program judged here there own owns

pub returns-clause-accepted : goal.returns-clause-accepted
returns-clause-accepted c = λ table sources t programs devices n p row accepted here owns. module_worker table sources t programs devices n accepted p row here owns
