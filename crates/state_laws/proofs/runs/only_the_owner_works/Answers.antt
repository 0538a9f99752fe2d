use Rattle.state_laws.proofs.OfModules.{module_idle}
use Rattle.state_laws.proofs.OfImages.{image_idle}
use Rattle.state_laws.proofs.runs.only_the_owner_works.Goals as goal

pub returns-clause-machine : goal.returns-clause-machine
returns-clause-machine c = λ image devices n p item lawful here owns. image_idle image devices n lawful p item here owns

pub returns-clause-accepted : goal.returns-clause-accepted
returns-clause-accepted c = λ table sources t programs devices n p row accepted here owns. module_idle table sources t programs devices n accepted p row here owns
