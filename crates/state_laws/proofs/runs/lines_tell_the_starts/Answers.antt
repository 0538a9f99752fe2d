use Rattle.state_laws.proofs.First.{source_starts}
use Rattle.state_laws.proofs.OfModules.{module_starts}
use Rattle.state_laws.proofs.OfImages.{image_starts}
use Rattle.state_laws.proofs.runs.lines_tell_the_starts.Goals as goal

pub returns-clause-machine : goal.returns-clause-machine
returns-clause-machine c = λ image devices n p item lawful here. image_starts image devices n lawful p item here

pub returns-clause-source : goal.returns-clause-source
returns-clause-source c = λ t programs devices n p row program judged here there own. source_starts t programs devices n judged p row program here there own

pub returns-clause-accepted : goal.returns-clause-accepted
returns-clause-accepted c = λ table sources t programs devices n p row accepted here. module_starts table sources t programs devices n accepted p row here
