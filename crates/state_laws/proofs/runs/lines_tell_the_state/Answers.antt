use Rattle.state_laws.proofs.First.{source_tells}
use Rattle.state_laws.proofs.OfModules.{module_tells}
use Rattle.state_laws.proofs.OfImages.{image_tells}
use Rattle.state_laws.proofs.runs.lines_tell_the_state.Goals as goal

pub returns-clause-machine : goal.returns-clause-machine
returns-clause-machine c = λ image devices n p item x lawful here found. image_tells image devices n p item x lawful here found

pub returns-clause-source : goal.returns-clause-source
returns-clause-source c = λ t programs devices n p row program x judged here there own found. source_tells t programs devices n p row program x judged here there own found

pub returns-clause-accepted : goal.returns-clause-accepted
returns-clause-accepted c = λ table sources t programs devices n p row x accepted here found. module_tells table sources t programs devices n accepted p row x here found
