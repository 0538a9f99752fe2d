use Rattle.state_laws.proofs.LockLaw.{image_locks, module_locks, source_locks}
use Rattle.state_laws.proofs.locks.lines_tell_the_lock.Goals as goal

pub returns-clause-machine : goal.returns-clause-machine
returns-clause-machine c = λ image devices n p item x lawful here found. image_locks image devices n p item x lawful here found

pub returns-clause-source : goal.returns-clause-source
returns-clause-source c = λ t programs devices n p row program x judged here there own found. source_locks t programs devices n p row program x judged here there own found

pub returns-clause-accepted : goal.returns-clause-accepted
returns-clause-accepted c = λ table sources t programs devices n p row x accepted here found. module_locks table sources t programs devices n p row x accepted here found
