use Rattle.view_laws.proofs.ModesOfRuns.{image_mode, module_mode}
use Rattle.view_laws.proofs.states.stays_are_modes.Goals as goal

pub returns-clause-machine : goal.returns-clause-machine
returns-clause-machine c = λ image devices n until t p item x m lawful l u here found. image_mode image devices n until t p item x m lawful l u here found

pub returns-clause-accepted : goal.returns-clause-accepted
returns-clause-accepted c = λ table sources t programs devices n until i p row x m accepted l u here found. module_mode table sources t programs devices n until i p row x m accepted l u here found
