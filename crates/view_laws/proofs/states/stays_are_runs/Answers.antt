use Rattle.view_laws.proofs.Running.{image_running, module_running}
use Rattle.view_laws.proofs.states.stays_are_runs.Goals as goal

pub returns-clause-machine : goal.returns-clause-machine
returns-clause-machine c = λ image devices n until t p item who lawful l u few here own. image_running image devices n until t p item who lawful l u few here own

pub returns-clause-accepted : goal.returns-clause-accepted
returns-clause-accepted c = λ table sources t programs devices n until i p row who accepted l u few here own. module_running table sources t programs devices n until i p row who accepted l u few here own
