use Rattle.view_laws.proofs.StatesOfRuns.{image_state, module_state}
use Rattle.view_laws.proofs.states.stays_are_states.Goals as goal

pub returns-clause-machine : goal.returns-clause-machine
returns-clause-machine c = λ image devices n until t p item x q r wanted lawful l u few here found row own resting idle.
    image_state image devices n until t p item x q r wanted lawful l u few here found row own resting idle

pub returns-clause-accepted : goal.returns-clause-accepted
returns-clause-accepted c = λ table sources t programs devices n until i p part x q r wanted accepted l u few here found row own resting idle.
    module_state table sources t programs devices n until i p part x q r wanted accepted l u few here found row own resting idle
