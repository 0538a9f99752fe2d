use Rattle.kernel_laws.proofs.Through.{move_goes, move_named}
use Rattle.kernel_laws.proofs.order.steps_go_on.Goals as goal

pub returns-clause-machine : goal.returns-clause-machine
returns-clause-machine c = λ d names n step x h. move_goes d names n step x h

pub returns-clause-source : goal.returns-clause-source
returns-clause-source c = λ d names n step x h. move_goes d names n step x h

pub returns-clause-machine_named : goal.returns-clause-machine_named
returns-clause-machine_named c = λ d names n step x own h. move_named d names own n step x h

pub returns-clause-source_named : goal.returns-clause-source_named
returns-clause-source_named c = λ d names n step x own h. move_named d names own n step x h
