use Rattle.kernel_laws.proofs.OfTick.{tick_goes}
use Rattle.kernel_laws.proofs.order.tick_goes_on.Goals as goal

pub returns-clause-machine : goal.returns-clause-machine
returns-clause-machine c = λ d names n e at w h. tick_goes d names n e at w h

pub returns-clause-source : goal.returns-clause-source
returns-clause-source c = λ d names n e at w h. tick_goes d names n e at w h
