use Rattle.view_laws.proofs.Modes.{mode_in_tick}
use Rattle.view_laws.proofs.states.stays_tell_the_mode.Goals as goal

pub returns : goal.returns
returns c = λ lines name m until t order u. mode_in_tick lines name m until t order u
