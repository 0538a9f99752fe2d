use Rattle.view_laws.proofs.Shown.{mode_is_told, state_is_told}
use Rattle.view_laws.proofs.states.lines_tell_what_is_shown.Goals as goal

pub returns-clause-mode : goal.returns-clause-mode
returns-clause-mode c = λ lines name. mode_is_told lines name

pub returns-clause-state : goal.returns-clause-state
returns-clause-state c = λ lines name who own. state_is_told lines name who own
