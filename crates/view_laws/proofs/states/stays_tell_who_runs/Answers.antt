use Rattle.view_laws.proofs.Stays.{runner_in}
use Rattle.view_laws.proofs.states.stays_tell_who_runs.Goals as goal

pub returns : goal.returns
returns c = λ lines name who until t own order orderly u few. runner_in lines until name who t own order orderly u few
