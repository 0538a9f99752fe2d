use Rattle.compiling_laws.proofs.ProgramCosts.{accepted_size, accepted_costs}
use Rattle.compiling_laws.proofs.checking.accepted_program_is_short.Goals as goal

pub returns : goal.returns
returns c = record { size = accepted_size; costs = accepted_costs }
