use Rattle.isolation.proofs.InputsLaw.{inputs_allowed_of_run as law}
use Rattle.isolation.proofs.laws.inputs.inputs_are_allowed.Goals as goal

pub returns : goal.returns
returns c = law
