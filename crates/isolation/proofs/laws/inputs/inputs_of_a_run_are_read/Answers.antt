use Rattle.isolation.proofs.InputsLaw.{inputs_read_again as law}
use Rattle.isolation.proofs.laws.inputs.inputs_of_a_run_are_read.Goals as goal

pub returns : goal.returns
returns c = law
