use Rattle.isolation.proofs.InputTexts.{text_again as law}
use Rattle.isolation.proofs.laws.inputs.written_inputs_are_read.Goals as goal

pub returns : goal.returns
returns c = law
