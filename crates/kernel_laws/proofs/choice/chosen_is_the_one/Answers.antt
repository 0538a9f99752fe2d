use Rattle.kernel_laws.proofs.Choosing.{chosen as law}
use Rattle.kernel_laws.proofs.choice.chosen_is_the_one.Goals as goal

pub returns : goal.returns
returns c = law
