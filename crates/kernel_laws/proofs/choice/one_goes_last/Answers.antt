use Rattle.kernel_laws.proofs.Choosing.{goes_last as law}
use Rattle.kernel_laws.proofs.choice.one_goes_last.Goals as goal

pub returns : goal.returns
returns c = law
