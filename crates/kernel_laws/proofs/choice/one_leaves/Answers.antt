use Rattle.kernel_laws.proofs.Choosing.{leaves as law}
use Rattle.kernel_laws.proofs.choice.one_leaves.Goals as goal

pub returns : goal.returns
returns c = law
