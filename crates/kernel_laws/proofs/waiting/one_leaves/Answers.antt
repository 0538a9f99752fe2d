use Rattle.kernel_laws.proofs.WaitingOrder.{leaves as law}
use Rattle.kernel_laws.proofs.waiting.one_leaves.Goals as goal

pub returns : goal.returns
returns c = law
