use Rattle.kernel_laws.proofs.WaitingOrder.{all_empty as law}
use Rattle.kernel_laws.proofs.waiting.nobody_waits.Goals as goal

pub returns : goal.returns
returns c = law
