use Rattle.kernel_laws.proofs.WaitingOrder.{released_first as law}
use Rattle.kernel_laws.proofs.waiting.head_is_released_first.Goals as goal

pub returns : goal.returns
returns c = law
