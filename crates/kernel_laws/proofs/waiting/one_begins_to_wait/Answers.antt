use Rattle.kernel_laws.proofs.WaitingOrder.{begins_to_wait as law}
use Rattle.kernel_laws.proofs.waiting.one_begins_to_wait.Goals as goal

pub returns : goal.returns
returns c = law
