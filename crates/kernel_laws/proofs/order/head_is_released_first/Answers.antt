use Rattle.kernel_laws.proofs.Law.{head_is_first}
use Rattle.kernel_laws.proofs.order.head_is_released_first.Goals as goal

pub returns : goal.returns
returns c = λ d names n k list e h. head_is_first d names n k list e h
