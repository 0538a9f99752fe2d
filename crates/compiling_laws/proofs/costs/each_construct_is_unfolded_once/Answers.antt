use Rattle.compiling_laws.proofs.Constructs.{part_unfolds}
use Rattle.compiling_laws.proofs.costs.each_construct_is_unfolded_once.Goals as goal

pub returns : goal.returns
returns c = part_unfolds
