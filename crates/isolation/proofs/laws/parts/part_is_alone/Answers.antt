use Rattle.isolation.proofs.Law.{part_of_slice as law}
use Rattle.isolation.proofs.laws.parts.part_is_alone.Goals as goal

pub returns : goal.returns
returns c = law
