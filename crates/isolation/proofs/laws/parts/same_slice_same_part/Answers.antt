use Rattle.isolation.proofs.Law.{same_slice as law}
use Rattle.isolation.proofs.laws.parts.same_slice_same_part.Goals as goal

pub returns : goal.returns
returns c = law
