use Rattle.finding_laws.proofs.OfLengths.{length_found}
use Rattle.finding_laws.proofs.sources.lengths_are_found.Goals as goal

pub returns : goal.returns
returns c = λ costs text p. length_found costs text p
