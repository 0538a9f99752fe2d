use Rattle.finding_laws.proofs.OfKinds.{kinds_found}
use Rattle.finding_laws.proofs.sources.kinds_are_found.Goals as goal

pub returns : goal.returns
returns c = λ ports period text p. kinds_found ports period text p
