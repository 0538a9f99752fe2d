use Rattle.finding_laws.proofs.OfNames.{names_found}
use Rattle.finding_laws.proofs.sources.names_are_found.Goals as goal

pub returns : goal.returns
returns c = λ ports period text p. names_found ports period text p
