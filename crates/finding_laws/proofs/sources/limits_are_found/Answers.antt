use Rattle.finding_laws.proofs.OfLimits.{limits_found}
use Rattle.finding_laws.proofs.sources.limits_are_found.Goals as goal

pub returns : goal.returns
returns c = λ ports period text p. limits_found ports period text p
