use Rattle.finding_laws.proofs.OfPeriods.{periods_found}
use Rattle.finding_laws.proofs.sources.periods_are_found.Goals as goal

pub returns : goal.returns
returns c = λ period text p. periods_found period text p
