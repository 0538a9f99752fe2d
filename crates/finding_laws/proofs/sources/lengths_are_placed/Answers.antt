use Rattle.finding_laws.proofs.OfPassed.{lengths_placed}
use Rattle.finding_laws.proofs.sources.lengths_are_placed.Goals as goal

pub returns : goal.returns
returns c = λ costs ports period text tree p is judged named. lengths_placed costs ports period text tree p is judged named
