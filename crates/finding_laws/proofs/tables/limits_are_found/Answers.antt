use Rattle.finding_laws.proofs.Found.{limits_any}
use Rattle.finding_laws.proofs.tables.limits_are_found.Goals as goal

pub returns : goal.returns
returns c = λ t few. limits_any t few
