use Rattle.finding_laws.proofs.Found.{odd_periods_any}
use Rattle.finding_laws.proofs.tables.odd_periods_are_found.Goals as goal

pub returns : goal.returns
returns c = λ t kept. odd_periods_any t kept
