use Rattle.std.proofs.Common.{length}
use Rattle.table_findings.proofs.bounds.+costs_at.Given as goal

abbrev pub decreases-costs_at : goal.decreases-costs_at
decreases-costs_at l = length l.keys.now
