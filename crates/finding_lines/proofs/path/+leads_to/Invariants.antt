use Rattle.std.proofs.Common.{length}
use Rattle.finding_lines.proofs.path.+leads_to.Given as goal

abbrev pub decreases-leads_to : goal.decreases-leads_to
decreases-leads_to l = length l.path.now
