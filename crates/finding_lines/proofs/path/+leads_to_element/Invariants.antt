use Rattle.std.proofs.Common.{length}
use Rattle.finding_lines.proofs.path.+leads_to_element.Given as goal

abbrev pub decreases-leads_to_element : goal.decreases-leads_to_element
decreases-leads_to_element l = length l.path.now
