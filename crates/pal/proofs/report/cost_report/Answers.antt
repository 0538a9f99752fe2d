use Rattle.pal.proofs.Held.{checked_costs}
use Rattle.pal.proofs.report.cost_report.Goals as goal

pub report_program-requires : goal.report_program-requires
report_program-requires c = checked_costs c.args.costs.now c.args.checked.now.program c.args.checked.now.accepted
