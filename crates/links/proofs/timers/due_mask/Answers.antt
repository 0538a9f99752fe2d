use Rattle.links.proofs.DueMask.{of_both}
use Rattle.links.proofs.timers.due_mask.Goals as goal

pub returns : goal.returns
returns c = λ due deadline is_due is_deadline. of_both c.args.now.0 c.due_by-due.result c.due_by-missed.result c.args.dues.now c.args.deadlines.now due deadline c.due_by-due.ensures c.due_by-missed.ensures is_due is_deadline
