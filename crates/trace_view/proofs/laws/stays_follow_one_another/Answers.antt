use Rattle.trace_view.proofs.Contiguous.{follow}
use Rattle.trace_view.proofs.laws.stays_follow_one_another.Goals as goal

pub returns : goal.returns
returns c = follow
