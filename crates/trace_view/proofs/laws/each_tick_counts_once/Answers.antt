use Rattle.trace_view.proofs.Contiguous.{each_once}
use Rattle.trace_view.proofs.laws.each_tick_counts_once.Goals as goal

pub returns : goal.returns
returns c = each_once
