use Rattle.std.proofs.Common.{rules}
use Rattle.trace_view.proofs.summary.Summary.new.Goals as goal

pub returns : goal.returns
returns c = λ windows h. record {
  to = search rules;
  extent = search rules;
  told = search rules;
  shares = h;
  partitions = search rules;
  processes = search rules;
  errors = search rules;
  messages = search rules;
}
