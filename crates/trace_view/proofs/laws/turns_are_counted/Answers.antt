use Rattle.trace_view.proofs.Sums.{sum_of_ticks, sum_of_activations}
use Rattle.trace_view.proofs.ActivationTimes.{times_run, times_end}
use Rattle.trace_view.proofs.laws.turns_are_counted.Goals as goal

pub returns : goal.returns
returns c = λ window turns. record {
  ticks = λ s. sum_of_ticks window turns s;
  activations = sum_of_activations window turns;
  to_running = times_run window turns;
  to_end = times_end window turns;
}
