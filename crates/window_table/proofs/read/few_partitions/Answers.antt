use Rattle.std.proofs.lemmas.List.{length-map}
use Rattle.window_table.specs.Views.{table_text}
use Rattle.window_table.proofs.Rules.{few_partitions, few_ports}
use Rattle.window_table.proofs.read.few_partitions.Goals as goal

pub invariant_of-result-clause-few : goal.invariant_of-result-clause-few
invariant_of-result-clause-few c = rw c.as_slice.ensures.value (simp length-map at (few_partitions (table_text c.args.written.now) c.requires.counts))

pub invariant_of-result-clause-few_ports : goal.invariant_of-result-clause-few_ports
invariant_of-result-clause-few_ports c = rw c.as_slice.ensures.value (few_ports _ _ c.requires.limits)
