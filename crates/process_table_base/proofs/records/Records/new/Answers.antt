use Rattle.process_table_base.proofs.Bounds.{fresh_bounded, fresh_few}
use Rattle.process_table_base.proofs.Timed.{timed_fresh}
use Rattle.process_table_base.proofs.records.Records.new.Goals as goal

pub invariant_of-result : goal.invariant_of-result
invariant_of-result c = record {
  few = rw c.in_ok-fresh_rows.ensures (fresh_few c.args.processes.rows.now c.args.processes.few);
  bounded = rw c.in_ok-fresh_rows.ensures (fresh_bounded c.args.processes.rows.now c.args.processes.short);
  timed = rw c.in_ok-fresh_rows.ensures (timed_fresh c.args.processes.rows.now _ c.new.ensures.dues c.new.ensures.deadlines);
}
