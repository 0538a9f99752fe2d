use Rattle.process_table_base.proofs.Bounds.{started_bounded, started_length}
use Rattle.process_table_base.proofs.Timed.{timed_started}
use Rattle.process_table_base.proofs.records.Records.restart.Goals as goal

pub invariant_of-self : goal.invariant_of-self
invariant_of-self c = record {
  few = rw c.restart_all.ensures (rw (started_length c.args.mode c.self.inside.rows.items) c.self.invariant.few);
  bounded = rw c.restart_all.ensures (started_bounded c.args.mode _ c.self.invariant.bounded);
  timed = rw c.restart_all.ensures (timed_started c.args.mode c.self.inside.rows.items _ c.new-self-inside.ensures.dues c.new-self-inside.ensures.deadlines);
}
