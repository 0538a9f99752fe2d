use Rattle.std.proofs.Common.{length-set}
use Rattle.process_table_base.proofs.Bounds.{set_bounded}
use Rattle.process_table_base.proofs.records.Records.put.Goals as goal

pub invariant_of-self : goal.invariant_of-self
invariant_of-self c = record {
  few = rw c.put_at.ensures.rows (rw length-set c.self.invariant.few);
  bounded = rw c.put_at.ensures.rows (set_bounded _ _ _ c.requires c.self.invariant.bounded);
  timed = c.put_at.ensures.timed;
}
