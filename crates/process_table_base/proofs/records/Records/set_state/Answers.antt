use Rattle.std.proofs.Common.{refl}
use Rattle.process_table_base.proofs.States.{state_bounded, state_length, state_timed}
use Rattle.process_table_base.proofs.records.Records.set_state.Goals as goal

pub invariant_of-self : goal.invariant_of-self
invariant_of-self c = record {
  few = rw (c.set_state_at.ensures, state_length) c.self.invariant.few;
  bounded = rw c.set_state_at.ensures (state_bounded _ _ _ _ refl c.self.invariant.bounded);
  timed = rw c.set_state_at.ensures (state_timed _ _ _ _ _ refl c.self.invariant.timed);
}
