use Rattle.std.proofs.Common.{sym, subst}
use Rattle.process_table_base.specs.Bounds.{AreAllBounded}
use Rattle.process_table_base.proofs.Bounds.{held_at}
use Rattle.process_table_base.proofs.records.Records.look.Goals as goal

pub returns-clause-bounded : goal.returns-clause-bounded
returns-clause-bounded c =
    held_at _ _ c.deref.result.now c.place.result c.look_at.ensures (subst AreAllBounded (sym c.deref.ensures.value) c.self.invariant.bounded)
