use Rattle.links.proofs.Prelude.{replicate, []}
use Rattle.apex_types.specs.declared.limits.TheConstants.{PRIORITY_LEVELS}
use Rattle.links.proofs.Levels.{at_nothing, length_nothing, levels_nothing}
use Rattle.links.proofs.Bits.{marked_none}
use Rattle.links.proofs.ready.ReadyLists.new.Goals as goal

pub invariant_of-result : goal.invariant_of-result
invariant_of-result c = record { whole = rw c.in_ok-new.ensures (length_nothing PRIORITY_LEVELS); levels = rw c.in_ok-new.ensures (levels_nothing PRIORITY_LEVELS 0); marked = rw c.in_ok-new.ensures (marked_none (replicate PRIORITY_LEVELS []) (at_nothing PRIORITY_LEVELS)) }
