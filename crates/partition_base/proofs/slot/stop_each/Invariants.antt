use Rattle.std.proofs.Common.{◌≡◌, map, take, drop, ◌++◌}
use Rattle.kernel_meaning.specs.Partition.{no_control}
use Rattle.partition_base.specs.Slots.{alone}
use Rattle.partition_base.proofs.slot.stop_each.Given as goal

abbrev pub invariant-loop-slot : goal.invariant-loop-slot
invariant-loop-slot l = map alone l.slot-items ≡ map no_control (take l.slot-index (map alone l.fn.slots.items)) ++ drop l.slot-index (map alone l.fn.slots.items)
