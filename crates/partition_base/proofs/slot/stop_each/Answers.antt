use Rattle.std.proofs.Common.{map}
use Rattle.partition_base.proofs.Places.{inactive, stopped_one}
use Rattle.partition_base.specs.Slots.{alone}
use Rattle.partition_base.proofs.slot.stop_each.Goals as goal

pub loop-slot-preserved : goal.loop-slot-preserved
loop-slot-preserved c = stopped_one alone c.loop-slot.slot-items (map alone c.args.slots.now.items) c.loop-slot.slot-index c.stop.new.self c.loop-slot.invariant (inactive c.stop.new.self c.stop.ensures)
