use Rattle.std.proofs.Common.{◌≡◌, ◌++◌, ◌∷◌, [], rules}
use Rattle.partition_base.proofs.Places.{one_more_slot}
use Rattle.partition_base.proofs.machine.fresh_slots.Goals as goal

pub loop-body-preserved : goal.loop-body-preserved
loop-body-preserved c =
    let pushed : c.push-in-loop-body.new.self.items ≡ c.loop-body.slots.items ++ c.new-in-loop-body.result ∷ [] = search rules in
    one_more_slot c.loop-body.slots.items c.push-in-loop-body.new.self.items c.new-in-loop-body.result c.loop-body.body-index c.loop-body.invariant pushed c.new-in-loop-body.ensures
