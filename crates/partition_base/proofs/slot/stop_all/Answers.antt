use Rattle.partition_base.proofs.Places.{all_stopped}
use Rattle.partition_base.proofs.slot.stop_all.Goals as goal

pub returns : goal.returns
returns c stacks = all_stopped c.args.slots.now.items c.stop_each.new.slots.items stacks c.stop_each.ensures
