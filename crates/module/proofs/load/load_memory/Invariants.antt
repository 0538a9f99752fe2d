use Rattle.module.proofs.Prelude.{◌≡◌, map, take, fresh_item}
use Rattle.regions.specs.Space.{planned}
use Rattle.module.proofs.load.load_memory.Given as goal

abbrev pub invariant-loop-item : goal.invariant-loop-item
invariant-loop-item l = map planned l.plan.items ≡ map fresh_item (take l.item-index l.items)
