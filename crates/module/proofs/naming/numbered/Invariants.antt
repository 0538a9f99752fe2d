use Rattle.module.proofs.Prelude.{◌≡◌, ◌+◌, drop, same, items_of, image_of, numbered}
use Rattle.module_meaning.specs.DeviceText.{first_from}
use Rattle.module.proofs.naming.numbered.Given as goal

abbrev pub invariant-loop-place : goal.invariant-loop-place
invariant-loop-place l = numbered (image_of l.image) l.name ≡ first_from (l.place + 1) (λ i. same i.partition.name l.name) (items_of (drop l.place l.image.partitions.items))
