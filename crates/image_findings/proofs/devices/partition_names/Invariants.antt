use Rattle.std.proofs.Common.{◌≡◌, ◌++◌, drop, map}
use Rattle.image.specs.Items.{items_of}
use Rattle.machine_meaning.specs.MachineMeaning.{row_of_item}
use Rattle.image_findings.specs.Named as spec
use Rattle.image_findings.proofs.devices.partition_names.Given as goal

abbrev pub invariant-loop-item : goal.invariant-loop-item
invariant-loop-item l =
    map (λ name. name.now) l.names.items ++ spec.partition_names (map row_of_item (items_of (drop l.item-index l.items)))
    ≡ spec.partition_names (map row_of_item (items_of l.items))
