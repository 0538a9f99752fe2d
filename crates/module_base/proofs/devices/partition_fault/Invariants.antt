use Rattle.module_base.proofs.Prelude.{◌≡◌, ◌+◌, map, drop, first_from, row_of_item, same, items_of, rows_in}
use Rattle.module_base.proofs.devices.partition_fault.Given as goal

abbrev pub invariant-loop-place : goal.invariant-loop-place
invariant-loop-place l = first_from 1 (λ p. same p.name l.name) (rows_in l.image) ≡ first_from (l.place + 1) (λ p. same p.name l.name) (map row_of_item (items_of (drop l.place l.image.partitions.items)))
