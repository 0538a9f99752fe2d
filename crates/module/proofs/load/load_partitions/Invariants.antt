use Rattle.module.proofs.Prelude.{◌≡◌, ◌+◌, ◌++◌, drop, length, map, take, machine_members, items_of, machine, schedule_of, fresh_item, members_of, AreFitting}
use Rattle.module.proofs.load.load_partitions.Given as goal

abbrev pub invariant-loop-item : goal.invariant-loop-item
invariant-loop-item l = record {
  number : l.number ≡ l.item-index + 1;
  count : l.item-index ≡ length l.partitions.items;
  fit : AreFitting machine l.partitions.items (map fresh_item (take l.item-index l.items));
  members : members_of machine l.partitions.items (map fresh_item (take l.item-index l.items)) ++ machine_members l.costs (schedule_of l.image.schedule) l.number (items_of (drop l.item-index l.items)) ≡ machine_members l.costs (schedule_of l.image.schedule) 1 (items_of l.items);
}
