use Rattle.module.proofs.Prelude.{◌≡◌, ◌+◌, map, take, length, items_of, partition_of, AreCoded, built_items, programs_of}
use Rattle.module.proofs.building.build_items.Given as goal

abbrev pub invariant-loop-row : goal.invariant-loop-row
invariant-loop-row l = record {
  place : l.place ≡ length l.yielded;
  left : l.place + length l.row-iterator.rest.items ≡ length l.sources;
  built : items_of l.items.items ≡ built_items (map partition_of l.yielded) (take l.place (programs_of l.sources));
  coded : AreCoded (take l.place (programs_of l.sources));
}
