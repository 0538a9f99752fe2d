use Rattle.std.proofs.Common.{◌≡◌, ◌≤◌, All, length, map, take}
use Rattle.regions.specs.Space.{zeros}
use Rattle.regions.proofs.partition_mem.zeroed_stacks.Given as goal

abbrev pub invariant-loop-length : goal.invariant-loop-length
invariant-loop-length l = record {
  words : map (λ v. v.items) l.stacks.items ≡ map zeros (take l.length-index l.lengths);
  small : All (λ v. length v.items ≤ 65_535) l.stacks.items;
}
