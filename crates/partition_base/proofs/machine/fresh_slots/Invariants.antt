use Rattle.std.proofs.Common.{◌≡◌, ◌+◌, map, replicate, false}
use Rattle.partition_base.specs.Slots.{is_begun}
use Rattle.partition_base.proofs.machine.fresh_slots.Given as goal

abbrev pub invariant-loop-body : goal.invariant-loop-body
invariant-loop-body l = map is_begun l.slots.items ≡ replicate (2 + l.body-index) false
