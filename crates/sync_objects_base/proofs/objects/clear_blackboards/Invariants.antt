use Rattle.std.proofs.Common.{◌≡◌, ◌≤◌, ◌++◌, length, map, take, drop}
use Rattle.kernel_meaning.specs.Objects.{cleared_blackboard}
use Rattle.sync_objects_base.proofs.objects.clear_blackboards.Given as goal

abbrev pub invariant-loop-blackboard : goal.invariant-loop-blackboard
invariant-loop-blackboard l = (l.blackboard-index ≤ length l.blackboard-items) × (take l.blackboard-index l.blackboard-items ++ map cleared_blackboard (drop l.blackboard-index l.blackboard-items) ≡ map cleared_blackboard l.fn.all.items)
