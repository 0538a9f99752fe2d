use Rattle.std.proofs.Common.{◌≡◌, ◌≤◌, ◌++◌, length, map, take, drop}
use Rattle.kernel_meaning.specs.Objects.{cleared_semaphore}
use Rattle.sync_objects_base.proofs.objects.clear_semaphores.Given as goal

abbrev pub invariant-loop-semaphore : goal.invariant-loop-semaphore
invariant-loop-semaphore l = (l.semaphore-index ≤ length l.semaphore-items) × (take l.semaphore-index l.semaphore-items ++ map cleared_semaphore (drop l.semaphore-index l.semaphore-items) ≡ map cleared_semaphore l.fn.all.items)
