use Rattle.std.proofs.Common.{◌≡◌, map, take}
use Rattle.kernel_meaning.specs.Objects.{fresh_semaphore}
use Rattle.sync_objects_base.proofs.objects.fresh_semaphores.Given as goal

abbrev pub invariant-loop-row : goal.invariant-loop-row
invariant-loop-row l = l.all.items ≡ map fresh_semaphore (take l.row-index l.rows)
