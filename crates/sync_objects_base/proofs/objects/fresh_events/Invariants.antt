use Rattle.std.proofs.Common.{◌≡◌, replicate}
use Rattle.kernel_meaning.specs.Objects.{fresh_event}
use Rattle.sync_objects_base.proofs.objects.fresh_events.Given as goal

abbrev pub invariant-loop-number : goal.invariant-loop-number
invariant-loop-number l = l.all.items ≡ replicate l._number fresh_event
