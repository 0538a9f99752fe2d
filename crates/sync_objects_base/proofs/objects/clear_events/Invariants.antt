use Rattle.std.proofs.Common.{◌≡◌, ◌≤◌, ◌++◌, length, map, take, drop}
use Rattle.kernel_meaning.specs.Objects.{cleared_event}
use Rattle.sync_objects_base.proofs.objects.clear_events.Given as goal

abbrev pub invariant-loop-event : goal.invariant-loop-event
invariant-loop-event l = (l.event-index ≤ length l.event-items) × (take l.event-index l.event-items ++ map cleared_event (drop l.event-index l.event-items) ≡ map cleared_event l.fn.all.items)
