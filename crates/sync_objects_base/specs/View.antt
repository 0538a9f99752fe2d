-- The view of the fields of the objects, and their invariants.
use Rattle.std.specs.Prelude.{◌≤◌, length}
use Rattle.apex_types.specs.Limits.{MOST_OBJECTS}
use Rattle.kernel_meaning.specs.Objects as meaning
use Rattle.sync_objects_base.specs.declared.semaphore.Semaphore.TheInside as semaphore
use Rattle.sync_objects_base.specs.declared.event.ApexEvent.TheInside as event
use Rattle.sync_objects_base.specs.declared.buffer.Buffer.TheInside as buffer
use Rattle.sync_objects_base.specs.declared.blackboard.Blackboard.TheInside as blackboard
use Rattle.sync_objects_base.specs.declared.objects.Objects.TheInside as objects

abbrev pub semaphore_of : semaphore.Inside → meaning.Semaphore
semaphore_of s = record { row = s.row; created = s.created; value = s.value }

abbrev pub semaphore_fields : meaning.Semaphore → semaphore.Inside
semaphore_fields s = record { row = s.row; created = s.created; value = s.value }

abbrev pub event_of : event.Inside → meaning.ApexEvent
event_of e = record { created = e.created; up = e.up }

abbrev pub event_fields : meaning.ApexEvent → event.Inside
event_fields e = record { created = e.created; up = e.up }

abbrev pub buffer_of : buffer.Inside → meaning.Buffer
buffer_of b = record { row = b.row; created = b.created; messages = b.messages.items }

-- no more messages than there may be, and memory for that number of them
pub record HasRing (b : buffer.Inside) : Type 0 where
  pub few : length b.messages.items ≤ b.row.depth
  pub room : b.row.depth ≤ b.messages.capacity

abbrev pub blackboard_of : blackboard.Inside → meaning.Blackboard
blackboard_of b = record { row = b.row; created = b.created; shown = b.shown }

abbrev pub objects_of : objects.Inside → meaning.Objects
objects_of o = record {
  semaphores = o.semaphores.items;
  events = o.events.items;
  buffers = o.buffers.items;
  blackboards = o.blackboards.items;
}

-- no more objects of a kind than a partition may have
pub record AreFew (o : objects.Inside) : Type 0 where
  pub semaphores : length o.semaphores.items ≤ MOST_OBJECTS
  pub events : length o.events.items ≤ MOST_OBJECTS
  pub buffers : length o.buffers.items ≤ MOST_OBJECTS
  pub blackboards : length o.blackboards.items ≤ MOST_OBJECTS
