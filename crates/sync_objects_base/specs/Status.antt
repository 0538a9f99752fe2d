-- The object at a place, and what the status of buffers and blackboards shows in place of their messages.
use Rattle.std.specs.Prelude.{ℕ, length, drop, Option, Some, None, is_some, slice_index_or}
use Rattle.apex_types.specs.declared.codes.Discipline.TheVariants as discipline
use Rattle.kernel_meaning.specs.Objects.{Objects, Semaphore, ApexEvent, Buffer, Blackboard, fresh_semaphore, fresh_event, fresh_buffer, fresh_blackboard}
use Rattle.sync_objects_base.specs.declared.buffer.BufferStatus.{BufferStatus}
use Rattle.sync_objects_base.specs.declared.blackboard.BlackboardStatus.{BlackboardStatus}

abbrev pub buffer_status : Buffer → BufferStatus
buffer_status x = record { row = x.row; created = x.created; messages = length x.messages }

abbrev pub blackboard_status : Blackboard → BlackboardStatus
blackboard_status x = record { row = x.row; created = x.created; occupied = is_some x.shown }

-- the semaphore at a place
abbrev pub semaphore_at : Objects → ℕ → Semaphore
semaphore_at o place = slice_index_or o.semaphores place (fresh_semaphore (record { value = 0; maximum = 0; discipline = discipline.Fifo }))

-- the event at a place
abbrev pub event_at : Objects → ℕ → ApexEvent
event_at o place = slice_index_or o.events place fresh_event

-- the buffer at a place
abbrev pub buffer_at : Objects → ℕ → Buffer
buffer_at o place = slice_index_or o.buffers place (fresh_buffer (record { words = 0; depth = 0; discipline = discipline.Fifo }))

-- the blackboard at a place
abbrev pub blackboard_at : Objects → ℕ → Blackboard
blackboard_at o place = slice_index_or o.blackboards place (fresh_blackboard (record { words = 0 }))

-- the buffer of a status with its place
abbrev pub buffer_of_status : Objects → Option (ℕ × BufferStatus) → Option (ℕ × Buffer)
buffer_of_status o None = None
buffer_of_status o (Some f) = Some (f.0, buffer_at o f.0)

-- the blackboard of a status with its place
abbrev pub blackboard_of_status : Objects → Option (ℕ × BlackboardStatus) → Option (ℕ × Blackboard)
blackboard_of_status o None = None
blackboard_of_status o (Some f) = Some (f.0, blackboard_at o f.0)

-- removes its first message
abbrev pub without_first : Buffer → Buffer
without_first x = record x { messages = drop 1 x.messages }
