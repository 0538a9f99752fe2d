-- The semaphores, events, buffers, blackboards and ports of a partition.
use Rattle.std.specs.Prelude.{ℕ, suc, ℤ, pos, Bool, false, List, [], map, replicate, slice_get, slice_set, Option, Some, None, true, nat_le, ◌∷◌, ◌++◌, length}
use Rattle.arrayvec.specs.ArrayVec.{ArrayVec}
use Rattle.apex_types.specs.declared.row.SemaphoreRow.{SemaphoreRow}
use Rattle.apex_types.specs.declared.row.BufferRow.{BufferRow}
use Rattle.apex_types.specs.declared.row.BlackboardRow.{BlackboardRow}
use Rattle.apex_types.specs.declared.codes.Discipline.{Discipline}
use Rattle.apex_types.specs.declared.codes.Discipline.TheVariants as discipline
use Rattle.apex_types.specs.declared.identity.Ticks.{Ticks}
use Rattle.apex_types.specs.declared.row.PortDirection.{PortDirection}
use Rattle.apex_types.specs.declared.row.PortDirection.TheVariants as direction
use Rattle.apex_types.specs.declared.row.PortKind.{PortKind}
use Rattle.apex_types.specs.declared.row.PortKind.TheVariants as kind
use Rattle.apex_types.specs.declared.row.PortRow.{PortRow}

-- The semaphores, events, buffers and blackboards of a partition.

-- its first value, its maximum and its discipline; whether it is created; its value
pub record Semaphore : Type 0 where
  pub row : SemaphoreRow
  pub created : Bool
  pub value : ℕ

pub record ApexEvent : Type 0 where
  pub created : Bool
  pub up : Bool

-- the most words of a message, the room for messages and the discipline; the messages, the oldest first
pub record Buffer : Type 0 where
  pub row : BufferRow
  pub created : Bool
  pub messages : List (ArrayVec ℤ)

-- the most words of a message; the message that is displayed, if any
pub record Blackboard : Type 0 where
  pub row : BlackboardRow
  pub created : Bool
  pub shown : Option (ArrayVec ℤ)

-- each kind in the order of the source
pub record Objects : Type 0 where
  pub semaphores : List Semaphore
  pub events : List ApexEvent
  pub buffers : List Buffer
  pub blackboards : List Blackboard

-- ---- before they are created

abbrev pub fresh_semaphore : SemaphoreRow → Semaphore
fresh_semaphore row = record { row = row; created = false; value = row.value }

abbrev pub fresh_event : ApexEvent
fresh_event = record { created = false; up = false }

abbrev pub fresh_buffer : BufferRow → Buffer
fresh_buffer row = record { row = row; created = false; messages = [] }

abbrev pub fresh_blackboard : BlackboardRow → Blackboard
fresh_blackboard row = record { row = row; created = false; shown = None }

-- the objects that a source declares, none of them created
abbrev pub fresh_objects : List SemaphoreRow → ℕ → List BufferRow → List BlackboardRow → Objects
fresh_objects semaphores events buffers blackboards = record {
  semaphores = map fresh_semaphore semaphores;
  events = replicate events fresh_event;
  buffers = map fresh_buffer buffers;
  blackboards = map fresh_blackboard blackboards;
}

-- ---- Clear

abbrev pub cleared_semaphore : Semaphore → Semaphore
cleared_semaphore x = fresh_semaphore x.row

abbrev pub cleared_event : ApexEvent → ApexEvent
cleared_event x = fresh_event

abbrev pub cleared_buffer : Buffer → Buffer
cleared_buffer x = fresh_buffer x.row

abbrev pub cleared_blackboard : Blackboard → Blackboard
cleared_blackboard x = fresh_blackboard x.row

-- removes all objects
abbrev pub cleared_objects : Objects → Objects
cleared_objects o = record {
  semaphores = map cleared_semaphore o.semaphores;
  events = map cleared_event o.events;
  buffers = map cleared_buffer o.buffers;
  blackboards = map cleared_blackboard o.blackboards;
}

-- ---- objects by the number that a program gives

-- the object at a place, with its place
abbrev pub placed : {X : Type 0} → ℕ → Option X → Option (ℕ × X)
placed place None = None
placed place (Some x) = Some (place, x)

-- the object with a number, which is its place from 1 on
abbrev pub numbered_in : {X : Type 0} → List X → ℤ → Option (ℕ × X)
numbered_in xs (pos (suc n)) = placed n (slice_get xs n)
numbered_in xs _ = None

abbrev pub semaphore : Objects → ℤ → Option (ℕ × Semaphore)
semaphore o id = numbered_in o.semaphores id

abbrev pub event : Objects → ℤ → Option (ℕ × ApexEvent)
event o id = numbered_in o.events id

abbrev pub buffer : Objects → ℤ → Option (ℕ × Buffer)
buffer o id = numbered_in o.buffers id

abbrev pub blackboard : Objects → ℤ → Option (ℕ × Blackboard)
blackboard o id = numbered_in o.blackboards id

abbrev pub put_semaphore : Objects → ℕ → Semaphore → Objects
put_semaphore o place x = record o { semaphores = slice_set o.semaphores place x }

abbrev pub put_event : Objects → ℕ → ApexEvent → Objects
put_event o place x = record o { events = slice_set o.events place x }

abbrev pub put_buffer : Objects → ℕ → Buffer → Objects
put_buffer o place x = record o { buffers = slice_set o.buffers place x }

abbrev pub put_blackboard : Objects → ℕ → Blackboard → Objects
put_blackboard o place x = record o { blackboards = slice_set o.blackboards place x }

-- The ports of a partition, and the messages that they hold.

-- Its row of the module table; whether it is created; its messages, the oldest first. A sampling
-- port holds at most one message: it has the tick in which the message arrived, and whether the
-- last message read was valid. A queuing port remembers whether a message was lost since the last
-- receive.
pub record Port : Type 0 where
  pub row : PortRow
  pub created : Bool
  pub messages : List (ArrayVec ℤ)
  pub arrival : Ticks
  pub valid : Bool
  pub overflowed : Bool

-- in the order of the module table
pub record Ports : Type 0 where
  pub ports : List Port

abbrev pub put_port : Ports → ℕ → Port → Ports
put_port o place x = record { ports = slice_set o.ports place x }

abbrev pub port_at : Ports → ℕ → Option Port
port_at o place = slice_get o.ports place

-- ---- before they are created, and after a Clear

abbrev pub no_tick : Ticks
no_tick = record { 0 = 0 }

abbrev pub fresh_port : PortRow → Port
fresh_port row = record { row = row; created = false; messages = []; arrival = no_tick; valid = false; overflowed = false }

abbrev pub fresh_ports : List PortRow → Ports
fresh_ports rows = record { ports = map fresh_port rows }

abbrev pub cleared_port : Port → Port
cleared_port x = fresh_port x.row

-- no port is created, and all are empty
abbrev pub cleared_ports : Ports → Ports
cleared_ports o = record { ports = map cleared_port o.ports }

-- ---- the contents of the row

abbrev pub is_sampling_kind : PortKind → Bool
is_sampling_kind (kind.Sampling refresh) = true
is_sampling_kind (kind.Queuing depth discipline) = false

abbrev pub is_sampling : Port → Bool
is_sampling x = is_sampling_kind x.row.kind

abbrev pub is_source_direction : PortDirection → Bool
is_source_direction direction.Source = true
is_source_direction direction.Destination = false

abbrev pub is_source : Port → Bool
is_source x = is_source_direction x.row.direction

-- for how many ticks after its arrival a message is valid; 0 for a queuing port
abbrev pub refresh_of : PortKind → ℕ
refresh_of (kind.Sampling refresh) = refresh
refresh_of (kind.Queuing depth discipline) = 0

-- the number of messages that it has room for
abbrev pub depth_of : PortKind → ℕ
depth_of (kind.Sampling refresh) = 1
depth_of (kind.Queuing depth discipline) = depth

abbrev pub discipline_of : PortKind → Discipline
discipline_of (kind.Sampling refresh) = discipline.Fifo
discipline_of (kind.Queuing depth discipline) = discipline

abbrev pub is_full : Port → Bool
is_full x = nat_le (depth_of x.row.kind) (length x.messages)

-- ---- a port by the number that a program gives

abbrev pub if_sampling : Bool → ℕ × Port → Option (ℕ × Port)
if_sampling false f = None
if_sampling true f = Some f

abbrev pub unless_sampling : Bool → ℕ × Port → Option (ℕ × Port)
unless_sampling false f = Some f
unless_sampling true f = None

abbrev pub those_sampling : Option (ℕ × Port) → Option (ℕ × Port)
those_sampling None = None
those_sampling (Some f) = if_sampling (is_sampling f.1) f

abbrev pub those_queuing : Option (ℕ × Port) → Option (ℕ × Port)
those_queuing None = None
those_queuing (Some f) = unless_sampling (is_sampling f.1) f

-- the sampling port with a number, with its place from 0
abbrev pub sampling : Ports → ℤ → Option (ℕ × Port)
sampling o id = those_sampling (numbered_in o.ports id)

-- the queuing port with a number, with its place from 0
abbrev pub queuing : Ports → ℤ → Option (ℕ × Port)
queuing o id = those_queuing (numbered_in o.ports id)

-- ---- its messages

-- replaces the message
abbrev pub with_sample : Port → ArrayVec ℤ → Port
with_sample x m = record x { messages = m ∷ [] }

-- appends a message
abbrev pub with_message : Port → ArrayVec ℤ → Port
with_message x m = record x { messages = x.messages ++ m ∷ [] }
