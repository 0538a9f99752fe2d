-- The only spelling of an image: numbers little endian, fields one after another.
use Rattle.std.specs.Prelude.{ℕ, ℤ, pos, negsuc, List, [], ◌∷◌, ◌++◌, length, Option, Some, None, Bool, true, false}
use Rattle.std.specs.List.{flat_map}
use Rattle.std.specs.Int.{w16, w32, w64, to_le_bytes, cast_unsigned}
use Rattle.apex_types.specs.declared.codes.Discipline.{Discipline}
use Rattle.apex_types.specs.declared.codes.Discipline.TheVariants.{Fifo, Priority}
use Rattle.apex_types.specs.declared.codes.ModuleAction.{ModuleAction}
use Rattle.apex_types.specs.declared.codes.ModuleAction.TheVariants as of_module
use Rattle.apex_types.specs.declared.codes.PartitionAction.{PartitionAction}
use Rattle.apex_types.specs.declared.codes.PartitionAction.TheVariants as of_partition
use Rattle.apex_types.specs.declared.row.HealthTable.{HealthTable}
use Rattle.apex_types.specs.declared.row.PortDirection.{PortDirection}
use Rattle.apex_types.specs.declared.row.PortDirection.TheVariants.{Source, Destination}
use Rattle.apex_types.specs.declared.row.PortKind.{PortKind}
use Rattle.apex_types.specs.declared.row.PortKind.TheVariants.{Sampling, Queuing}
use Rattle.apex_types.specs.declared.row.PortRow.{PortRow}
use Rattle.apex_types.specs.declared.row.WindowRow.{WindowRow}
use Rattle.apex_types.specs.declared.row.ChannelEnd.{ChannelEnd}
use Rattle.apex_types.specs.declared.row.ChannelEnd.TheVariants.{Device, Port}
use Rattle.apex_types.specs.declared.row.SemaphoreRow.{SemaphoreRow}
use Rattle.apex_types.specs.declared.row.BufferRow.{BufferRow}
use Rattle.apex_types.specs.declared.row.BlackboardRow.{BlackboardRow}
use Rattle.apex_types.specs.declared.row.RoutineRow.{RoutineRow}
use Rattle.apex_types.specs.declared.row.ProcessRow.{ProcessRow}
use Rattle.apex_types.specs.declared.row.BodyRow.{BodyRow}
use Rattle.machine_meaning.specs.Section.{Section}
use Rattle.module_meaning.specs.Table.{Partition, Channel}
use Rattle.apex_types.specs.Costs.{in_order}
use Rattle.apex_types.specs.Versions.{number_of}
use Rattle.apex_types.specs.declared.cost.Costs.{Costs}
use Rattle.apex_types.specs.declared.version.ImageVersion.{ImageVersion}
use Rattle.apex_types.specs.declared.version.ImageVersion.TheVariants.{First, Second, Third}
use Rattle.machine_meaning.specs.Image.{Item, Image, Bodies, Objects, magic}

-- ---- numbers, names and lists

-- unsigned numbers of 8, 16, 32 and 64 bits, the lowest byte first
abbrev pub u8 : ℕ → List ℕ
u8 n = n ∷ []

abbrev pub u16 : ℕ → List ℕ
u16 n = to_le_bytes w16 n

abbrev pub u32 : ℕ → List ℕ
u32 n = to_le_bytes w32 n

abbrev pub u64 : ℕ → List ℕ
u64 n = to_le_bytes w64 n

-- a signed number of 64 bits, as two's complement
abbrev pub i64 : ℤ → List ℕ
i64 z = to_le_bytes w64 (cast_unsigned w64 z)

-- a length in one byte, and the text
unfoldable pub name : List ℕ → List ℕ
name text = u8 (length text) ++ text

-- a count, and the items
unfoldable pub list : {A : Type 0} → (A → List ℕ) → List A → List ℕ
list item items = u32 (length items) ++ flat_map item items

-- ---- numbers of choices

abbrev pub module_action : ModuleAction → ℕ
module_action of_module.Ignore = 0
module_action of_module.Shutdown = 1
module_action of_module.Reset = 2

abbrev pub partition_action : PartitionAction → ℕ
partition_action of_partition.Ignore = 0
partition_action of_partition.Idle = 1
partition_action of_partition.WarmStart = 2
partition_action of_partition.ColdStart = 3

abbrev pub discipline : Discipline → ℕ
discipline Fifo = 0
discipline Priority = 1

abbrev pub direction : PortDirection → ℕ
direction Source = 0
direction Destination = 1

abbrev pub truth : Bool → ℕ
truth false = 0
truth true = 1

-- ---- a partition's row

-- the seven actions, by the errors' numbers
unfoldable pub health : HealthTable → List ℕ
health table =
    partition_action table.deadline_missed ∷ partition_action table.application_error
    ∷ partition_action table.numeric_error ∷ partition_action table.illegal_request
    ∷ partition_action table.stack_overflow ∷ partition_action table.memory_violation
    ∷ partition_action table.hardware_fault ∷ []

abbrev pub port_kind : PortKind → ℕ
port_kind (Sampling refresh) = 0
port_kind (Queuing depth order) = 1

-- refresh, depth and discipline; the fields of the other kind are 0
unfoldable pub port_fields : PortKind → List ℕ
port_fields (Sampling refresh) = u64 refresh ++ u8 0 ++ u8 0
port_fields (Queuing depth order) = u64 0 ++ u8 depth ++ u8 (discipline order)

unfoldable pub port : PortRow → List ℕ
port row = name row.name ++ u8 (port_kind row.kind) ++ u8 (direction row.direction) ++ u8 row.words ++ port_fields row.kind

unfoldable pub partition : Partition → List ℕ
partition row = name row.name ++ u32 row.period ++ u32 row.duration ++ health row.health ++ list port row.ports

-- ---- the section of a partition

unfoldable pub semaphore : SemaphoreRow → List ℕ
semaphore row = u32 row.value ++ u32 row.maximum ++ u8 (discipline row.discipline)

unfoldable pub buffer : BufferRow → List ℕ
buffer row = u8 row.words ++ u8 row.depth ++ u8 (discipline row.discipline)

unfoldable pub blackboard : BlackboardRow → List ℕ
blackboard row = u8 row.words

unfoldable pub routine : RoutineRow → List ℕ
routine row = u32 row.entry ++ u8 row.parameters ++ u16 row.slots ++ u32 row.frame

unfoldable pub body : BodyRow → List ℕ
body row = u16 row.stack ++ u32 row.entry ++ u16 row.slots ++ u32 row.frame

-- none is -1
unfoldable pub duration : Option ℕ → List ℕ
duration None = i64 (negsuc 0)
duration (Some ticks) = i64 (pos ticks)

unfoldable pub process : ProcessRow → List ℕ
process row = name row.name ++ u8 row.priority.0 ++ duration row.period ++ duration row.capacity ++ body row.body

unfoldable pub handler : Option BodyRow → List ℕ
handler None = u8 0
handler (Some row) = u8 1 ++ body row

unfoldable pub instruction : List ℕ → List ℕ
instruction bytes = bytes

abbrev pub objects_in : Section → Objects
objects_in s = record { initial = s.initial; semaphores = s.semaphores; events = s.events; buffers = s.buffers; blackboards = s.blackboards }

unfoldable pub objects : Objects → List ℕ
objects o =
    list i64 o.initial ++ list semaphore o.semaphores ++ u8 o.events ++ list buffer o.buffers
    ++ list blackboard o.blackboards

abbrev pub bodies_in : Section → Bodies
bodies_in s = record { routines = s.routines; processes = s.processes; init = s.init; handler = s.handler }

unfoldable pub bodies : Bodies → List ℕ
bodies b = list routine b.routines ++ list process b.processes ++ body b.init ++ handler b.handler

unfoldable pub section : Section → List ℕ
section s = objects (objects_in s) ++ bodies (bodies_in s) ++ list instruction s.code

-- ---- windows and channels

unfoldable pub window : WindowRow → List ℕ
window row = u8 row.partition.0 ++ u32 row.offset ++ u32 row.length ++ u8 (truth row.release)

unfoldable pub channel_end : ChannelEnd → List ℕ
channel_end Device = u8 0 ++ u8 0
channel_end (Port p q) = u8 p.0 ++ u8 q.0

unfoldable pub channel : Channel → List ℕ
channel row = name row.name ++ channel_end row.source ++ list channel_end row.destinations

unfoldable pub item : Item → List ℕ
item it = partition it.partition ++ section it.section

-- the costs in the order of a table's keys
unfoldable pub costs : Costs → List ℕ
costs c = flat_map (λ cost. u16 cost.ticks) (in_order c)

-- what an image has as one of its version
unfoldable pub own_fields : ImageVersion → List ℕ
own_fields First = []
own_fields (Second c) = costs c
own_fields (Third c) = costs c

-- what images of every version begin with
unfoldable pub front : Image → List ℕ
front image = magic ++ u16 (number_of image.version) ++ u32 image.schedule.frame ++ u8 (module_action image.fault)

unfoldable pub head : Image → List ℕ
head image = front image ++ own_fields image.version

unfoldable pub spelling : Image → List ℕ
spelling image = head image ++ list item image.items ++ list window image.schedule.windows ++ list channel image.channels
