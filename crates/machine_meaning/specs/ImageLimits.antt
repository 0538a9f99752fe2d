-- The images that have a spelling which is read again: every value is within its limits, names
-- differ among their kind, windows are in order, bodies begin within the code, and the rules of the
-- module table are kept.
use Rattle.std.specs.Prelude.{◌≡◌, ℕ, ◌+◌, ◌<◌, ◌≤◌, ◌^◌, ◌-◌, true, false, ◌&&◌, ◌==◌, List, [], ◌∷◌, ◌++◌, length, max, Option, Some, None, FitsSigned}
use Rattle.std.specs.Int.{w64}
use Rattle.apex_types.specs.Limits.{GREATEST_PRIORITY, INSTRUCTION_BYTES, LEAST_STACK_WORDS, MOST_CHANNELS, MOST_DATA_WORDS, MOST_DEPTH, MOST_DESTINATIONS, MOST_FRAME_TICKS, MOST_INSTRUCTIONS, MOST_OBJECTS, MOST_PARAMETERS, MOST_PORTS, MOST_PROCEDURES, MOST_SEMAPHORE_VALUE, MOST_SLOTS, MOST_STACK_WORDS, MOST_TICKS, MOST_WINDOWS}
use Rattle.apex_types.specs.Versions.{limits_of}
use Rattle.apex_types.specs.declared.version.Limits.{Limits}
use Rattle.apex_types.specs.declared.row.SemaphoreRow.{SemaphoreRow}
use Rattle.apex_types.specs.declared.row.BufferRow.{BufferRow}
use Rattle.apex_types.specs.declared.row.BlackboardRow.{BlackboardRow}
use Rattle.apex_types.specs.declared.row.RoutineRow.{RoutineRow}
use Rattle.apex_types.specs.declared.row.BodyRow.{BodyRow}
use Rattle.apex_types.specs.declared.row.ProcessRow.{ProcessRow}
use Rattle.apex_types.specs.declared.row.PortRow.{PortRow}
use Rattle.apex_types.specs.declared.row.WindowRow.{WindowRow}
use Rattle.apex_types.specs.declared.row.ChannelEnd.{ChannelEnd}
use Rattle.apex_types.specs.declared.row.ChannelEnd.TheVariants.{Device, Port}
use Rattle.apex_types.specs.declared.row.PortKind.{PortKind}
use Rattle.apex_types.specs.declared.row.PortKind.TheVariants.{Sampling, Queuing}
use Rattle.apex_types.specs.NameText.{is_name}
use Rattle.machine_meaning.specs.ImageReading.{is_process, is_infinite_or_multiple, enter_within, is_port, is_partition, is_channel, last_end, keeps_table_rules}
use Rattle.machine_meaning.specs.Image.{Objects, Bodies}
use Rattle.machine_meaning.specs.ImageSpelling.{objects_in, bodies_in}
use Rattle.machine_meaning.specs.Section.{Section}
use Rattle.module_meaning.specs.Table.{Partition, Channel}
use Rattle.machine_meaning.specs.Image.{Item, Image}

-- from low to high
pub record IsFrom (low high n : ℕ) : Type 0 where
  pub least : low ≤ n
  pub most : n ≤ high

-- each item, given those before it
abbrev pub EachBeside : {A : Type 0} → (List A → A → Type 0) → List A → List A → Type 0
EachBeside P before [] = Unit {0}
EachBeside P before (item ∷ items) = P before item × EachBeside P (before ++ item ∷ []) items

-- ---- the section of a partition

-- a first value of at most the maximum
pub record IsSemaphore (row : SemaphoreRow) : Type 0 where
  pub value : IsFrom 0 MOST_SEMAPHORE_VALUE row.value
  pub maximum : IsFrom (max 1 row.value) MOST_SEMAPHORE_VALUE row.maximum

pub record IsBuffer (limits : Limits) (row : BufferRow) : Type 0 where
  pub words : IsFrom 1 limits.words row.words
  pub depth : IsFrom 1 MOST_DEPTH row.depth

pub record IsBlackboard (limits : Limits) (row : BlackboardRow) : Type 0 where
  pub words : IsFrom 1 limits.words row.words

-- Data, semaphores, events, buffers and blackboards.
pub record AreObjects (limits : Limits) (o : Objects) : Type 0 where
  pub words : IsFrom 0 MOST_DATA_WORDS (length o.initial)
  pub initial : EachBeside (λ _. FitsSigned w64) [] o.initial
  pub semaphore_count : IsFrom 0 MOST_OBJECTS (length o.semaphores)
  pub semaphores : EachBeside (λ _. IsSemaphore) [] o.semaphores
  pub events : IsFrom 0 MOST_OBJECTS o.events
  pub buffer_count : IsFrom 0 MOST_OBJECTS (length o.buffers)
  pub buffers : EachBeside (λ _. IsBuffer limits) [] o.buffers
  pub blackboard_count : IsFrom 0 MOST_OBJECTS (length o.blackboards)
  pub blackboards : EachBeside (λ _. IsBlackboard limits) [] o.blackboards

-- The parameters are among the slots; the frame has room for the slots and two words more.
pub record IsRoutine (row : RoutineRow) : Type 0 where
  pub entry : row.entry < 2 ^ 32
  pub parameters : IsFrom 0 MOST_PARAMETERS row.parameters
  pub slots : IsFrom row.parameters MOST_SLOTS row.slots
  pub frame : IsFrom (row.slots + 2) MOST_STACK_WORDS row.frame

pub record IsBody (row : BodyRow) : Type 0 where
  pub stack : IsFrom LEAST_STACK_WORDS MOST_STACK_WORDS row.stack
  pub entry : row.entry < 2 ^ 32
  pub slots : IsFrom 0 MOST_SLOTS row.slots
  pub frame : IsFrom (row.slots + 2) row.stack row.frame

-- none, or at least one tick
abbrev pub IsDuration : Option ℕ → Type 0
IsDuration None = Unit {0}
IsDuration (Some ticks) = IsFrom 1 MOST_TICKS ticks

-- A process of a partition with the period `unit`, after the processes `before`: its name differs
-- from theirs, and its period is infinite or a multiple of `unit`.
pub record IsProcess (unit : ℕ) (before : List ProcessRow) (row : ProcessRow) : Type 0 where
  pub name : is_name row.name ≡ true
  pub fresh : is_process before row.name ≡ false
  pub priority : IsFrom 1 GREATEST_PRIORITY row.priority.0
  pub period : IsDuration row.period
  pub multiple : is_infinite_or_multiple unit row.period ≡ true
  pub capacity : IsDuration row.capacity
  pub body : IsBody row.body

abbrev pub IsHandler : Option BodyRow → Type 0
IsHandler None = Unit {0}
IsHandler (Some row) = IsBody row

-- no more procedures and processes than a partition may have
pub record AreBodies (limits : Limits) (unit : ℕ) (b : Bodies) : Type 0 where
  pub routine_count : IsFrom 0 MOST_PROCEDURES (length b.routines)
  pub routines : EachBeside (λ _. IsRoutine) [] b.routines
  pub process_count : IsFrom 0 limits.processes (length b.processes)
  pub processes : EachBeside (IsProcess unit) [] b.processes
  pub init : IsBody b.init
  pub handler : IsHandler b.handler

-- instructions of sixteen bytes, at least one, and every body begins within them
pub record IsCode (b : Bodies) (code : List (List ℕ)) : Type 0 where
  pub count : IsFrom 1 MOST_INSTRUCTIONS (length code)
  pub entries : enter_within (length code) b ≡ true
  pub instructions : EachBeside (λ _ bytes. length bytes ≡ INSTRUCTION_BYTES) [] code

-- the result of compiling the source of a partition with the period `unit`
pub record IsSection (limits : Limits) (unit : ℕ) (s : Section) : Type 0 where
  pub objects : AreObjects limits (objects_in s)
  pub bodies : AreBodies limits unit (bodies_in s)
  pub code : IsCode (bodies_in s) s.code

-- ---- the rows of the module table

-- a refresh period, or a depth
abbrev pub IsPortKind : PortKind → Type 0
IsPortKind (Sampling refresh) = IsFrom 0 MOST_TICKS refresh
IsPortKind (Queuing depth order) = IsFrom 1 MOST_DEPTH depth

-- a port after those before it, with a name that differs from theirs
pub record IsPort (limits : Limits) (before : List PortRow) (row : PortRow) : Type 0 where
  pub name : is_name row.name ≡ true
  pub fresh : is_port before row.name ≡ false
  pub kind : IsPortKind row.kind
  pub words : IsFrom 1 limits.words row.words

-- a partition in a major frame of `frame` ticks, after the partitions `before`
pub record IsPartition (limits : Limits) (frame : ℕ) (before : List Item) (row : Partition) : Type 0 where
  pub name : is_name row.name ≡ true
  pub fresh : is_partition before row.name ≡ false
  pub period : IsFrom 1 frame row.period
  pub duration : IsFrom 0 row.period row.duration
  pub port_count : IsFrom 0 MOST_PORTS (length row.ports)
  pub ports : EachBeside (IsPort limits) [] row.ports

pub record IsItem (limits : Limits) (frame : ℕ) (before : List Item) (it : Item) : Type 0 where
  pub partition : IsPartition limits frame before it.partition
  pub section : IsSection limits it.partition.period it.section

-- a window after those before it: it begins at or after the end of the last of them
pub record IsWindow (before : List WindowRow) (row : WindowRow) : Type 0 where
  pub partition : row.partition.0 < 2 ^ 8
  pub offset : row.offset < 2 ^ 32
  pub after : last_end before ≤ row.offset
  pub length : IsFrom 1 (2 ^ 32 - 1) row.length

-- A port's numbers are not both 0.
abbrev pub IsEnd : ChannelEnd → Type 0
IsEnd Device = Unit {0}
IsEnd (Port p q) = (p.0 < 2 ^ 8) × (q.0 < 2 ^ 8) × (((p.0 == 0) && (q.0 == 0)) ≡ false)

-- a channel after those before it, with at least one destination
pub record IsChannel (before : List Channel) (row : Channel) : Type 0 where
  pub name : is_name row.name ≡ true
  pub fresh : is_channel before row.name ≡ false
  pub source : IsEnd row.source
  pub count : IsFrom 1 MOST_DESTINATIONS (length row.destinations)
  pub destinations : EachBeside (λ _. IsEnd) [] row.destinations

-- ---- the image

-- all fields within the limits of the version
pub record IsWithinLimits (image : Image) : Type 0 where
  pub frame : IsFrom 1 MOST_FRAME_TICKS image.schedule.frame
  pub item_count : IsFrom 1 (limits_of image.version).partitions (length image.items)
  pub items : EachBeside (IsItem (limits_of image.version) image.schedule.frame) [] image.items
  pub window_count : IsFrom 1 MOST_WINDOWS (length image.schedule.windows)
  pub windows : EachBeside IsWindow [] image.schedule.windows
  pub channel_count : IsFrom 0 MOST_CHANNELS (length image.channels)
  pub channels : EachBeside IsChannel [] image.channels

-- the images that have a spelling which is read again
pub record IsLawful (image : Image) : Type 0 where
  pub limits : IsWithinLimits image
  pub rules : keeps_table_rules image ≡ true
