-- Reading an image from left to right, with the first fault that is found: each field is checked
-- when it is read, before the next one.
use Rattle.std.specs.Prelude.{ℕ, zero, suc, ◌+◌, ◌-◌, ◌%◌, ◌^◌, ℤ, pos, negsuc, Bool, true, false, ◌&&◌, ◌||◌, List, [], ◌∷◌, ◌++◌, length, map, take, drop, max, slice_get, Option, Some, None, Result, Ok, Err, nat_lt, nat_le, ◌==◌, if◌then◌else◌}
use Rattle.std.specs.List.{list_all, list_any}
use Rattle.std.specs.Str.{bytes_eq}
use Rattle.std.specs.Int.{Width, w16, w32, w64, byte_len, from_le_bytes, cast_signed}
use Rattle.apex_types.specs.Limits.{GREATEST_PRIORITY, INSTRUCTION_BYTES, LEAST_STACK_WORDS, MOST_CHANNELS, MOST_DATA_WORDS, MOST_DEPTH, MOST_DESTINATIONS, MOST_FRAME_TICKS, MOST_INSTRUCTIONS, MOST_NAME_BYTES, MOST_OBJECTS, MOST_PORTS, MOST_PROCEDURES, MOST_SEMAPHORE_VALUE, MOST_SLOTS, MOST_STACK_WORDS, MOST_TICKS, MOST_WINDOWS}
use Rattle.apex_types.specs.Costs.{cost_of_ticks, from_order}
use Rattle.apex_types.specs.declared.cost.TheConstants.{COST_KEYS}
use Rattle.apex_types.specs.NameText.{is_name}
use Rattle.apex_types.specs.declared.cost.TickCost.{TickCost}
use Rattle.apex_types.specs.declared.cost.Costs.{Costs}
use Rattle.apex_types.specs.Versions.{limits_of}
use Rattle.apex_types.specs.declared.version.Limits.{Limits}
use Rattle.apex_types.specs.declared.version.TheConstants.{FIRST_VERSION, SECOND_VERSION, THIRD_VERSION}
use Rattle.apex_types.specs.declared.version.ImageVersion.{ImageVersion}
use Rattle.apex_types.specs.declared.version.ImageVersion.TheVariants.{First, Second, Third}
use Rattle.module_meaning.specs.ImageRules.{keeps_rules}
use Rattle.apex_types.specs.declared.codes.Discipline.{Discipline}
use Rattle.apex_types.specs.declared.codes.Discipline.TheVariants.{Fifo, Priority}
use Rattle.apex_types.specs.declared.codes.ModuleAction.{ModuleAction}
use Rattle.apex_types.specs.declared.codes.ModuleAction.TheVariants as of_module
use Rattle.apex_types.specs.declared.codes.PartitionAction.{PartitionAction}
use Rattle.apex_types.specs.declared.codes.PartitionAction.TheVariants as of_partition
use Rattle.apex_types.specs.declared.row.HealthTable.{HealthTable}
use Rattle.apex_types.specs.declared.row.PortDirection.{PortDirection}
use Rattle.apex_types.specs.declared.row.PortDirection.TheVariants.{Source, Destination}
use Rattle.apex_types.specs.declared.row.PortKind.{PortKind}
use Rattle.apex_types.specs.declared.row.PortKind.TheVariants.{Sampling, Queuing}
use Rattle.apex_types.specs.declared.row.PortRow.{PortRow}
use Rattle.apex_types.specs.declared.row.WindowRow.{WindowRow}
use Rattle.apex_types.specs.declared.row.ChannelEnd.{ChannelEnd}
use Rattle.apex_types.specs.declared.row.ChannelEnd.TheVariants.{Device, Port}
use Rattle.apex_types.specs.declared.row.SemaphoreRow.{SemaphoreRow}
use Rattle.apex_types.specs.declared.row.BufferRow.{BufferRow}
use Rattle.apex_types.specs.declared.row.BlackboardRow.{BlackboardRow}
use Rattle.apex_types.specs.declared.row.RoutineRow.{RoutineRow}
use Rattle.apex_types.specs.declared.row.ProcessRow.{ProcessRow}
use Rattle.apex_types.specs.declared.row.BodyRow.{BodyRow}
use Rattle.machine_meaning.specs.Section.{Section}
use Rattle.module_meaning.specs.Table.{Partition, Channel}
use Rattle.machine_meaning.specs.Image.{Item, Image}
use Rattle.machine_meaning.specs.Image.{magic, Objects, Bodies}

-- Truncated: a field is incomplete. Foreign: another magic or version. Limit: a value outside its
-- limit. Order: a name used before among its kind, or a window that begins before the end of the
-- one before. Trailing: bytes after the last field.
pub data Fault : Type 0 where
  Truncated : Fault
  Foreign : Fault
  Limit : Fault
  Order : Fault
  Trailing : Fault

-- a value and the bytes after it, or the first fault
abbrev pub Read : Type 0 → Type 0
Read A = Result (A × List ℕ) Fault

infixl 10 ◌>>=◌
abbrev pub ◌>>=◌ : {A B : Type 0} → Result A Fault → (A → Result B Fault) → Result B Fault
(Ok x) >>= f = f x
(Err e) >>= f = Err e

-- ---- numbers and names

abbrev pub number_at : Width → List ℕ → Read ℕ
number_at w bytes = if nat_lt (length bytes) (byte_len w) then Err Truncated else Ok (from_le_bytes w (take (byte_len w) bytes), drop (byte_len w) bytes)

abbrev pub byte_at : List ℕ → Read ℕ
byte_at [] = Err Truncated
byte_at (b ∷ rest) = Ok (b, rest)

-- a signed number of 64 bits
unfoldable pub word_at : List ℕ → Read ℤ
word_at bytes = do
  n ← number_at w64 bytes
  Ok (cast_signed w64 n.0, n.1)

-- what was read, if it is from `low` to `high`
abbrev pub within : ℕ → ℕ → ℕ × List ℕ → Read ℕ
within low high read = if nat_lt read.0 low || nat_lt high read.0 then Err Limit else Ok read

unfoldable pub limited_at : Width → ℕ → ℕ → List ℕ → Read ℕ
limited_at w low high bytes = number_at w bytes >>= within low high

unfoldable pub small_at : ℕ → ℕ → List ℕ → Read ℕ
small_at low high bytes = byte_at bytes >>= within low high

-- reads `size` bytes unchanged
unfoldable pub bytes_at : ℕ → List ℕ → Read (List ℕ)
bytes_at size bytes = if nat_lt (length bytes) size then Err Truncated else Ok (take size bytes, drop size bytes)

-- The length of a name is judged before its bytes, its form when all are there.
unfoldable pub name_at : List ℕ → Read (List ℕ)
name_at bytes = do
  size ← small_at 1 MOST_NAME_BYTES bytes
  text ← bytes_at size.0 size.1
  if is_name text.0 then Ok text else Err Limit

-- a name that none before it has
unfoldable pub fresh_name_at : (List ℕ → Bool) → List ℕ → Read (List ℕ)
fresh_name_at is_used bytes = do
  text ← name_at bytes
  if is_used text.0 then Err Order else Ok text

-- ---- choices

-- the value of a byte, or a fault if it has none
abbrev pub chosen : {A : Type 0} → List ℕ → Option A → Read A
chosen rest None = Err Limit
chosen rest (Some a) = Ok (a, rest)

unfoldable pub choice_at : {A : Type 0} → (ℕ → Option A) → List ℕ → Read A
choice_at choose bytes = do
  n ← byte_at bytes
  chosen n.1 (choose n.0)

abbrev pub module_action_of : ℕ → Option ModuleAction
module_action_of n = if n == 0 then Some of_module.Ignore else if n == 1 then Some of_module.Shutdown else if n == 2 then Some of_module.Reset else None

abbrev pub partition_action_of : ℕ → Option PartitionAction
partition_action_of n = if n == 0 then Some of_partition.Ignore else if n == 1 then Some of_partition.Idle else if n == 2 then Some of_partition.WarmStart else if n == 3 then Some of_partition.ColdStart else None

abbrev pub discipline_of : ℕ → Option Discipline
discipline_of n = if n == 0 then Some Fifo else if n == 1 then Some Priority else None

abbrev pub direction_of : ℕ → Option PortDirection
direction_of n = if n == 0 then Some Source else if n == 1 then Some Destination else None

abbrev pub truth_of : ℕ → Option Bool
truth_of n = if n == 0 then Some false else if n == 1 then Some true else None

-- ---- lists

-- reads n items, each checked against those before it
unfoldable pub items_at : {A : Type 0} → (List A → List ℕ → Read A) → ℕ → List A → List ℕ → Read (List A)
items_at item zero before bytes = Ok (before, bytes)
items_at item (suc n) before bytes = do
  next ← item before bytes
  items_at item n (before ++ next.0 ∷ []) next.1

-- a count from low to high, and the items
unfoldable pub list_at : {A : Type 0} → ℕ → ℕ → (List A → List ℕ → Read A) → List ℕ → Read (List A)
list_at low high item bytes = do
  count ← limited_at w32 low high bytes
  items_at item count.0 [] count.1

-- ---- a partition's row

-- the actions of four errors and of three, by the errors' numbers
unfoldable pub health_at : List ℕ → Read HealthTable
health_at bytes = do
  deadline_missed ← choice_at partition_action_of bytes
  application_error ← choice_at partition_action_of deadline_missed.1
  numeric_error ← choice_at partition_action_of application_error.1
  illegal_request ← choice_at partition_action_of numeric_error.1
  stack_overflow ← choice_at partition_action_of illegal_request.1
  memory_violation ← choice_at partition_action_of stack_overflow.1
  hardware_fault ← choice_at partition_action_of memory_violation.1
  Ok (record { deadline_missed = deadline_missed.0; application_error = application_error.0; numeric_error = numeric_error.0; illegal_request = illegal_request.0; stack_overflow = stack_overflow.0; memory_violation = memory_violation.0; hardware_fault = hardware_fault.0 }, hardware_fault.1)

-- refresh, depth and discipline; the fields of the other kind are 0
unfoldable pub sampling_at : List ℕ → Read PortKind
sampling_at bytes = do
  refresh ← limited_at w64 0 MOST_TICKS bytes
  depth ← small_at 0 0 refresh.1
  order ← small_at 0 0 depth.1
  Ok (Sampling refresh.0, order.1)

unfoldable pub queuing_at : List ℕ → Read PortKind
queuing_at bytes = do
  refresh ← limited_at w64 0 0 bytes
  depth ← small_at 1 MOST_DEPTH refresh.1
  order ← choice_at discipline_of depth.1
  Ok (Queuing depth.0 order.0, order.1)

abbrev pub is_port : List PortRow → List ℕ → Bool
is_port rows name = list_any (λ row. bytes_eq row.name name) rows

-- the fields of the kind of this number
unfoldable pub kind_at : ℕ → List ℕ → Read PortKind
kind_at number bytes = if number == 0 then sampling_at bytes else queuing_at bytes

unfoldable pub port_at : Limits → List PortRow → List ℕ → Read PortRow
port_at limits before bytes = do
  name ← fresh_name_at (is_port before) bytes
  kind ← small_at 0 1 name.1
  direction ← choice_at direction_of kind.1
  words ← small_at 1 limits.words direction.1
  fields ← kind_at kind.0 words.1
  Ok (record { name = name.0; kind = fields.0; direction = direction.0; words = words.0 }, fields.1)

abbrev pub is_partition : List Item → List ℕ → Bool
is_partition items name = list_any (λ it. bytes_eq it.partition.name name) items

unfoldable pub partition_at : Limits → ℕ → List Item → List ℕ → Read Partition
partition_at limits frame before bytes = do
  name ← fresh_name_at (is_partition before) bytes
  period ← limited_at w32 1 frame name.1
  duration ← limited_at w32 0 period.0 period.1
  health ← health_at duration.1
  ports ← list_at 0 MOST_PORTS (port_at limits) health.1
  Ok (record { name = name.0; period = period.0; duration = duration.0; health = health.0; ports = ports.0 }, ports.1)

-- ---- the section of a partition

unfoldable pub semaphore_at : List ℕ → Read SemaphoreRow
semaphore_at bytes = do
  value ← limited_at w32 0 MOST_SEMAPHORE_VALUE bytes
  maximum ← limited_at w32 (max 1 value.0) MOST_SEMAPHORE_VALUE value.1
  order ← choice_at discipline_of maximum.1
  Ok (record { value = value.0; maximum = maximum.0; discipline = order.0 }, order.1)

unfoldable pub buffer_at : Limits → List ℕ → Read BufferRow
buffer_at limits bytes = do
  words ← small_at 1 limits.words bytes
  depth ← small_at 1 MOST_DEPTH words.1
  order ← choice_at discipline_of depth.1
  Ok (record { words = words.0; depth = depth.0; discipline = order.0 }, order.1)

unfoldable pub blackboard_at : Limits → List ℕ → Read BlackboardRow
blackboard_at limits bytes = do
  words ← small_at 1 limits.words bytes
  Ok (record { words = words.0 }, words.1)

-- The frame of a procedure has room for its slots and two words more. Entries are judged when the
-- count of instructions is read.
unfoldable pub routine_at : List ℕ → Read RoutineRow
routine_at bytes = do
  entry ← number_at w32 bytes
  parameters ← small_at 0 8 entry.1
  slots ← limited_at w16 parameters.0 MOST_SLOTS parameters.1
  frame ← limited_at w32 (slots.0 + 2) MOST_STACK_WORDS slots.1
  Ok (record { entry = entry.0; parameters = parameters.0; slots = slots.0; frame = frame.0 }, frame.1)

unfoldable pub body_at : List ℕ → Read BodyRow
body_at bytes = do
  stack ← limited_at w16 LEAST_STACK_WORDS MOST_STACK_WORDS bytes
  entry ← number_at w32 stack.1
  slots ← limited_at w16 0 MOST_SLOTS entry.1
  frame ← limited_at w32 (slots.0 + 2) stack.0 slots.1
  Ok (record { stack = stack.0; entry = entry.0; slots = slots.0; frame = frame.0 }, frame.1)

-- -1 is none, a finite duration is 1 to 2^40 ticks
abbrev pub duration_of : ℤ → Option (Option ℕ)
duration_of (pos n) = if nat_le 1 n && nat_le n MOST_TICKS then Some (Some n) else None
duration_of (negsuc n) = if n == 0 then Some None else None

unfoldable pub duration_at : List ℕ → Read (Option ℕ)
duration_at bytes = do
  word ← word_at bytes
  chosen word.1 (duration_of word.0)

-- whether a period is infinite, or a multiple of the partition's
abbrev pub is_infinite_or_multiple : ℕ → Option ℕ → Bool
is_infinite_or_multiple unit None = true
is_infinite_or_multiple unit (Some n) = n % unit == 0

-- a finite period of a process is a multiple of the partition's
unfoldable pub period_at : ℕ → List ℕ → Read (Option ℕ)
period_at unit bytes = do
  period ← duration_at bytes
  if is_infinite_or_multiple unit period.0 then Ok period else Err Limit

abbrev pub is_process : List ProcessRow → List ℕ → Bool
is_process rows name = list_any (λ row. bytes_eq row.name name) rows

unfoldable pub process_at : ℕ → List ProcessRow → List ℕ → Read ProcessRow
process_at unit before bytes = do
  name ← fresh_name_at (is_process before) bytes
  priority ← small_at 1 GREATEST_PRIORITY name.1
  period ← period_at unit priority.1
  capacity ← duration_at period.1
  body ← body_at capacity.1
  Ok (record { name = name.0; priority = record { 0 = priority.0 }; period = period.0; capacity = capacity.0; body = body.0 }, body.1)

unfoldable pub handler_at : List ℕ → Read (Option BodyRow)
handler_at bytes = do
  there ← choice_at truth_of bytes
  if there.0 then (body_at there.1 >>= λ body. Ok (Some body.0, body.1)) else Ok (None, there.1)

unfoldable pub objects_at : Limits → List ℕ → Read Objects
objects_at limits bytes = do
  initial ← list_at 0 MOST_DATA_WORDS (λ _. word_at) bytes
  semaphores ← list_at 0 MOST_OBJECTS (λ _. semaphore_at) initial.1
  events ← small_at 0 MOST_OBJECTS semaphores.1
  buffers ← list_at 0 MOST_OBJECTS (λ _. buffer_at limits) events.1
  blackboards ← list_at 0 MOST_OBJECTS (λ _. blackboard_at limits) buffers.1
  Ok (record { initial = initial.0; semaphores = semaphores.0; events = events.0; buffers = buffers.0; blackboards = blackboards.0 }, blackboards.1)

unfoldable pub bodies_at : Limits → ℕ → List ℕ → Read Bodies
bodies_at limits unit bytes = do
  routines ← list_at 0 MOST_PROCEDURES (λ _. routine_at) bytes
  processes ← list_at 0 limits.processes (process_at unit) routines.1
  init ← body_at processes.1
  handler ← handler_at init.1
  Ok (record { routines = routines.0; processes = processes.0; init = init.0; handler = handler.0 }, handler.1)

abbrev pub handler_enters : ℕ → Option BodyRow → Bool
handler_enters count None = true
handler_enters count (Some body) = nat_lt body.entry count

-- every body begins at one of the first `count` instructions
abbrev pub enter_within : ℕ → Bodies → Bool
enter_within count bodies =
    list_all (λ row. nat_lt row.entry count) bodies.routines
    && list_all (λ row. nat_lt row.body.entry count) bodies.processes
    && nat_lt bodies.init.entry count && handler_enters count bodies.handler

-- The count of instructions is judged, then every entry, then the instructions are there as they are.
unfoldable pub code_at : Bodies → List ℕ → Read (List (List ℕ))
code_at bodies bytes = do
  count ← limited_at w32 1 MOST_INSTRUCTIONS bytes
  if enter_within count.0 bodies then items_at (λ _. bytes_at INSTRUCTION_BYTES) count.0 [] count.1 else Err Limit

unfoldable pub section_at : Limits → ℕ → List ℕ → Read Section
section_at limits unit bytes = do
  o ← objects_at limits bytes
  b ← bodies_at limits unit o.1
  code ← code_at b.0 b.1
  Ok (record { initial = o.0.initial; semaphores = o.0.semaphores; events = o.0.events; buffers = o.0.buffers; blackboards = o.0.blackboards; routines = b.0.routines; processes = b.0.processes; init = b.0.init; handler = b.0.handler; code = code.0 }, code.1)

unfoldable pub item_at : Limits → ℕ → List Item → List ℕ → Read Item
item_at limits frame before bytes = do
  row ← partition_at limits frame before bytes
  section ← section_at limits row.0.period row.1
  Ok (record { partition = row.0; section = section.0 }, section.1)

-- ---- windows and channels

abbrev pub end_of : Option WindowRow → ℕ
end_of None = 0
end_of (Some row) = row.offset + row.length

-- the end of the last of these windows
abbrev pub last_end : List WindowRow → ℕ
last_end rows = end_of (slice_get rows (length rows - 1))

abbrev pub not_before : ℕ → ℕ × List ℕ → Read ℕ
not_before end read = if nat_lt read.0 end then Err Order else Ok read

-- Partition and port numbers of windows and channels are judged after the last field.
unfoldable pub offset_at : ℕ → List ℕ → Read ℕ
offset_at end bytes = number_at w32 bytes >>= not_before end

unfoldable pub window_at : List WindowRow → List ℕ → Read WindowRow
window_at before bytes = do
  partition ← byte_at bytes
  offset ← offset_at (last_end before) partition.1
  span ← limited_at w32 1 (2 ^ 32 - 1) offset.1
  release ← choice_at truth_of span.1
  Ok (record { partition = record { 0 = partition.0 }; offset = offset.0; length = span.0; release = release.0 }, release.1)

-- DEVICE is 0, 0
abbrev pub end_between : ℕ → ℕ → ChannelEnd
end_between p q = if (p == 0) && (q == 0) then Device else Port (record { 0 = p }) (record { 0 = q })

unfoldable pub channel_end_at : List ℕ → Read ChannelEnd
channel_end_at bytes = do
  partition ← byte_at bytes
  port ← byte_at partition.1
  Ok (end_between partition.0 port.0, port.1)

abbrev pub is_channel : List Channel → List ℕ → Bool
is_channel rows name = list_any (λ row. bytes_eq row.name name) rows

unfoldable pub channel_at : List Channel → List ℕ → Read Channel
channel_at before bytes = do
  name ← fresh_name_at (is_channel before) bytes
  source ← channel_end_at name.1
  destinations ← list_at 1 MOST_DESTINATIONS (λ _. channel_end_at) source.1
  Ok (record { name = name.0; source = source.0; destinations = destinations.0 }, destinations.1)

-- ---- the image

-- Fewer than eight bytes are Truncated, whatever they are.
unfoldable pub magic_at : List ℕ → Read (List ℕ)
magic_at bytes = do
  text ← bytes_at 8 bytes
  if bytes_eq text.0 magic then Ok text else Err Foreign

unfoldable pub version_at : List ℕ → Read ℕ
version_at bytes = do
  text ← magic_at bytes
  number ← number_at w16 text.1
  if (number.0 == FIRST_VERSION) || (number.0 == SECOND_VERSION) || (number.0 == THIRD_VERSION) then Ok number else Err Foreign

unfoldable pub cost_at : List ℕ → Read TickCost
cost_at bytes = do
  n ← number_at w16 bytes
  chosen n.1 (cost_of_ticks n.0)

-- the costs in the order of a table's keys
unfoldable pub costs_at : List ℕ → Read Costs
costs_at bytes = do
  costs ← items_at (λ _. cost_at) COST_KEYS [] bytes
  chosen costs.1 (from_order costs.0)

-- what an image has as one of the version with this number
unfoldable pub own_fields_at : ℕ → List ℕ → Read ImageVersion
own_fields_at number bytes =
    if number == FIRST_VERSION then Ok (First, bytes)
    else (costs_at bytes >>= λ costs. Ok (if number == SECOND_VERSION then Second costs.0 else Third costs.0, costs.1))

-- all fields, and the bytes after them
unfoldable pub fields_at : List ℕ → Read Image
fields_at bytes = do
  number ← version_at bytes
  frame ← limited_at w32 1 MOST_FRAME_TICKS number.1
  fault ← choice_at module_action_of frame.1
  version ← own_fields_at number.0 fault.1
  items ← list_at 1 (limits_of version.0).partitions (item_at (limits_of version.0) frame.0) version.1
  windows ← list_at 1 MOST_WINDOWS window_at items.1
  channels ← list_at 0 MOST_CHANNELS channel_at windows.1
  Ok (record { schedule = record { frame = frame.0; windows = windows.0 }; fault = fault.0; version = version.0; items = items.0; channels = channels.0 }, channels.1)

abbrev pub partitions_in : Image → List Partition
partitions_in image = map (λ it. it.partition) image.items

-- the rules of the module table
abbrev pub keeps_table_rules : Image → Bool
keeps_table_rules image = keeps_rules image.schedule (partitions_in image) image.channels

-- The image's verdict: no bytes follow the last field, and the rules of the module table are kept.
unfoldable pub image_at : List ℕ → Result Image Fault
image_at bytes = do
  image ← fields_at bytes
  if length image.1 == 0 then (if keeps_table_rules image.0 then Ok image.0 else Err Limit) else Err Trailing
