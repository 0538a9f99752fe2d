-- The rows of a state: of the module, and of each partition.
use Rattle.std.specs.Prelude.{ℕ, zero, suc, ◌+◌, ◌-◌, ℤ, Bool, List, [], ◌∷◌, ◌++◌, take, drop, find, codes, Option, Some, None, option_map, slice_get, if◌then◌else◌, length}
use Rattle.std.specs.Int.{div_ceil}
use Rattle.arrayvec.specs.ArrayVec.{ArrayVec}
use Rattle.apex_types.specs.CodeWords.{mode_word, state_word, error_word}
use Rattle.apex_types.specs.Line.{subject_text}
use Rattle.apex_types.specs.ServiceShape.{service_word}
use Rattle.apex_types.specs.declared.codes.Discipline.{Discipline}
use Rattle.apex_types.specs.declared.codes.Discipline.TheVariants as discipline
use Rattle.apex_types.specs.declared.identity.At.{At}
use Rattle.apex_types.specs.declared.identity.ListKey.{ListKey}
use Rattle.apex_types.specs.declared.identity.ListKey.TheVariants as key
use Rattle.apex_types.specs.declared.identity.ProcessIndex.{ProcessIndex}
use Rattle.apex_types.specs.declared.identity.Runner.{Runner}
use Rattle.apex_types.specs.declared.identity.Runner.TheVariants as runner
use Rattle.apex_types.specs.declared.identity.Ticks.{Ticks}
use Rattle.apex_types.specs.declared.process.Due.{Due}
use Rattle.apex_types.specs.declared.process.Due.TheVariants as due
use Rattle.apex_types.specs.declared.process.Entry.{Entry}
use Rattle.apex_types.specs.declared.process.Lock.{Lock}
use Rattle.apex_types.specs.declared.process.Lock.TheVariants as lock
use Rattle.apex_types.specs.declared.process.ProcessStatus.{ProcessStatus}
use Rattle.apex_types.specs.declared.process.Wait.{Wait}
use Rattle.apex_types.specs.declared.process.Wait.TheVariants as wait
use Rattle.apex_types.specs.declared.process.WaitingError.{WaitingError}
use Rattle.apex_types.specs.declared.row.PortDirection.{PortDirection}
use Rattle.apex_types.specs.declared.row.PortDirection.TheVariants as direction
use Rattle.apex_types.specs.declared.row.PortKind.{PortKind}
use Rattle.apex_types.specs.declared.row.PortKind.TheVariants as kind
use Rattle.apex_types.specs.declared.row.WindowRow.{WindowRow}
use Rattle.apex_types.specs.declared.service.ArrayPlace.{ArrayPlace}
use Rattle.apex_types.specs.declared.service.Service.{Service}
use Rattle.apex_types.specs.declared.service.Service.TheVariants as service
use Rattle.kernel_meaning.specs.Kernel.{Kernel}
use Rattle.kernel_meaning.specs.Objects.{Objects, Semaphore, ApexEvent, Buffer, Blackboard, Port}
use Rattle.kernel_meaning.specs.Partition.{Member, control_at}
use Rattle.kernel_meaning.specs.PartitionServices.{number_of_condition}
use Rattle.kernel_meaning.specs.Processes.{Processes, subject, index}
use Rattle.kernel_meaning.specs.ProcessServices.{level_of}
use Rattle.kernel_meaning.specs.Sharing.{waiting, handed_by}
use Rattle.kernel_meaning.specs.Windows.{Schedule, phase, is_within, ended, tick_from}
use Rattle.machine_meaning.specs.Image.{Image, Item}
use Rattle.machine_meaning.specs.Instructions.{fields, name_of_opcode}
use Rattle.machine_meaning.specs.MachineControl.{MachineControl}
use Rattle.module_meaning.specs.Standing.{Standing}
use Rattle.module_meaning.specs.Table.{at_number}
use Rattle.state_rows.specs.Rows.{Value, Nothing, Count, Signed, Word, Words, Field, Row}

-- ---- fields

abbrev pub field : List ℕ → Value → Field
field key value = record { key = key; value = value }

abbrev pub number : List ℕ → ℕ → Field
number key n = field key (Count n)

abbrev pub word : List ℕ → List ℕ → Field
word key text = field key (Word text)

abbrev pub count_or_none : Option ℕ → Value
count_or_none None = Nothing
count_or_none (Some n) = Count n

abbrev pub word_or_none : Option (List ℕ) → Value
word_or_none None = Nothing
word_or_none (Some text) = Word text

abbrev pub tick_or_none : Option Ticks → Value
tick_or_none t = count_or_none (option_map (λ t. t.0) t)

-- 1 or 0
abbrev pub flag : List ℕ → Bool → Field
flag key b = number key (if b then 1 else 0)

abbrev pub row : List ℕ → List Field → Row
row partition fields = record { partition = Some partition; fields = fields }

abbrev pub module_row : List Field → Row
module_row fields = record { partition = None; fields = fields }

-- the rows of each item of a list, with its place, from `place` on
abbrev pub placed_from : {A : Type 0} → (ℕ → A → List Row) → ℕ → List A → List Row
placed_from rows place [] = []
placed_from rows place (x ∷ xs) = rows place x ++ placed_from rows (place + 1) xs

abbrev pub placed : {A : Type 0} → (ℕ → A → List Row) → List A → List Row
placed rows xs = placed_from rows 0 xs

-- so many rows of eight words, the first from `place` on, each with its place and these fields
abbrev pub eights : List ℕ → List ℕ → List Field → List ℤ → (rows place : ℕ) → List Row
eights partition key more words zero place = []
eights partition key more words (suc rows) place =
    row partition (number key place ∷ more ++ field (codes "values") (Words (take 8 (drop place words))) ∷ [])
    ∷ eights partition key more words rows (place + 8)

-- words in rows of eight
abbrev pub word_rows : List ℕ → List ℕ → List Field → List ℤ → List Row
word_rows partition key more words = eights partition key more words (div_ceil (length words) 8) 0

-- ---- the module

-- the window that holds a tick
abbrev pub window_at : Schedule → At → Option WindowRow
window_at s at = find (is_within (phase s at)) s.windows

-- the name of the partition with a number, if one is given
abbrev pub name_of : List Item → Option ℕ → Value
name_of items None = Nothing
name_of items (Some n) = word_or_none (option_map (λ i. i.partition.name) (at_number items n))

-- the tick in which a window begins that holds a tick
abbrev pub begin_of : Schedule → At → WindowRow → ℕ
begin_of s at w = at.now.0 - phase s at + w.offset

-- whose the tick is, with the first tick of its window and the first one after it; and whose window has ended, so that its
-- messages move in this tick
abbrev pub owner_row : List Item → Schedule → At → Option WindowRow → Row
owner_row items s at w =
    module_row
    (field (codes "owner") (name_of items (option_map (λ w. w.partition.0) w))
    ∷ field (codes "begin") (count_or_none (option_map (λ w. begin_of s at w) w))
    ∷ field (codes "end") (count_or_none (option_map (λ w. begin_of s at w + w.length) w))
    ∷ field (codes "ended") (name_of items (ended s at))
    ∷ [])

abbrev pub tick_row : ℕ → Option ℕ → Row
tick_row n origin = module_row (number (codes "tick") n ∷ field (codes "origin") (count_or_none origin) ∷ [])

-- the tick, and the origin from which the frames count; no origin and no owner after a shutdown
abbrev pub module_rows : Image → ℕ → Option ℕ → List Row
module_rows image n None = tick_row n None ∷ []
module_rows image n (Some origin) =
    let at = tick_from origin n in
    tick_row n (Some origin) ∷ owner_row image.items image.schedule at (window_at image.schedule at) ∷ []

-- ---- the mode of a partition

abbrev pub name_in : Processes → Runner → List ℕ
name_in s p = subject_text (subject s p)

abbrev pub holder_of : Processes → Lock → Value
holder_of s lock.Free = Nothing
holder_of s (lock.Held level holder) = Word (name_in s (runner.Process holder))

abbrev pub running_of : Processes → Option Runner → Value
running_of s p = word_or_none (option_map (name_in s) p)

abbrev pub mode_row : List ℕ → Kernel → Row
mode_row partition k =
    row partition
    (word (codes "mode") (mode_word k.mode)
    ∷ number (codes "start") (number_of_condition k.condition)
    ∷ number (codes "lock") (level_of k.processes.lock)
    ∷ field (codes "holder") (holder_of k.processes k.processes.lock)
    ∷ field (codes "running") (running_of k.processes k.processes.running)
    ∷ flag (codes "handler") k.errors.has_handler
    ∷ [])

-- ---- its processes

-- the runner with a place among the records, as place_of counts
abbrev pub runner_at : ℕ → Runner
runner_at zero = runner.Init
runner_at (suc zero) = runner.Handler
runner_at (suc (suc place)) = runner.Process (index place)

-- the number by which programs know a runner; INIT and the handler have none
abbrev pub number_of : Runner → Value
number_of runner.Init = Nothing
number_of runner.Handler = Nothing
number_of (runner.Process p) = Count (p.0 + 1)

abbrev pub process_row : List ℕ → Runner → ProcessStatus → Row
process_row partition p r =
    row partition
    (word (codes "process") (subject_text r.who)
    ∷ field (codes "number") (number_of p)
    ∷ flag (codes "created") r.created
    ∷ word (codes "state") (state_word r.state)
    ∷ number (codes "priority") r.current_priority.0
    ∷ number (codes "base") r.base_priority.0
    ∷ flag (codes "suspended") r.suspended
    ∷ field (codes "period") (tick_or_none r.period)
    ∷ field (codes "capacity") (tick_or_none r.capacity)
    ∷ number (codes "release") r.release.0
    ∷ field (codes "deadline") (tick_or_none r.deadline)
    ∷ [])

-- what happens at the due time of a process, and when
abbrev pub due_word : Option Due → Value
due_word None = Nothing
due_word (Some (due.Release t)) = Word (codes "RELEASE")
due_word (Some (due.Delay t)) = Word (codes "DELAY")
due_word (Some (due.TimeOut t)) = Word (codes "TIME_OUT")

abbrev pub due_tick : Option Due → Value
due_tick None = Nothing
due_tick (Some (due.Release t)) = Count t.0
due_tick (Some (due.Delay t)) = Count t.0
due_tick (Some (due.TimeOut t)) = Count t.0

-- one that waits, its due time, and what it waits for
abbrev pub waits_fields : ProcessStatus → List ℕ → List Field
waits_fields r for =
    word (codes "waits") (subject_text r.who)
    ∷ field (codes "due") (due_word r.due)
    ∷ field (codes "at") (due_tick r.due)
    ∷ word (codes "for") for
    ∷ []

-- the array of a receiver, its place and its size
abbrev pub array_fields : Option ArrayPlace → List Field
array_fields None = []
array_fields (Some a) = field (codes "array") (Words (a.base ∷ a.size ∷ [])) ∷ []

-- the message of a sender
abbrev pub given_fields : Service → ArrayVec ℤ → List Field
given_fields service.SendBuffer message = field (codes "gives") (Words message.items) ∷ []
given_fields service.SendQueuingMessage message = field (codes "gives") (Words message.items) ∷ []
given_fields _ message = []

abbrev pub waits_row : List ℕ → ProcessStatus → List ℕ → List Field → List Row
waits_row partition r for more = row partition (waits_fields r for ++ more) ∷ []

-- what one waits for; it has handed in this message
abbrev pub wait_rows : List ℕ → ProcessStatus → ArrayVec ℤ → Wait → List Row
wait_rows partition r message wait.Nothing = []
wait_rows partition r message (wait.NormalStart delay) = waits_row partition r (codes "NORMAL_START") (number (codes "delay") delay.0 ∷ [])
wait_rows partition r message wait.FirstRelease = waits_row partition r (codes "FIRST_RELEASE") []
wait_rows partition r message (wait.Service s) = waits_row partition r (service_word s) []
wait_rows partition r message (wait.Object s array) = waits_row partition r (service_word s) (array_fields array ++ given_fields s message)

abbrev pub process_rows : List ℕ → Processes → ℕ → ProcessStatus → List Row
process_rows partition s place r =
    let p = runner_at place in
    process_row partition p r ∷ wait_rows partition r (handed_by s p) r.wait

-- ---- its lists

-- the process of an entry, and its priority when it joined the list
abbrev pub entry_fields : Processes → Entry → List Field
entry_fields s e = word (codes "process") (name_in s (runner.Process e.process)) ∷ number (codes "priority") e.priority.0 ∷ []

-- a ready process, by its place in the order of choice, counted from 1
abbrev pub ready_row : List ℕ → Processes → ℕ → Entry → List Row
ready_row partition s place e = row partition (number (codes "ready") (place + 1) ∷ entry_fields s e) ∷ []

-- one that waits for an object or a port, by its place in the order of release
abbrev pub waiter_row : List ℕ → Processes → Field → ℕ → Entry → List Row
waiter_row partition s object place e = row partition (number (codes "waiter") (place + 1) ∷ object ∷ entry_fields s e) ∷ []

abbrev pub waiter_rows : List ℕ → Processes → Field → ListKey → List Row
waiter_rows partition s object list = placed (waiter_row partition s object) (waiting s list)

-- a message of an object or a port, by its place, the oldest first
abbrev pub message_row : List ℕ → Field → ℕ → ArrayVec ℤ → List Row
message_row partition object place message =
    row partition (number (codes "message") (place + 1) ∷ object ∷ field (codes "values") (Words message.items) ∷ []) ∷ []

abbrev pub message_rows : List ℕ → Field → List (ArrayVec ℤ) → List Row
message_rows partition object messages = placed (message_row partition object) messages

-- ---- its objects and ports, each at its place among those of its kind

abbrev pub discipline_word : Discipline → List ℕ
discipline_word discipline.Fifo = codes "FIFO"
discipline_word discipline.Priority = codes "PRIORITY"

abbrev pub semaphore_rows : List ℕ → Processes → ℕ → Semaphore → List Row
semaphore_rows partition s place x =
    let object = number (codes "semaphore") (place + 1) in
    row partition
    (object
    ∷ flag (codes "created") x.created
    ∷ number (codes "value") x.value
    ∷ number (codes "maximum") x.row.maximum
    ∷ word (codes "discipline") (discipline_word x.row.discipline)
    ∷ [])
    ∷ waiter_rows partition s object (key.Semaphore place)

abbrev pub event_rows : List ℕ → Processes → ℕ → ApexEvent → List Row
event_rows partition s place x =
    let object = number (codes "event") (place + 1) in
    row partition (object ∷ flag (codes "created") x.created ∷ flag (codes "up") x.up ∷ [])
    ∷ waiter_rows partition s object (key.Event place)

abbrev pub buffer_row : List ℕ → Field → Buffer → Row
buffer_row partition object x =
    row partition
    (object
    ∷ flag (codes "created") x.created
    ∷ number (codes "words") x.row.words
    ∷ number (codes "depth") x.row.depth
    ∷ word (codes "discipline") (discipline_word x.row.discipline)
    ∷ number (codes "messages") (length x.messages)
    ∷ [])

abbrev pub buffer_rows : List ℕ → Processes → ℕ → Buffer → List Row
buffer_rows partition s place x =
    let object = number (codes "buffer") (place + 1) in
    buffer_row partition object x ∷ message_rows partition object x.messages ++ waiter_rows partition s object (key.Buffer place)

-- the message that a blackboard displays, if any
abbrev pub shown_messages : Option (ArrayVec ℤ) → List (ArrayVec ℤ)
shown_messages None = []
shown_messages (Some message) = message ∷ []

abbrev pub blackboard_row : List ℕ → Field → Blackboard → Row
blackboard_row partition object x =
    row partition
    (object
    ∷ flag (codes "created") x.created
    ∷ number (codes "words") x.row.words
    ∷ number (codes "messages") (length (shown_messages x.shown))
    ∷ [])

abbrev pub blackboard_parts : List ℕ → Processes → Field → ListKey → Blackboard → List Row
blackboard_parts partition s object list x =
    blackboard_row partition object x ∷ message_rows partition object (shown_messages x.shown) ++ waiter_rows partition s object list

abbrev pub blackboard_rows : List ℕ → Processes → ℕ → Blackboard → List Row
blackboard_rows partition s place x = blackboard_parts partition s (number (codes "blackboard") (place + 1)) (key.Blackboard place) x

abbrev pub direction_word : PortDirection → List ℕ
direction_word direction.Source = codes "SOURCE"
direction_word direction.Destination = codes "DESTINATION"

-- the key of a port's number
abbrev pub port_key : PortKind → List ℕ
port_key (kind.Sampling refresh) = codes "sampling"
port_key (kind.Queuing depth discipline) = codes "queuing"

-- the fields of ports of its kind, and the number of its messages
abbrev pub kind_fields : Port → PortKind → List Field
kind_fields x (kind.Sampling refresh) =
    number (codes "refresh") refresh
    ∷ number (codes "arrival") x.arrival.0
    ∷ flag (codes "valid") x.valid
    ∷ number (codes "messages") (length x.messages)
    ∷ []
kind_fields x (kind.Queuing depth discipline) =
    number (codes "depth") depth
    ∷ word (codes "discipline") (discipline_word discipline)
    ∷ flag (codes "overflowed") x.overflowed
    ∷ number (codes "messages") (length x.messages)
    ∷ []

abbrev pub port_row : List ℕ → Field → Port → Row
port_row partition object x =
    row partition
    (object
    ∷ word (codes "port") x.row.name
    ∷ word (codes "direction") (direction_word x.row.direction)
    ∷ flag (codes "created") x.created
    ∷ number (codes "words") x.row.words
    ∷ kind_fields x x.row.kind)

abbrev pub port_rows : List ℕ → Processes → ℕ → Port → List Row
port_rows partition s place x =
    let object = number (port_key x.row.kind) (place + 1) in
    port_row partition object x ∷ message_rows partition object x.messages ++ waiter_rows partition s object (key.Port place)

abbrev pub object_rows : List ℕ → Processes → Objects → List Row
object_rows partition s o =
    placed (semaphore_rows partition s) o.semaphores
    ++ placed (event_rows partition s) o.events
    ++ placed (buffer_rows partition s) o.buffers
    ++ placed (blackboard_rows partition s) o.blackboards

-- ---- its errors

-- an error that waits for the handler, by its place, the oldest first
abbrev pub error_row : List ℕ → Processes → ℕ → WaitingError → List Row
error_row partition s place e =
    row partition
    (number (codes "error") (place + 1)
    ∷ word (codes "kind") (error_word e.kind)
    ∷ word (codes "process") (name_in s (runner.Process e.process))
    ∷ field (codes "message") (Words e.words.items)
    ∷ [])
    ∷ []

abbrev pub kernel_rows : List ℕ → Kernel → List Row
kernel_rows p k =
    let s = k.processes in
    mode_row p k
    ∷ placed (process_rows p s) s.rows
    ++ placed (ready_row p s) s.ready
    ++ object_rows p s k.objects
    ++ placed (port_rows p s) k.ports.ports
    ++ placed (error_row p s) k.errors.waiting

-- ---- its data, and where its runners are in the code

abbrev pub data_rows : List ℕ → List ℤ → List Row
data_rows partition words = word_rows partition (codes "data") [] words

-- the name of an opcode, or its number if it has none
abbrev pub opcode_value : ℕ → Option (List ℕ) → Value
opcode_value op None = Count op
opcode_value op (Some name) = Word name

-- opcode, x and v of an instruction
abbrev pub opcode_fields : ℕ × ℕ × ℤ → List Field
opcode_fields f =
    field (codes "opcode") (opcode_value f.0 (name_of_opcode f.0)) ∷ number (codes "x") f.1 ∷ field (codes "v") (Signed f.2) ∷ []

-- the instruction with these bytes; none after the end of the code
abbrev pub instruction_fields : Option (List ℕ) → List Field
instruction_fields None = field (codes "opcode") Nothing ∷ []
instruction_fields (Some bytes) = opcode_fields (fields bytes)

-- one that has something left to do: its registers, and its next instruction
abbrev pub control_row : List ℕ → List (List ℕ) → List ℕ → MachineControl → Row
control_row partition code who c =
    row partition
    (word (codes "runner") who
    ∷ number (codes "pc") c.pc
    ∷ number (codes "fp") c.fp
    ∷ number (codes "sp") c.sp
    ∷ number (codes "spent") c.spent
    ∷ number (codes "awaits") c.awaits
    ∷ instruction_fields (slice_get code c.pc))

-- with the words of its stack below sp
abbrev pub control_rows : List ℕ → List (List ℕ) → List ℕ → MachineControl → List Row
control_rows partition code who c =
    control_row partition code who c ∷ word_rows partition (codes "stack") (word (codes "process") who ∷ []) (take c.sp c.stack)

abbrev pub control_rows_if : List ℕ → List (List ℕ) → List ℕ → Option MachineControl → List Row
control_rows_if partition code who None = []
control_rows_if partition code who (Some c) = control_rows partition code who c

abbrev pub runner_rows : List ℕ → List (List ℕ) → List (Option MachineControl) → ℕ → ProcessStatus → List Row
runner_rows partition code controls place r = control_rows_if partition code (subject_text r.who) (control_at controls place)

abbrev pub world_rows : List ℕ → List (List ℕ) → Kernel → List ℤ → List (Option MachineControl) → List Row
world_rows p code k words controls =
    kernel_rows p k ++ data_rows p words ++ placed (runner_rows p code controls) k.processes.rows

-- ---- the whole

-- a partition, whose item has its code
abbrev pub member_rows : Item → Member MachineControl → List Row
member_rows i x = let w = x.world in world_rows w.kernel.fixed.name i.section.code w.kernel w.words w.controls

abbrev pub members_rows : List Item → List (Member MachineControl) → List Row
members_rows (i ∷ is) (x ∷ xs) = member_rows i x ++ members_rows is xs
members_rows _ _ = []

-- the rows of an image's module before tick n
abbrev pub state_rows : Image → ℕ → Standing MachineControl → List Row
state_rows image n s = module_rows image n s.origin ++ members_rows image.items s.members
