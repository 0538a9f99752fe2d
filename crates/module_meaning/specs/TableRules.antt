-- The text of a module table, and the rules that it has to keep. A text is a TOML document whose
-- keys are those of a module table, each with a value of its type. The verdict on it is its table,
-- or the first rule that it breaks.
use Rattle.std.specs.Prelude.{ℕ, ℤ, codes, eqb, Bool, true, false, ◌&&◌, ◌||◌, is_some, if◌then◌else◌, List, [], ◌∷◌, Option, Some, None, ◌+◌, pos, refl, ◌+ℤ◌, nat_abs, not, nat_lt, int_lt, is_none, ◌++◌, length, map, unwrap_or, Result, Ok, Err}
use Rattle.std.specs.Cmp.Lexicographic.{pointwise}
use Rattle.toml.specs.Data.{Items, no_items, item, Members, no_members, member, get_member, as_str, as_integer, as_bool, as_array, as_table}
use Rattle.apex_types.specs.Costs.{cost_of_ticks, from_order, ticks, written_costs}
use Rattle.apex_types.specs.declared.cost.TickCost.{TickCost}
use Rattle.apex_types.specs.declared.cost.Costs.{Costs}
use Rattle.apex_types.specs.Limits.{MOST_CHANNELS, MOST_COST, MOST_DEPTH, MOST_DESTINATIONS, MOST_FRAME_TICKS, MOST_PARTITIONS, MOST_PORTS, MOST_TICKS, MOST_WINDOWS, MOST_WORDS}
use Rattle.apex_types.specs.declared.codes.Discipline.{Discipline}
use Rattle.apex_types.specs.declared.codes.Discipline.TheVariants as orders
use Rattle.apex_types.specs.declared.codes.ModuleAction.{ModuleAction}
use Rattle.apex_types.specs.declared.codes.ModuleAction.TheVariants as module_action
use Rattle.apex_types.specs.declared.codes.PartitionAction.{PartitionAction}
use Rattle.apex_types.specs.declared.codes.PartitionAction.TheVariants as partition_action
use Rattle.apex_types.specs.declared.row.HealthTable.{HealthTable}
use Rattle.apex_types.specs.declared.row.PortDirection.{PortDirection}
use Rattle.apex_types.specs.declared.row.PortDirection.TheVariants as directions
use Rattle.module_meaning.specs.Table.{◌>>=◌, Table, Partition, Channel, has_odd_period, has_short_period, has_twice, has_wrong_ends, lacks_release}
use Rattle.std.specs.List.{list_any}
use Rattle.apex_types.specs.NameText.{is_name}
use Rattle.apex_types.specs.declared.row.PortKind.{PortKind}
use Rattle.apex_types.specs.declared.row.PortKind.TheVariants as kinds
use Rattle.apex_types.specs.declared.row.PortRow.{PortRow}
use Rattle.apex_types.specs.declared.row.WindowRow.{WindowRow}
use Rattle.apex_types.specs.declared.row.ChannelEnd.{ChannelEnd}
use Rattle.apex_types.specs.declared.row.ChannelEnd.TheVariants as ends

-- The contents of the text of a module table: a TOML document whose keys are those of a module
-- table, each with a value of its type. Names are any texts and numbers any numbers, as written; the
-- rules that they have to keep are in `TableRules`.

-- the members of only one kind of port
pub data KindText : Type 0 where
  Sampling : (refresh : ℤ) → KindText
  Queuing : (depth : ℤ) (discipline : Discipline) → KindText

pub record PortText : Type 0 where
  pub name : List ℕ
  pub kind : KindText
  pub direction : PortDirection
  pub words : ℤ

-- no health table if the text's table does not have exactly the seven errors, each with a known
-- action
pub record PartitionText : Type 0 where
  pub name : List ℕ
  pub period : ℤ
  pub duration : ℤ
  pub health : Option HealthTable
  pub ports : List PortText

pub record WindowText : Type 0 where
  pub partition : List ℕ
  pub offset : ℤ
  pub length : ℤ
  pub release : Bool

pub record ChannelText : Type 0 where
  pub name : List ℕ
  pub source : List ℕ
  pub destinations : List (List ℕ)

-- no action on a module fault if the text's action is unknown; no costs if the text writes none,
-- otherwise their numbers in the order of their keys
pub record TableText : Type 0 where
  pub frame : ℤ
  pub fault : Option ModuleAction
  pub costs : Option (List ℤ)
  pub partitions : List PartitionText
  pub windows : List WindowText
  pub channels : List ChannelText

-- whether two texts are the same
abbrev pub same : List ℕ → List ℕ → Bool
same = pointwise eqb

-- The words.

unfoldable pub direction_of : List ℕ → Option PortDirection
direction_of word = if same word (codes "SOURCE") then Some directions.Source else (if same word (codes "DESTINATION") then Some directions.Destination else None)

unfoldable pub discipline_of : List ℕ → Option Discipline
discipline_of word = if same word (codes "FIFO") then Some orders.Fifo else (if same word (codes "PRIORITY") then Some orders.Priority else None)

unfoldable pub module_action_of : List ℕ → Option ModuleAction
module_action_of word =
    if same word (codes "IGNORE") then Some module_action.Ignore else (if same word (codes "SHUTDOWN") then Some module_action.Shutdown else (if same word (codes "RESET") then Some module_action.Reset else None))

unfoldable pub partition_action_of : List ℕ → Option PartitionAction
partition_action_of word =
    if same word (codes "IGNORE") then Some partition_action.Ignore else (if same word (codes "IDLE") then Some partition_action.Idle else (if same word (codes "WARM_START") then Some partition_action.WarmStart else (if same word (codes "COLD_START") then Some partition_action.ColdStart else None)))

-- The value of a type at a key; none if the key is missing or has a value of another type.

abbrev pub text_at : List ℕ → Members → Option (List ℕ)
text_at key ms = get_member key ms >>= as_str

abbrev pub integer_at : List ℕ → Members → Option ℤ
integer_at key ms = get_member key ms >>= as_integer

abbrev pub boolean_at : List ℕ → Members → Option Bool
boolean_at key ms = get_member key ms >>= as_bool

abbrev pub table_at : List ℕ → Members → Option Members
table_at key ms = get_member key ms >>= as_table

abbrev pub array_at : List ℕ → Members → Option Items
array_at key ms = get_member key ms >>= as_array

-- the integers at some keys
unfoldable pub integers_at : List (List ℕ) → Members → Option (List ℤ)
integers_at [] ms = Some []
integers_at (key ∷ keys) ms = do
  number ← integer_at key ms
  numbers ← integers_at keys ms
  Some (number ∷ numbers)

-- the table at a key that may be absent
abbrev pub optional_table_at : List ℕ → Members → Option (Option Members)
optional_table_at key ms = elim (get_member key ms) [ None ↦ Some None | Some d ↦ as_table d >>= λ t. Some (Some t) ]

-- the array at a key that may be absent
abbrev pub optional_array_at : List ℕ → Members → Option Items
optional_array_at key ms = elim (get_member key ms) [ None ↦ Some no_items | Some d ↦ as_array d ]

-- whether each key is known
unfoldable pub has_only : (List ℕ → Bool) → Members → Bool
has_only known no_members = true
has_only known (member key d ms) = known key && has_only known ms

-- whether a key is one of some keys
abbrev pub is_one_of : List (List ℕ) → List ℕ → Bool
is_one_of [] key = false
is_one_of (k ∷ ks) key = same key k || is_one_of ks key

-- an array of tables, each read by the same rule
unfoldable pub tables_of : {A : Type 0} → (Members → Option A) → Items → Option (List A)
tables_of read no_items = Some []
tables_of read (item d ds) = do
  ms ← as_table d
  x ← read ms
  xs ← tables_of read ds
  Some (x ∷ xs)

-- an array of texts
unfoldable pub texts_of : Items → Option (List (List ℕ))
texts_of no_items = Some []
texts_of (item d ds) = do
  text ← as_str d
  texts ← texts_of ds
  Some (text ∷ texts)

-- Ports. A port of one kind has not the keys of the other.

abbrev pub is_sampling_key : List ℕ → Bool
is_sampling_key = is_one_of (codes "name" ∷ codes "kind" ∷ codes "direction" ∷ codes "words" ∷ codes "refresh" ∷ [])

abbrev pub is_queuing_key : List ℕ → Bool
is_queuing_key = is_one_of (codes "name" ∷ codes "kind" ∷ codes "direction" ∷ codes "words" ∷ codes "depth" ∷ codes "discipline" ∷ [])

unfoldable pub sampling_of : Members → Option KindText
sampling_of ms = do
  refresh ← integer_at (codes "refresh") ms
  if has_only is_sampling_key ms then Some (Sampling refresh) else None

unfoldable pub queuing_of : Members → Option KindText
queuing_of ms = do
  depth ← integer_at (codes "depth") ms
  discipline ← text_at (codes "discipline") ms >>= discipline_of
  if has_only is_queuing_key ms then Some (Queuing depth discipline) else None

unfoldable pub kind_of : Members → Option KindText
kind_of ms = do
  kind ← text_at (codes "kind") ms
  if same kind (codes "SAMPLING") then sampling_of ms else (if same kind (codes "QUEUING") then queuing_of ms else None)

unfoldable pub port_of : Members → Option PortText
port_of ms = do
  name ← text_at (codes "name") ms
  kind ← kind_of ms
  direction ← text_at (codes "direction") ms >>= direction_of
  words ← integer_at (codes "words") ms
  Some (record { name = name; kind = kind; direction = direction; words = words })

-- Health tables. The shape asks that each value is a text; the last rule asks which keys and which
-- words they have.

unfoldable pub has_texts_only : Members → Bool
has_texts_only no_members = true
has_texts_only (member key d ms) = is_some (as_str d) && has_texts_only ms

abbrev pub is_error_name : List ℕ → Bool
is_error_name = is_one_of (codes "DEADLINE_MISSED" ∷ codes "APPLICATION_ERROR" ∷ codes "NUMERIC_ERROR" ∷ codes "ILLEGAL_REQUEST" ∷ codes "STACK_OVERFLOW" ∷ codes "MEMORY_VIOLATION" ∷ codes "HARDWARE_FAULT" ∷ [])

abbrev pub action_at : List ℕ → Members → Option PartitionAction
action_at key ms = text_at key ms >>= partition_action_of

unfoldable pub health_of : Members → Option HealthTable
health_of ms = do
  deadline_missed ← action_at (codes "DEADLINE_MISSED") ms
  application_error ← action_at (codes "APPLICATION_ERROR") ms
  numeric_error ← action_at (codes "NUMERIC_ERROR") ms
  illegal_request ← action_at (codes "ILLEGAL_REQUEST") ms
  stack_overflow ← action_at (codes "STACK_OVERFLOW") ms
  memory_violation ← action_at (codes "MEMORY_VIOLATION") ms
  hardware_fault ← action_at (codes "HARDWARE_FAULT") ms
  if has_only is_error_name ms then Some (record { deadline_missed = deadline_missed; application_error = application_error; numeric_error = numeric_error; illegal_request = illegal_request; stack_overflow = stack_overflow; memory_violation = memory_violation; hardware_fault = hardware_fault }) else None

-- Partitions, windows, channels and the whole table.

abbrev pub is_partition_key : List ℕ → Bool
is_partition_key = is_one_of (codes "name" ∷ codes "period" ∷ codes "duration" ∷ codes "hm" ∷ codes "port" ∷ [])

unfoldable pub partition_of : Members → Option PartitionText
partition_of ms = do
  name ← text_at (codes "name") ms
  period ← integer_at (codes "period") ms
  duration ← integer_at (codes "duration") ms
  health ← table_at (codes "hm") ms
  ports ← optional_array_at (codes "port") ms >>= tables_of port_of
  if has_only is_partition_key ms && has_texts_only health then Some (record { name = name; period = period; duration = duration; health = health_of health; ports = ports }) else None

abbrev pub is_window_key : List ℕ → Bool
is_window_key = is_one_of (codes "partition" ∷ codes "offset" ∷ codes "length" ∷ codes "release" ∷ [])

unfoldable pub window_of : Members → Option WindowText
window_of ms = do
  partition ← text_at (codes "partition") ms
  offset ← integer_at (codes "offset") ms
  length ← integer_at (codes "length") ms
  release ← boolean_at (codes "release") ms
  if has_only is_window_key ms then Some (record { partition = partition; offset = offset; length = length; release = release }) else None

abbrev pub is_channel_key : List ℕ → Bool
is_channel_key = is_one_of (codes "name" ∷ codes "source" ∷ codes "destinations" ∷ [])

unfoldable pub channel_of : Members → Option ChannelText
channel_of ms = do
  name ← text_at (codes "name") ms
  source ← text_at (codes "source") ms
  destinations ← array_at (codes "destinations") ms >>= texts_of
  if has_only is_channel_key ms then Some (record { name = name; source = source; destinations = destinations }) else None

-- Costs: exactly the fifteen keys.

abbrev pub cost_keys : List (List ℕ)
cost_keys = codes "literal" ∷ codes "scalar" ∷ codes "array" ∷ codes "add" ∷ codes "mul" ∷ codes "div" ∷ codes "logic" ∷ codes "branch" ∷ codes "jump" ∷ codes "call" ∷ codes "return" ∷ codes "create" ∷ codes "message" ∷ codes "service" ∷ codes "end" ∷ []

abbrev pub is_cost_key : List ℕ → Bool
is_cost_key = is_one_of cost_keys

unfoldable pub costs_of : Members → Option (List ℤ)
costs_of ms = do
  numbers ← integers_at cost_keys ms
  if has_only is_cost_key ms then Some numbers else None

-- the costs at a key that may be absent
abbrev pub optional_costs : Option Members → Option (Option (List ℤ))
optional_costs None = Some None
optional_costs (Some ms) = costs_of ms >>= λ costs. Some (Some costs)

abbrev pub is_table_key : List ℕ → Bool
is_table_key = is_one_of (codes "frame" ∷ codes "fault" ∷ codes "cost" ∷ codes "partition" ∷ codes "window" ∷ codes "channel" ∷ [])

-- the table that a document describes, if its keys, types and words are those of a module table
unfoldable pub table_text_of : Members → Option TableText
table_text_of ms = do
  frame ← integer_at (codes "frame") ms
  fault ← text_at (codes "fault") ms
  costs ← optional_table_at (codes "cost") ms >>= optional_costs
  partitions ← array_at (codes "partition") ms >>= tables_of partition_of
  windows ← array_at (codes "window") ms >>= tables_of window_of
  channels ← optional_array_at (codes "channel") ms >>= tables_of channel_of
  if has_only is_table_key ms then Some (record { frame = frame; fault = module_action_of fault; costs = costs; partitions = partitions; windows = windows; channels = channels }) else None

-- The rules that a module table keeps, in the order of their checks, and its verdict: the table
-- itself, or the first rule that it breaks.

-- The rule that is broken.
pub data Refusal : Type 0 where
  Shape : Refusal
  Limit : Refusal
  Name : Refusal
  Overlap : Refusal
  Period : Refusal
  Duration : Refusal
  Release : Refusal
  Ends : Refusal
  Health : Refusal

-- Limits: a number, a count or a name outside its limits.

abbrev pub is_outside : ℕ → ℤ → ℤ → Bool
is_outside low high z = int_lt z (pos low) || int_lt high z

abbrev pub is_count_outside : {A : Type 0} → ℕ → ℕ → List A → Bool
is_count_outside low high xs = nat_lt (length xs) low || nat_lt high (length xs)

unfoldable pub exceeds_kind : KindText → Bool
exceeds_kind (Sampling refresh) = is_outside 0 (pos MOST_TICKS) refresh
exceeds_kind (Queuing depth discipline) = is_outside 1 (pos MOST_DEPTH) depth

unfoldable pub exceeds_port : PortText → Bool
exceeds_port p = not (is_name p.name) || is_outside 1 (pos MOST_WORDS) p.words || exceeds_kind p.kind

abbrev pub has_many_ports : PartitionText → Bool
has_many_ports p = is_count_outside 0 MOST_PORTS p.ports

abbrev pub exceeds_times : ℤ → PartitionText → Bool
exceeds_times frame p = is_outside 1 frame p.period || is_outside 0 p.period p.duration

unfoldable pub exceeds_partition : ℤ → PartitionText → Bool
exceeds_partition frame p = not (is_name p.name) || exceeds_times frame p || has_many_ports p || list_any exceeds_port p.ports

unfoldable pub exceeds_window : WindowText → Bool
exceeds_window w = int_lt w.offset (pos 0) || int_lt w.length (pos 1)

unfoldable pub exceeds_channel : ChannelText → Bool
exceeds_channel c = not (is_name c.name) || is_count_outside 1 MOST_DESTINATIONS c.destinations

-- the frame, and how many partitions, windows and channels there are
unfoldable pub exceeds_counts : TableText → Bool
exceeds_counts t =
    is_outside 1 (pos MOST_FRAME_TICKS) t.frame || is_count_outside 1 MOST_PARTITIONS t.partitions || is_count_outside 1 MOST_WINDOWS t.windows || is_count_outside 0 MOST_CHANNELS t.channels

unfoldable pub is_outside_cost : ℤ → Bool
is_outside_cost z = is_outside 1 (pos MOST_COST) z

-- one of the costs
abbrev pub has_costs_outside : Option (List ℤ) → Bool
has_costs_outside None = false
has_costs_outside (Some numbers) = list_any is_outside_cost numbers

unfoldable pub exceeds_rows : TableText → Bool
exceeds_rows t = list_any exceeds_window t.windows || list_any exceeds_channel t.channels

abbrev pub exceeds_limits : TableText → Bool
exceeds_limits t = exceeds_counts t || exceeds_rows t || has_costs_outside t.costs || list_any (exceeds_partition t.frame) t.partitions

unfoldable pub has_same_names : TableText → Bool
has_same_names t =
    has_twice (λ p q. same p.name q.name) t.partitions || has_twice (λ c d. same c.name d.name) t.channels || list_any (λ p. has_twice (λ q r. same q.name r.name) p.ports) t.partitions

-- Each name that the table mentions denotes a number: partitions and the ports of each are
-- numbered from 1 in the order of the text. An end of a channel is `partition.port` or `DEVICE`.

-- the number of the first item that passes the test, counted from a number
unfoldable pub number_from : {A : Type 0} → ℕ → (A → Bool) → List A → Option ℕ
number_from n test [] = None
number_from n test (x ∷ xs) = if test x then Some n else number_from (n + 1) test xs

abbrev pub partition_number : List PartitionText → List ℕ → Option ℕ
partition_number ps name = number_from 1 (λ p. same p.name name) ps

-- the number of the port that a text names among those of a partition
abbrev pub port_number : PartitionText → List ℕ → Option ℕ
port_number p text = number_from 1 (λ q. same text (p.name ++ 46 ∷ q.name)) p.ports

-- the port that a text names, among partitions that are numbered from a number on
unfoldable pub port_from : ℕ → List PartitionText → List ℕ → Option ChannelEnd
port_from n [] text = None
port_from n (p ∷ ps) text = elim (port_number p text) [
  | Some q ↦ Some (ends.Port (record { 0 = n }) (record { 0 = q }))
  | None ↦ port_from (n + 1) ps text
]

unfoldable pub end_of : List PartitionText → List ℕ → Option ChannelEnd
end_of ps text = if same text (codes "DEVICE") then Some ends.Device else port_from 1 ps text

-- a window's partition that does not exist, and an end of a channel that does not exist
abbrev pub is_unknown_window : List PartitionText → WindowText → Bool
is_unknown_window ps w = is_none (partition_number ps w.partition)

abbrev pub has_unknown_end : List PartitionText → ChannelText → Bool
has_unknown_end ps c = is_none (end_of ps c.source) || list_any (λ d. is_none (end_of ps d)) c.destinations

unfoldable pub has_unknown_name : TableText → Bool
has_unknown_name t = list_any (is_unknown_window t.partitions) t.windows || list_any (has_unknown_end t.partitions) t.channels

-- The table that a text describes. A value that no table has is 0, the device or IGNORE until its
-- rule refuses it.

abbrev pub window_row : List PartitionText → WindowText → WindowRow
window_row ps w = record { partition = record { 0 = unwrap_or (partition_number ps w.partition) 0 }; offset = nat_abs w.offset; length = nat_abs w.length; release = w.release }

abbrev pub channel_row : List PartitionText → ChannelText → Channel
channel_row ps c = record { name = c.name; source = unwrap_or (end_of ps c.source) ends.Device; destinations = map (λ d. unwrap_or (end_of ps d) ends.Device) c.destinations }

abbrev pub kind_row : KindText → PortKind
kind_row (Sampling refresh) = kinds.Sampling (nat_abs refresh)
kind_row (Queuing depth discipline) = kinds.Queuing (nat_abs depth) discipline

abbrev pub all_ignored : HealthTable
all_ignored = let i = partition_action.Ignore in record { deadline_missed = i; application_error = i; numeric_error = i; illegal_request = i; stack_overflow = i; memory_violation = i; hardware_fault = i }

abbrev pub port_row : PortText → PortRow
port_row p = record { name = p.name; kind = kind_row p.kind; direction = p.direction; words = nat_abs p.words }

abbrev pub partition_row : PartitionText → Partition
partition_row p = record { name = p.name; period = nat_abs p.period; duration = nat_abs p.duration; health = unwrap_or p.health all_ignored; ports = map port_row p.ports }

-- a number outside the limits of a cost is one tick until its rule refuses it
unfoldable pub cost_row : ℤ → TickCost
cost_row z = unwrap_or (cost_of_ticks (nat_abs z)) (ticks 1 refl)

-- A table that writes no costs has those that are written of Pal.
abbrev pub costs_or_written : Option (List ℤ) → Costs
costs_or_written numbers = unwrap_or (numbers >>= λ all. from_order (map cost_row all)) written_costs

unfoldable pub numbered : TableText → Table
numbered t = record { schedule = record { frame = nat_abs t.frame; windows = map (window_row t.partitions) t.windows }; fault = unwrap_or t.fault module_action.Ignore; costs = costs_or_written t.costs; partitions = map partition_row t.partitions; channels = map (channel_row t.partitions) t.channels }

-- Overlap: a window that begins before the end of the window before it in the text, or ends after
-- the frame.
unfoldable pub overlaps_after : ℤ → ℤ → List WindowText → Bool
overlaps_after frame end [] = false
overlaps_after frame end (w ∷ ws) = let next = w.offset +ℤ w.length in int_lt w.offset end || int_lt frame next || overlaps_after frame next ws

abbrev pub overlaps : TableText → Bool
overlaps t = overlaps_after t.frame (pos 0) t.windows

-- Health: a health table without exactly the seven errors, or an unknown action.
abbrev pub has_unknown_action : TableText → Bool
has_unknown_action t = is_none t.fault || list_any (λ p. is_none p.health) t.partitions

-- The verdict.

-- the verdict on a table whose text keeps its limits and names
unfoldable pub judge_table : TableText → Table → Result Table Refusal
judge_table text t =
    if overlaps text then Err Overlap else (if has_odd_period t.schedule.frame t.partitions then Err Period else (if has_short_period t.schedule t.partitions then Err Duration else (if lacks_release t.schedule.windows t.partitions then Err Release else (if has_wrong_ends t.partitions t.channels then Err Ends else (if has_unknown_action text then Err Health else Ok t)))))

unfoldable pub judge_text : TableText → Result Table Refusal
judge_text text =
    if exceeds_limits text then Err Limit else (if has_same_names text || has_unknown_name text then Err Name else judge_table text (numbered text))

-- The verdict on a document: its table, or the first rule that it breaks.
unfoldable pub verdict : Members → Result Table Refusal
verdict ms = elim (table_text_of ms) [ None ↦ Err Shape | Some text ↦ judge_text text ]
