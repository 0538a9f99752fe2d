-- What is outside its limits in a table whose keys and types are right.
use Rattle.std.specs.Prelude.{ℕ, ℤ, pos, ◌+◌, ◌||◌, int_lt, nat_lt, if◌then◌else◌, List, [], ◌∷◌, ◌++◌, codes, length, Option, Some, None}
use Rattle.apex_types.specs.NameText.{is_name}
use Rattle.apex_types.specs.Limits.{MOST_CHANNELS, MOST_COST, MOST_DEPTH, MOST_DESTINATIONS, MOST_FRAME_TICKS, MOST_PARTITIONS, MOST_PORTS, MOST_TICKS, MOST_WINDOWS, MOST_WORDS}
use Rattle.module_meaning.specs.TableRules.{ChannelText, KindText, PartitionText, PortText, Queuing, Sampling, TableText, WindowText, cost_keys, is_outside}
use Rattle.table_findings.specs.Findings.{Below, Count, Finding, NoName, Outside}
use Rattle.table_findings.specs.Schedule.{partition_at, window_at}
use Rattle.table_findings.specs.Shape.{one}
use Rattle.table_findings.specs.Subjects.{Row, Subject, Channel, Costs, Module, Port}

-- a number that is not between two limits
abbrev pub outside : Subject → List ℕ → ℕ → ℤ → ℤ → List Finding
outside subject key low high number = if is_outside low high number then one subject (Some key) (Outside number (pos low) high) else []

-- a number that is below its limit
abbrev pub below : Subject → List ℕ → ℕ → ℤ → List Finding
below subject key low number = if int_lt number (pos low) then one subject (Some key) (Below number (pos low)) else []

-- a count that is not between two limits
abbrev pub count : Subject → List ℕ → ℕ → ℕ → ℕ → List Finding
count subject key low high number = if nat_lt number low || nat_lt high number then one subject (Some key) (Count number low high) else []

-- a text that is no name
abbrev pub name : Subject → List ℕ → List Finding
name subject text = if is_name text then [] else one subject (Some (codes "name")) (NoName text)

-- ---- ports and partitions

abbrev pub kind : Subject → KindText → List Finding
kind subject (Sampling refresh) = outside subject (codes "refresh") 0 (pos MOST_TICKS) refresh
kind subject (Queuing depth discipline) = outside subject (codes "depth") 1 (pos MOST_DEPTH) depth

abbrev pub port_limits : Subject → PortText → List Finding
port_limits subject p = name subject p.name ++ (outside subject (codes "words") 1 (pos MOST_WORDS) p.words ++ kind subject p.kind)

abbrev pub port_at : Row → ℕ → PortText → Subject
port_at partition i p = Port (record { index = i; name = Some p.name }) partition

abbrev pub one_port : Row → ℕ → PortText → List Finding
one_port partition i p = port_limits (port_at partition i p) p

abbrev pub ports_from : Row → ℕ → List PortText → List Finding
ports_from partition i [] = []
ports_from partition i (p ∷ ps) = one_port partition i p ++ ports_from partition (i + 1) ps

abbrev pub partition_row : ℕ → PartitionText → Row
partition_row i p = record { index = i; name = Some p.name }

abbrev pub period : Subject → ℤ → PartitionText → List Finding
period subject frame p = outside subject (codes "period") 1 frame p.period

abbrev pub duration : Subject → PartitionText → List Finding
duration subject p = outside subject (codes "duration") 0 p.period p.duration

-- a duration is judged by a period that is within its limits
abbrev pub duration_within : Subject → ℤ → PartitionText → List Finding
duration_within subject frame p = if is_outside 1 frame p.period then [] else duration subject p

abbrev pub times : Subject → ℤ → PartitionText → List Finding
times subject frame p = period subject frame p ++ duration_within subject frame p

abbrev pub partition_limits : ℤ → ℕ → PartitionText → List Finding
partition_limits frame i p =
    name (partition_at i p) p.name
    ++ (times (partition_at i p) frame p
    ++ (count (partition_at i p) (codes "port") 0 MOST_PORTS (length p.ports) ++ ports_from (partition_row i p) 0 p.ports))

abbrev pub partitions_from : ℤ → ℕ → List PartitionText → List Finding
partitions_from frame i [] = []
partitions_from frame i (p ∷ ps) = partition_limits frame i p ++ partitions_from frame (i + 1) ps

-- ---- windows, channels and costs

abbrev pub window_limits : ℕ → WindowText → List Finding
window_limits i w = below (window_at i w) (codes "offset") 0 w.offset ++ below (window_at i w) (codes "length") 1 w.length

abbrev pub windows_from : ℕ → List WindowText → List Finding
windows_from i [] = []
windows_from i (w ∷ ws) = window_limits i w ++ windows_from (i + 1) ws

abbrev pub channel_at : ℕ → ChannelText → Subject
channel_at i c = Channel (record { index = i; name = Some c.name })

abbrev pub channel_limits : ℕ → ChannelText → List Finding
channel_limits i c = name (channel_at i c) c.name ++ count (channel_at i c) (codes "destinations") 1 MOST_DESTINATIONS (length c.destinations)

abbrev pub channels_from : ℕ → List ChannelText → List Finding
channels_from i [] = []
channels_from i (c ∷ cs) = channel_limits i c ++ channels_from (i + 1) cs

-- the numbers at these keys
abbrev pub costs_at : List (List ℕ) → List ℤ → List Finding
costs_at [] numbers = []
costs_at (key ∷ keys) [] = []
costs_at (key ∷ keys) (number ∷ numbers) = outside Costs key 1 (pos MOST_COST) number ++ costs_at keys numbers

abbrev pub costs_limits : Option (List ℤ) → List Finding
costs_limits None = []
costs_limits (Some numbers) = costs_at cost_keys numbers

-- ---- the table

abbrev pub sizes : TableText → List Finding
sizes t =
    count Module (codes "partition") 1 MOST_PARTITIONS (length t.partitions)
    ++ (count Module (codes "window") 1 MOST_WINDOWS (length t.windows) ++ count Module (codes "channel") 0 MOST_CHANNELS (length t.channels))

abbrev pub frame_limits : ℤ → List Finding
frame_limits frame = outside Module (codes "frame") 1 (pos MOST_FRAME_TICKS) frame

abbrev pub counts : TableText → List Finding
counts t = frame_limits t.frame ++ sizes t

-- the greatest period: the frame, or the greatest frame in place of one outside its limits
abbrev pub most_period : ℤ → ℤ
most_period frame = if is_outside 1 (pos MOST_FRAME_TICKS) frame then pos MOST_FRAME_TICKS else frame

abbrev pub rows : TableText → List Finding
rows t = partitions_from (most_period t.frame) 0 t.partitions ++ (windows_from 0 t.windows ++ channels_from 0 t.channels)

abbrev pub limits : TableText → List Finding
limits t = counts t ++ (costs_limits t.costs ++ rows t)
