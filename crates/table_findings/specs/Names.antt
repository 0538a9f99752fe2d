-- What is wrong with the names of a table whose keys, types and limits are right.
use Rattle.std.specs.Prelude.{ℕ, ◌+◌, ◌||◌, Bool, nat_lt, if◌then◌else◌, List, [], ◌∷◌, ◌++◌, codes, map, Option, Some, None}
use Rattle.std.specs.List.{list_any}
use Rattle.module_meaning.specs.TableRules.{ChannelText, PartitionText, PortText, TableText, WindowText, same}
use Rattle.finding_lines.specs.Nearest.{nearest}
use Rattle.table_findings.specs.Findings.{Finding, NoEnd, NoPartition, SameName}
use Rattle.table_findings.specs.Limits.{channel_at, partition_row}
use Rattle.table_findings.specs.Schedule.{window_at}
use Rattle.table_findings.specs.Shape.{one}
use Rattle.table_findings.specs.Subjects.{Row, Subject, Channel, Destination, Partition, Port}

-- ---- names that appear twice

-- a list of rows that differ in name
pub data Named : Type 0 where
  Partitions : Named
  Channels : Named
  Ports : Row → Named

abbrev pub subject_in : Named → Row → Subject
subject_in Partitions row = Partition row
subject_in Channels row = Channel row
subject_in (Ports partition) row = Port row partition

-- the place of the first of these names that is the same; the first one has place i
abbrev pub first_same : List ℕ → ℕ → List (List ℕ) → Option ℕ
first_same name i [] = None
first_same name i (other ∷ others) = if same name other then Some i else first_same name (i + 1) others

-- the name at place i, if one before it is the same
abbrev pub same_at : Named → List (List ℕ) → ℕ → List ℕ → List Finding
same_at named all i name = elim (first_same name 0 all) [
  | None ↦ []
  | Some earlier ↦ if nat_lt earlier i then one (subject_in named (record { index = i; name = Some name })) (Some (codes "name")) (SameName name earlier) else []
]

abbrev pub same_from : Named → List (List ℕ) → ℕ → List (List ℕ) → List Finding
same_from named all i [] = []
same_from named all i (name ∷ names) = same_at named all i name ++ same_from named all (i + 1) names

abbrev pub same_names : Named → List (List ℕ) → List Finding
same_names named all = same_from named all 0 all

abbrev pub partition_names : List PartitionText → List (List ℕ)
partition_names ps = map (λ p. p.name) ps

abbrev pub channel_names : List ChannelText → List (List ℕ)
channel_names cs = map (λ c. c.name) cs

abbrev pub port_names : List PortText → List (List ℕ)
port_names ps = map (λ p. p.name) ps

abbrev pub same_ports_from : ℕ → List PartitionText → List Finding
same_ports_from i [] = []
same_ports_from i (p ∷ ps) = same_names (Ports (partition_row i p)) (port_names p.ports) ++ same_ports_from (i + 1) ps

-- ---- names that name nothing

abbrev pub is_among : List ℕ → List (List ℕ) → Bool
is_among name names = list_any (same name) names

abbrev pub lost : List (List ℕ) → ℕ → WindowText → List Finding
lost names i w = one (window_at i w) (Some (codes "partition")) (NoPartition w.partition (nearest w.partition names))

-- a window's partition that is not in the table
abbrev pub partition_of : List (List ℕ) → ℕ → WindowText → List Finding
partition_of names i w = if is_among w.partition names then [] else lost names i w

abbrev pub partitions_of : List (List ℕ) → ℕ → List WindowText → List Finding
partitions_of names i [] = []
partitions_of names i (w ∷ ws) = partition_of names i w ++ partitions_of names (i + 1) ws

-- an end is `DEVICE`, or the names of a partition and of one of its ports with a dot between them
abbrev pub is_end : List PartitionText → List ℕ → Bool
is_end ps text = same text (codes "DEVICE") || list_any (λ p. list_any (λ q. same text (p.name ++ 46 ∷ q.name)) p.ports) ps

abbrev pub source_of : List PartitionText → ℕ → ChannelText → List Finding
source_of ps i c = if is_end ps c.source then [] else one (channel_at i c) (Some (codes "source")) (NoEnd c.source)

abbrev pub destinations_of : List PartitionText → Row → ℕ → List (List ℕ) → List Finding
destinations_of ps channel i [] = []
destinations_of ps channel i (d ∷ ds) = (if is_end ps d then [] else one (Destination i channel) None (NoEnd d)) ++ destinations_of ps channel (i + 1) ds

abbrev pub channel_row : ℕ → ChannelText → Row
channel_row i c = record { index = i; name = Some c.name }

abbrev pub ends_of : List PartitionText → ℕ → ChannelText → List Finding
ends_of ps i c = source_of ps i c ++ destinations_of ps (channel_row i c) 0 c.destinations

abbrev pub ends_from : List PartitionText → ℕ → List ChannelText → List Finding
ends_from ps i [] = []
ends_from ps i (c ∷ cs) = ends_of ps i c ++ ends_from ps (i + 1) cs

-- ---- the table

abbrev pub repeated : TableText → List Finding
repeated t = same_names Partitions (partition_names t.partitions) ++ (same_names Channels (channel_names t.channels) ++ same_ports_from 0 t.partitions)

abbrev pub unknown : TableText → List Finding
unknown t = partitions_of (partition_names t.partitions) 0 t.windows ++ ends_from t.partitions 0 t.channels

abbrev pub names : TableText → List Finding
names t = repeated t ++ unknown t
