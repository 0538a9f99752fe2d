-- The ends of channels that do not fit together, in a table whose keys, types, limits and names are right.
use Rattle.std.specs.Prelude.{ℕ, ◌+◌, ◌==◌, ◌&&◌, ◌||◌, Bool, true, false, not, if◌then◌else◌, List, [], ◌∷◌, ◌++◌, codes, length, Option, Some, None}
use Rattle.std.specs.Ordering.{int_eq}
use Rattle.std.specs.List.{list_any}
use Rattle.apex_types.specs.declared.row.PortDirection.{PortDirection}
use Rattle.module_meaning.specs.Table.{is_source}
use Rattle.module_meaning.specs.TableRules.{ChannelText, KindText, PartitionText, PortText, Queuing, Sampling, TableText, same}
use Rattle.table_findings.specs.Findings.{DeviceTwice, Finding, OtherKind, OtherWords, PortTwice, SamePartition, SplitQueue, What, WrongDirection}
use Rattle.table_findings.specs.Limits.{channel_at}
use Rattle.table_findings.specs.Names.{channel_row, is_among}
use Rattle.table_findings.specs.Shape.{one}
use Rattle.table_findings.specs.Subjects.{Row, Subject, Destination}

-- ---- ports

-- the port of a partition that a text names
abbrev pub port_named : List ℕ → List PortText → List ℕ → Option PortText
port_named partition [] text = None
port_named partition (q ∷ qs) text = if same text (partition ++ 46 ∷ q.name) then Some q else port_named partition qs text

-- the port that a text names, and the place of its partition; the first partition has place i
abbrev pub port_from : ℕ → List PartitionText → List ℕ → Option (ℕ × PortText)
port_from i [] text = None
port_from i (p ∷ ps) text = elim (port_named p.name p.ports text) [ None ↦ port_from (i + 1) ps text | Some q ↦ Some (i, q) ]

abbrev pub port_at : List PartitionText → List ℕ → Option (ℕ × PortText)
port_at ps text = port_from 0 ps text

abbrev pub is_device : List ℕ → Bool
is_device text = same text (codes "DEVICE")

abbrev pub is_queuing : KindText → Bool
is_queuing (Sampling refresh) = false
is_queuing (Queuing depth discipline) = true

abbrev pub is_same_kind : KindText → KindText → Bool
is_same_kind (Sampling refresh) other = not (is_queuing other)
is_same_kind (Queuing depth discipline) other = is_queuing other

-- ---- one end

-- an end as it is written in the table: what it is, the key there if it is a source, and its text
pub record End : Type 0 where
  pub subject : Subject
  pub key : Option (List ℕ)
  pub text : List ℕ

abbrev pub source_end : ℕ → ChannelText → End
source_end i c = record { subject = channel_at i c; key = Some (codes "source"); text = c.source }

abbrev pub destination_end : Row → ℕ → List ℕ → End
destination_end channel i text = record { subject = Destination i channel; key = None; text = text }

abbrev pub one_at : End → What → List Finding
one_at e what = one e.subject e.key what

-- a port of the other direction than is wanted
abbrev pub is_as : Bool → PortDirection → Bool
is_as as_source d = if as_source then is_source d else not (is_source d)

abbrev pub direction : List PartitionText → Bool → End → List Finding
direction ps as_source e = elim (port_at ps e.text) [ None ↦ [] | Some p ↦ if is_as as_source p.1.direction then [] else one_at e (WrongDirection e.text as_source) ]

-- a port of another kind or of other words than the first port of the channel
abbrev pub differ : List ℕ → PortText → End → PortText → List Finding
differ other r e p =
    if is_same_kind r.kind p.kind then (if int_eq r.words p.words then [] else one_at e (OtherWords p.words other r.words)) else one_at e (OtherKind other)

abbrev pub first_port : List PartitionText → List (List ℕ) → Option (List ℕ × PortText)
first_port ps [] = None
first_port ps (text ∷ texts) = elim (port_at ps text) [ None ↦ first_port ps texts | Some p ↦ Some (text, p.1) ]

abbrev pub first_port_of : List PartitionText → ChannelText → Option (List ℕ × PortText)
first_port_of ps c = first_port ps (c.source ∷ c.destinations)

abbrev pub mixed : List PartitionText → Option (List ℕ × PortText) → End → List Finding
mixed ps None e = []
mixed ps (Some r) e = elim (port_at ps e.text) [ None ↦ [] | Some p ↦ differ r.0 r.1 e p.1 ]

-- a destination in the partition of the source
abbrev pub itself : List PartitionText → Option (ℕ × PortText) → End → List Finding
itself ps None e = []
itself ps (Some s) e = elim (port_at ps e.text) [ None ↦ [] | Some p ↦ if s.0 == p.0 then one_at e SamePartition else [] ]

-- `DEVICE` after another `DEVICE` of the channel
abbrev pub device_twice : Bool → End → List Finding
device_twice before e = if before && is_device e.text then one_at e DeviceTwice else []

-- ---- a channel

abbrev pub destination : List PartitionText → ChannelText → Bool → End → List Finding
destination ps c before e =
    direction ps false e
    ++ (mixed ps (first_port_of ps c) e ++ (itself ps (port_at ps c.source) e ++ device_twice before e))

-- the destinations from a place on; `before` says whether `DEVICE` comes before them
abbrev pub destinations_from : List PartitionText → ChannelText → Row → Bool → ℕ → List (List ℕ) → List Finding
destinations_from ps c row before i [] = []
destinations_from ps c row before i (d ∷ ds) = destination ps c before (destination_end row i d) ++ destinations_from ps c row (before || is_device d) (i + 1) ds

abbrev pub destinations_of : List PartitionText → ChannelText → Row → List Finding
destinations_of ps c row = destinations_from ps c row (is_device c.source) 0 c.destinations

abbrev pub is_queuing_port : List PartitionText → List ℕ → Bool
is_queuing_port ps text = elim (port_at ps text) [ None ↦ false | Some p ↦ is_queuing p.1.kind ]

-- a channel of queuing ports that has not exactly one destination
abbrev pub split_queue : List PartitionText → ℕ → ChannelText → List Finding
split_queue ps i c =
    if list_any (is_queuing_port ps) (c.source ∷ c.destinations) && not (length c.destinations == 1)
    then one (channel_at i c) (Some (codes "destinations")) (SplitQueue (length c.destinations)) else []

abbrev pub channel : List PartitionText → ℕ → ChannelText → List Finding
channel ps i c =
    direction ps true (source_end i c) ++ (destinations_of ps c (channel_row i c) ++ split_queue ps i c)

abbrev pub channels_from : List PartitionText → ℕ → List ChannelText → List Finding
channels_from ps i [] = []
channels_from ps i (c ∷ cs) = channel ps i c ++ channels_from ps (i + 1) cs

-- ---- a port at two ends

-- an end that is one of those before it, and not `DEVICE`
abbrev pub twice : List (List ℕ) → End → List Finding
twice seen e = if is_device e.text then [] else if is_among e.text seen then one_at e (PortTwice e.text) else []

abbrev pub destinations_twice : List (List ℕ) → Row → ℕ → List (List ℕ) → List Finding
destinations_twice seen row i [] = []
destinations_twice seen row i (d ∷ ds) = twice seen (destination_end row i d) ++ destinations_twice (seen ++ d ∷ []) row (i + 1) ds

abbrev pub channel_twice : List (List ℕ) → ℕ → ChannelText → List Finding
channel_twice seen i c = twice seen (source_end i c) ++ destinations_twice (seen ++ c.source ∷ []) (channel_row i c) 0 c.destinations

abbrev pub twice_from : List (List ℕ) → ℕ → List ChannelText → List Finding
twice_from seen i [] = []
twice_from seen i (c ∷ cs) = channel_twice seen i c ++ twice_from ((seen ++ c.source ∷ []) ++ c.destinations) (i + 1) cs

-- ---- the table

abbrev pub ends : TableText → List Finding
ends t = channels_from t.partitions 0 t.channels ++ twice_from [] 0 t.channels
