-- The rows of a module table, and the rules that the rows of a table and of an image keep.
use Rattle.std.specs.Prelude.{ℕ, zero, suc, List, Option, None, slice_get, option_and_then, ◌+◌, ◌-◌, ◌*◌, ◌/◌, ◌%◌, min, max, Bool, true, false, not, ◌&&◌, ◌||◌, ◌==◌, nat_lt, if◌then◌else◌, [], ◌∷◌, length, flat_map, sum_by, Some}
use Rattle.apex_types.specs.declared.codes.ModuleAction.{ModuleAction}
use Rattle.apex_types.specs.declared.cost.Costs.{Costs}
use Rattle.apex_types.specs.declared.row.HealthTable.{HealthTable}
use Rattle.apex_types.specs.declared.row.PortRow.{PortRow}
use Rattle.apex_types.specs.declared.row.ChannelEnd.{ChannelEnd}
use Rattle.kernel_meaning.specs.Windows.{Schedule, schedule_of_partition, has_release}
use Rattle.kernel_meaning.specs.Kernel.{Fixed}
use Rattle.std.specs.List.{list_any}
use Rattle.apex_types.specs.declared.row.PortDirection.{PortDirection}
use Rattle.apex_types.specs.declared.row.PortDirection.TheVariants as directions
use Rattle.apex_types.specs.declared.row.PortKind.{PortKind}
use Rattle.apex_types.specs.declared.row.PortKind.TheVariants as kinds
use Rattle.apex_types.specs.declared.row.WindowRow.{WindowRow}
use Rattle.apex_types.specs.declared.row.ChannelEnd.TheVariants as ends

-- a partition's row of the module table
pub record Partition : Type 0 where
  pub name : List ℕ
  pub period : ℕ
  pub duration : ℕ
  pub health : HealthTable
  pub ports : List PortRow

pub record Channel : Type 0 where
  pub name : List ℕ
  pub source : ChannelEnd
  pub destinations : List ChannelEnd

-- a module table
pub record Table : Type 0 where
  pub schedule : Schedule
  pub fault : ModuleAction
  pub costs : Costs
  pub partitions : List Partition
  pub channels : List Channel

-- the item with a number: partitions, and the ports of each, are numbered from 1
abbrev pub at_number : {A : Type 0} → List A → ℕ → Option A
at_number xs zero = None
at_number xs (suc place) = slice_get xs place

-- the fixed part of the partition with a number
abbrev pub fixed_of : Schedule → ℕ → Partition → Fixed
fixed_of schedule number p = record { name = p.name; number = number; period = p.period; duration = p.duration; schedule = schedule_of_partition number schedule; health = p.health }

infixl 10 ◌>>=◌
abbrev pub ◌>>=◌ : {A B : Type 0} → Option A → (A → Option B) → Option B
o >>= f = option_and_then f o

-- Names: partitions differ in name, channels too, and the ports of a partition.

unfoldable pub has_twice : {A : Type 0} → (A → A → Bool) → List A → Bool
has_twice equal [] = false
has_twice equal (x ∷ xs) = list_any (equal x) xs || has_twice equal xs

-- The rules on rows. Those of a table that is read and of an image that is loaded are the same.

-- Period: the frame is no multiple of a partition's period.
abbrev pub has_odd_period : ℕ → List Partition → Bool
has_odd_period frame ps = list_any (λ p. not (frame % p.period == 0)) ps

-- Duration: in some period of the frame a partition's windows offer fewer ticks than its duration.

-- the ticks that a window has in common with those from `low` up to `high`
abbrev pub common : ℕ → ℕ → WindowRow → ℕ
common low high w = min high (w.offset + w.length) - max low w.offset

-- the ticks from `low` up to `high` that windows offer to a partition
unfoldable pub offered : ℕ → ℕ → ℕ → List WindowRow → ℕ
offered partition low high windows = sum_by (λ w. if w.partition.0 == partition then common low high w else 0) windows

-- whether one of the first periods of a partition offers less than its duration
unfoldable pub falls_short : ℕ → ℕ → ℕ → ℕ → List WindowRow → Bool
falls_short zero partition period duration windows = false
falls_short (suc k) partition period duration windows = nat_lt (offered partition (k * period) ((k + 1) * period) windows) duration || falls_short k partition period duration windows

-- whether a period of one of the partitions, which are numbered from `n`, offers less than its
-- duration
unfoldable pub falls_short_from : ℕ → Schedule → List Partition → Bool
falls_short_from n s [] = false
falls_short_from n s (p ∷ ps) = falls_short (s.frame / p.period) n p.period p.duration s.windows || falls_short_from (n + 1) s ps

abbrev pub has_short_period : Schedule → List Partition → Bool
has_short_period s ps = falls_short_from 1 s ps

-- Release: a partition without a release window.
unfoldable pub lacks_release_from : ℕ → List WindowRow → List Partition → Bool
lacks_release_from n windows [] = false
lacks_release_from n windows (p ∷ ps) = not (has_release windows n) || lacks_release_from (n + 1) windows ps

abbrev pub lacks_release : List WindowRow → List Partition → Bool
lacks_release windows ps = lacks_release_from 1 windows ps

-- Ends: the ends that a channel connects.

abbrev pub ends_of : Channel → List ChannelEnd
ends_of c = c.source ∷ c.destinations

-- the port at an end
abbrev pub port_at : List Partition → ChannelEnd → Option PortRow
port_at ps ends.Device = None
port_at ps (ends.Port p q) = slice_get ps (p.0 - 1) >>= λ row. slice_get row.ports (q.0 - 1)

abbrev pub is_device : ChannelEnd → Bool
is_device ends.Device = true
is_device (ends.Port p q) = false

abbrev pub is_same_port : ChannelEnd → ChannelEnd → Bool
is_same_port (ends.Port p q) (ends.Port r s) = (p.0 == r.0) && (q.0 == s.0)
is_same_port _ _ = false

abbrev pub is_in_same_partition : ChannelEnd → ChannelEnd → Bool
is_in_same_partition (ends.Port p q) (ends.Port r s) = p.0 == r.0
is_in_same_partition _ _ = false

abbrev pub is_queuing : PortKind → Bool
is_queuing (kinds.Sampling refresh) = false
is_queuing (kinds.Queuing depth discipline) = true

abbrev pub is_same_kind : PortKind → PortKind → Bool
is_same_kind (kinds.Sampling a) (kinds.Sampling b) = true
is_same_kind (kinds.Queuing a c) (kinds.Queuing b d) = true
is_same_kind _ _ = false

abbrev pub is_source : PortDirection → Bool
is_source directions.Source = true
is_source directions.Destination = false

-- a test of the port at an end, false without a port
abbrev pub port_is : List Partition → (PortRow → Bool) → ChannelEnd → Bool
port_is ps test end = elim (port_at ps end) [ None ↦ false | Some row ↦ test row ]

abbrev pub is_source_port : List Partition → ChannelEnd → Bool
is_source_port ps = port_is ps (λ row. is_source row.direction)

abbrev pub is_destination_port : List Partition → ChannelEnd → Bool
is_destination_port ps = port_is ps (λ row. not (is_source row.direction))

abbrev pub is_queuing_port : List Partition → ChannelEnd → Bool
is_queuing_port ps = port_is ps (λ row. is_queuing row.kind)

-- two ends with ports of different kind or words
abbrev pub differ : List Partition → ChannelEnd → ChannelEnd → Bool
differ ps d e = port_is ps (λ a. port_is ps (λ b. not (is_same_kind a.kind b.kind) || not (a.words == b.words)) e) d

-- a source that is a destination port, or a destination that is a source port
abbrev pub has_wrong_direction : List Partition → Channel → Bool
has_wrong_direction ps c = is_destination_port ps c.source || list_any (is_source_port ps) c.destinations

-- two ports of different kind or words
abbrev pub has_mixed_ports : List Partition → List ChannelEnd → Bool
has_mixed_ports ps es = list_any (λ d. list_any (differ ps d) es) es

-- a partition that sends to itself
abbrev pub sends_to_itself : Channel → Bool
sends_to_itself c = list_any (is_in_same_partition c.source) c.destinations

-- the device at two ends
unfoldable pub has_two_devices : List ChannelEnd → Bool
has_two_devices [] = false
has_two_devices (e ∷ es) = if is_device e then list_any is_device es else has_two_devices es

-- a queue that does not go to exactly one place
abbrev pub is_split_queue : List Partition → Channel → Bool
is_split_queue ps c = list_any (is_queuing_port ps) (ends_of c) && not (length c.destinations == 1)

unfoldable pub is_wrong : List Partition → Channel → Bool
is_wrong ps c = has_wrong_direction ps c || has_mixed_ports ps (ends_of c) || sends_to_itself c || has_two_devices (ends_of c) || is_split_queue ps c

-- a port at two ends, of one channel or of several, or a wrong channel
abbrev pub has_wrong_ends : List Partition → List Channel → Bool
has_wrong_ends ps cs = has_twice is_same_port (flat_map ends_of cs) || list_any (is_wrong ps) cs
