-- The rules on the rows of an image. A table cannot break those on numbers: there, partitions and ports have names.
use Rattle.std.specs.Prelude.{ℕ, List, ◌+◌, Bool, false, not, ◌&&◌, ◌||◌, ◌==◌, nat_lt, is_none, length}
use Rattle.std.specs.List.{list_any}
use Rattle.apex_types.specs.declared.row.ChannelEnd.{ChannelEnd}
use Rattle.apex_types.specs.declared.row.ChannelEnd.TheVariants as ends
use Rattle.apex_types.specs.declared.row.WindowRow.{WindowRow}
use Rattle.kernel_meaning.specs.Windows.{Schedule}
use Rattle.module_meaning.specs.Table.{Partition, Channel, ends_of, port_at, has_odd_period, has_short_period, lacks_release, has_wrong_ends}

-- Windows: a window that names no partition of the table, or ends after the frame.
abbrev pub is_wrong_window : (frame count : ℕ) → WindowRow → Bool
is_wrong_window frame count row = nat_lt row.partition.0 1 || nat_lt count row.partition.0 || nat_lt frame (row.offset + row.length)

abbrev pub has_wrong_window : Schedule → ℕ → Bool
has_wrong_window s count = list_any (is_wrong_window s.frame count) s.windows

-- an end that is no port: the partition or the port of that number does not exist
abbrev pub is_unknown_port : List Partition → ChannelEnd → Bool
is_unknown_port ps ends.Device = false
is_unknown_port ps (ends.Port p q) = (p.0 == 0) || (q.0 == 0) || is_none (port_at ps (ends.Port p q))

abbrev pub has_unknown_port : List Partition → List Channel → Bool
has_unknown_port ps cs = list_any (λ c. list_any (is_unknown_port ps) (ends_of c)) cs

-- All these rules are kept, and each number of a partition or a port names one that exists.
abbrev pub keeps_rules : Schedule → List Partition → List Channel → Bool
keeps_rules s ps cs =
    not (has_wrong_window s (length ps)) && not (has_odd_period s.frame ps) && not (has_short_period s ps) && not (lacks_release s.windows ps)
    && not (has_unknown_port ps cs) && not (has_wrong_ends ps cs)
