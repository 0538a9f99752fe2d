-- What is wrong about the channels of a partition's ports: none leads to a destination port, or its messages get stale too soon.
use Rattle.std.specs.Prelude.{ℕ, ◌+◌, ◌-◌, ◌==◌, Bool, false, not, ◌&&◌, List, [], ◌++◌, ◌∷◌, Option, Some, None, option_map, slice_get}
use Rattle.std.specs.List.{list_any}
use Rattle.apex_types.specs.declared.row.ChannelEnd.{ChannelEnd}
use Rattle.apex_types.specs.declared.row.ChannelEnd.TheVariants as ends
use Rattle.apex_types.specs.declared.row.PortKind.{PortKind}
use Rattle.apex_types.specs.declared.row.PortKind.TheVariants as kinds
use Rattle.apex_types.specs.declared.row.PortRow.{PortRow}
use Rattle.module_meaning.specs.Table.{Channel, Partition, is_source}
use Rattle.lint.specs.Arrays.{is_less}
use Rattle.lint.specs.Views.{Found, if_so}
use Rattle.lint.specs.declared.finding.FindingKind.TheVariants as finding

-- the end is the port with this number of the partition with this number
abbrev pub is_end_at : (partition port : ℕ) → ChannelEnd → Bool
is_end_at partition port ends.Device = false
is_end_at partition port (ends.Port p q) = (p.0 == partition) && (q.0 == port)

-- the channel leads to this port
abbrev pub leads_to : (partition port : ℕ) → Channel → Bool
leads_to partition port c = list_any (is_end_at partition port) c.destinations

-- a destination port to which no channel leads
abbrev pub unconnected_port : List Channel → (partition port : ℕ) → PortRow → List Found
unconnected_port cs partition port row =
    if_so (not (is_source row.direction) && not (list_any (leads_to partition port) cs)) (record { kind = finding.UnconnectedPort; subject = row.name })

-- the period of the partition that sends from this end
abbrev pub period_of : List Partition → ChannelEnd → Option ℕ
period_of rows ends.Device = None
period_of rows (ends.Port p q) = option_map (λ row. row.period) (slice_get rows (p.0 - 1))

abbrev pub refresh_of : PortKind → Option ℕ
refresh_of (kinds.Sampling refresh) = Some refresh
refresh_of (kinds.Queuing depth discipline) = None

-- a message that comes through the channel to this port is stale before its sender has the next period
abbrev pub is_stale : List Partition → (partition port : ℕ) → PortRow → Channel → Bool
is_stale rows partition port row c = leads_to partition port c && is_less (refresh_of row.kind) (period_of rows c.source)

abbrev pub short_refresh : List Partition → List Channel → (partition port : ℕ) → PortRow → List Found
short_refresh rows cs partition port row = if_so (list_any (is_stale rows partition port row) cs) (record { kind = finding.ShortRefresh; subject = row.name })

-- of the ports of a partition, the first of which has this number
abbrev pub found_at_ports : List Partition → List Channel → (partition port : ℕ) → List PortRow → List Found
found_at_ports rows cs partition port [] = []
found_at_ports rows cs partition port (row ∷ ports) =
    (unconnected_port cs partition port row ++ short_refresh rows cs partition port row) ++ found_at_ports rows cs partition (port + 1) ports
