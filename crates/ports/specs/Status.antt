-- What the status of a port shows in place of its messages.
use Rattle.std.specs.Prelude.{ℕ, [], drop, length, Option, Some, None, slice_index_or}
use Rattle.apex_types.specs.declared.row.PortDirection.TheVariants as direction
use Rattle.apex_types.specs.declared.row.PortKind.TheVariants as kind
use Rattle.kernel_meaning.specs.Objects.{Port, Ports, fresh_port}
use Rattle.ports.specs.declared.port.PortStatus.{PortStatus}

abbrev pub port_status : Port → PortStatus
port_status x = record { row = x.row; created = x.created; messages = length x.messages; valid = x.valid }

-- the port at a place
abbrev pub placed_port : Ports → ℕ → Port
placed_port o place = slice_index_or o.ports place (fresh_port (record { name = []; kind = kind.Sampling 0; direction = direction.Source; words = 0 }))

-- the port of a status with its place
abbrev pub port_of_status : Ports → Option (ℕ × PortStatus) → Option (ℕ × Port)
port_of_status o None = None
port_of_status o (Some f) = Some (f.0, placed_port o f.0)

-- removes its first message
abbrev pub without_first : Port → Port
without_first x = record x { messages = drop 1 x.messages }

-- the port at the place of a status
abbrev pub port_with_status : Ports → ℕ → Option PortStatus → Option Port
port_with_status o place None = None
port_with_status o place (Some s) = Some (placed_port o place)
