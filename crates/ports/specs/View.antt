-- The view of the fields of ports, and their invariants.
use Rattle.std.specs.Prelude.{◌≤◌, length}
use Rattle.apex_types.specs.Limits.{MOST_OBJECTS, MOST_TICKS}
use Rattle.kernel_meaning.specs.Objects as meaning
use Rattle.ports.specs.declared.port.Port.TheInside as port
use Rattle.ports.specs.declared.ports.Ports.TheInside as ports

abbrev pub port_of : port.Inside → meaning.Port
port_of x = record { row = x.row; created = x.created; messages = x.messages.items; arrival = x.arrival; valid = x.valid; overflowed = x.overflowed }

-- no more messages than the port may hold, and memory for that number of them; the refresh
-- period is at most 2^40 ticks
pub record HasRing (x : port.Inside) : Type 0 where
  pub few : length x.messages.items ≤ meaning.depth_of x.row.kind
  pub room : meaning.depth_of x.row.kind ≤ x.messages.capacity
  pub short : meaning.refresh_of x.row.kind ≤ MOST_TICKS

abbrev pub ports_of : ports.Inside → meaning.Ports
ports_of o = record { ports = o.ports.items }

-- no more ports than a partition may have
pub record AreFew (o : ports.Inside) : Type 0 where
  pub ports : length o.ports.items ≤ MOST_OBJECTS
