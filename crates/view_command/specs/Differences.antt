-- How two traces are read.
use Rattle.std.specs.Prelude.{Option, Some, None, nat_lt, if◌then◌else◌}
use Rattle.apex_types.specs.declared.event.Event.{Event}
use Rattle.trace_lines.specs.declared.side.Side.{Side}
use Rattle.trace_lines.specs.declared.side.Side.TheVariants as side

-- the trace whose next line is read first: that with the earlier tick, and of one tick the first trace
abbrev pub earlier : Option Event → Option Event → Option Side
earlier None None = None
earlier (Some one) None = Some side.First
earlier None (Some other) = Some side.Second
earlier (Some one) (Some other) = if nat_lt other.tick.0 one.tick.0 then Some side.Second else Some side.First
