-- An output as the clauses see it, and the ticks that a step returns.
use Rattle.std.specs.Prelude.{Option, option_map}
use Rattle.apex_types.specs.declared.identity.At.{At}
use Rattle.apex_types.specs.declared.identity.Moment.{Moment}
use Rattle.apex_types.specs.declared.sink.Sink.{Ghosts}
use Rattle.lone_partition.specs.declared.output.Output.{Output}
use Rattle.lone_partition.specs.Sent.{Sent}

abbrev pub sent_of : {S : Type 0} → (g : Ghosts S) → Output S g → Sent
sent_of g o = record {
  trace = o.trace.ghost_name;
  sink = o.sink.ghost_name;
  taken = g.taken o.sink.now;
  failures = g.failures o.sink.now;
  failed = o.has_failed;
}

abbrev pub at_of : Moment → At
at_of m = m.at

-- the tick with the origin valid from here on, if any
abbrev pub next_at : Option Moment → Option At
next_at o = option_map at_of o
