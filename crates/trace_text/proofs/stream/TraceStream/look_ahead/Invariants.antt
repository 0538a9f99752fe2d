use Rattle.std.proofs.Common.{◌≡◌, ◌-◌, length}
use Rattle.std.specs.Io.KnownBytes.{Keeps}
use Rattle.apex_types.specs.declared.limits.TheConstants.{MOST_LINE_BYTES}
use Rattle.trace_text.specs.Stream.{ahead_bytes, left}
use Rattle.trace_text.proofs.stream.TraceStream.look_ahead.Given as goal

abbrev pub invariant-loop-self : goal.invariant-loop-self
invariant-loop-self g l =
    Keeps (left g.R.Read.remaining l.initial.self) (left g.R.Read.remaining l.self)
    × (l.self.before ≡ l.initial.self.before)
    × (l.self.lines ≡ l.initial.self.lines)

abbrev pub decreases-loop-self : goal.decreases-loop-self
decreases-loop-self g l = MOST_LINE_BYTES - length (ahead_bytes l.self.ahead)
