use Rattle.std.proofs.Common.{length}
use Rattle.trace_text.proofs.SoFar.{IsReadSoFar}
use Rattle.trace_text.proofs.whole.check_trace.Given as goal

abbrev pub invariant-loop-event : goal.invariant-loop-event
invariant-loop-event l = IsReadSoFar l.text l.reader.before.0 l.reader.lines l.reader.rest.now

abbrev pub decreases-loop-event : goal.decreases-loop-event
decreases-loop-event l = length l.reader.rest.now
