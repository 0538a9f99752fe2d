use Rattle.std.proofs.Common.{None, drop}
use Rattle.trace_view.proofs.Reported.{WillBe}
use Rattle.trace_view.proofs.whole.summary_of.Given as goal

abbrev pub invariant-loop-event : goal.invariant-loop-event
invariant-loop-event l = WillBe l.fn.from l.fn.to None l.fn.events (drop l.event-index l.fn.events) l.summary
