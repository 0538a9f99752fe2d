use Rattle.std.proofs.Common.{drop}
use Rattle.trace_stays.proofs.Traces.{WillBe}
use Rattle.trace_stays.proofs.laws.follow_all.Given as goal

-- what was read, and what the lines that are left will say, is all
abbrev pub invariant-loop-event : goal.invariant-loop-event
invariant-loop-event l = WillBe l.fn.events l.fn.until.0 l.lanes (drop l.event-index l.fn.events) l.ended.items
