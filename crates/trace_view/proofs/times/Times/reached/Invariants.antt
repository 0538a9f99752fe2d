use Rattle.std.proofs.Common.{◌≡◌}
use Rattle.trace_view.specs.Percentiles.{reached}
use Rattle.trace_view.proofs.times.Times.reached.Given as goal

-- what the entries that are left reach, all of them reach
abbrev pub invariant-loop-time : goal.invariant-loop-time
invariant-loop-time l = reached l.wanted l.before l.time-iterator ≡ reached l.wanted 0 l.self.counts.entries
