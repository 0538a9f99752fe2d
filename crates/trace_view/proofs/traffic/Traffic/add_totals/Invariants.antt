use Rattle.std.proofs.Common.{◌≡◌, ◌++◌, drop}
use Rattle.trace_view.specs.Traffic.{totals_at}
use Rattle.trace_view.proofs.traffic.Traffic.add_totals.Given as goal

-- the totals so far, and those of the rest, are all
abbrev pub invariant-loop-passage : goal.invariant-loop-passage
invariant-loop-passage l = l.totals.items ++ totals_at l.partition (drop l.passage-index l.self.passages.items) ≡ l.initial.totals.items ++ totals_at l.partition l.self.passages.items
