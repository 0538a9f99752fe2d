use Rattle.std.proofs.Common.{◌≡◌, ◌≤◌, ◌-◌, ◌*◌, max}
use Rattle.trace_windows.specs.Counts.{HasTotal, ticks_for, with_more}
use Rattle.trace_windows.specs.Standings.{standing_of}
use Rattle.trace_windows.specs.Uses.{ticks_used, use_at}
use Rattle.trace_windows.specs.declared.usage.Use.{Use}
use Rattle.window_table.specs.Schedules.{schedule_of}
use Rattle.trace_windows.proofs.shares.Shares.count.Given as goal

-- the ticks so far are counted
abbrev pub invariant-loop-now : goal.invariant-loop-now
invariant-loop-now l = record {
  past : l.from ≤ l.now;
  before : l.now ≤ max l.from l.until;
  others : l.self ≡ record l.fn.self { counted = l.self.counted };
  counted : (u : Use) → ticks_for u l.self.counted.rows.items ≡ with_more (l.times * ticks_used (use_at (schedule_of l.fn.self.schedule) (standing_of l.fn.self)) u l.from (l.now - l.from)) (ticks_for u l.fn.self.counted.rows.items);
  total : HasTotal (l.times * (l.now - l.from)) l.fn.self.counted.rows.items l.self.counted.rows.items;
}

abbrev pub decreases-loop-now : goal.decreases-loop-now
decreases-loop-now l = l.until - l.now
