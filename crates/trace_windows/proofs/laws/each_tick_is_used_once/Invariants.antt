use Rattle.std.proofs.Common.{◌≡◌, ◌-◌, drop}
use Rattle.trace_windows.specs.Counts.{all_ticks, capped}
use Rattle.trace_windows.specs.Runs.{AreBefore}
use Rattle.trace_windows.specs.Standings.{at_first, in_run, standing_of}
use Rattle.trace_windows.specs.Uses.{ticks_used, use_of}
use Rattle.trace_windows.specs.declared.usage.Use.{Use}
use Rattle.trace_windows.proofs.Reading.{WillCount}
use Rattle.window_table.specs.Schedules.{schedule_of}
use Rattle.trace_windows.proofs.laws.each_tick_is_used_once.Given as goal

-- what is counted, and what the lines that are left will add, is all
abbrev pub invariant-loop-event : goal.invariant-loop-event
invariant-loop-event l = record {
  schedule : l.shares.schedule ≡ l.fn.schedule;
  from : l.shares.from ≡ l.fn.from;
  counted : AreBefore (in_run l.fn.until.0) 0 l.fn.events
      → WillCount (schedule_of l.fn.schedule) l.fn.from.0 (in_run l.fn.until.0) (standing_of l.shares) (drop l.event-index l.fn.events) l.shares.counted.rows.items
      (λ (u : Use). capped (ticks_used (use_of (schedule_of l.fn.schedule) (at_first l.fn.names) l.fn.events) u l.fn.from.0 (in_run l.fn.until.0 - l.fn.from.0)));
  total : capped (all_ticks l.shares.counted.rows.items) ≡ capped (l.shares.tick.0 - l.fn.from.0);
}
