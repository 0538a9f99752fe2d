-- The report of a whole trace, whose lines are counted one by one.
use Rattle.std.specs.Prelude.{◌≡◌, ℕ, Bool, true, false, if◌then◌else◌, map, List, [], ◌∷◌, Option, Some, None}
use Rattle.apex_types.specs.declared.event.Event.{Event}
use Rattle.apex_types.specs.declared.identity.Ticks.{Ticks}
use Rattle.kernel_meaning.specs.Windows.{Schedule}
use Rattle.trace_stays.specs.declared.span.Span.{Span}
use Rattle.trace_windows.specs.Runs.{AreBefore, AreSharesOf, HasPassed}
use Rattle.trace_windows.specs.Standings.{at_first, in_run, standing_of}
use Rattle.trace_windows.specs.Standings as standings
use Rattle.trace_windows.specs.declared.shares.Shares.{Shares}
use Rattle.trace_view.specs.Counted.{HasErrorIf, HasMessageIf}
use Rattle.trace_view.specs.Extents.{closed, extent_after, opened, with_line}
use Rattle.trace_view.specs.Partitions.{partition_total, partitions_after}
use Rattle.trace_view.specs.Processes.{HaveFollowed}
use Rattle.trace_view.specs.Processes as processes
use Rattle.trace_view.specs.Starts.{told_behind, told_first}
use Rattle.trace_view.specs.Tallies.{has_tick, is_read}
use Rattle.trace_view.specs.Traffic.{totals_from}
use Rattle.trace_view.specs.Whole.{AreErrorsOf, AreMessagesOf, ArePartitionsOf, AreProcessesOf, ticks_of_lines}
use Rattle.trace_view.specs.declared.report.Report.{Report}
use Rattle.trace_view.specs.declared.summary.Summary.{Summary}
use Rattle.window_table.specs.Schedules.{schedule_of}

-- ---- what the processor did, if the windows are known: their schedule, and the names of the partitions

-- no line was read, and no tick counted
abbrev pub AreSharesBefore : Option (Schedule × List (List ℕ)) → Ticks → Option Shares → Type 0
AreSharesBefore None from None = Unit {0}
AreSharesBefore (Some w) from (Some s) = (schedule_of s.schedule ≡ w.0) × (s.from ≡ from) × (standing_of s ≡ at_first w.1) × (s.counted.rows.items ≡ [])
AreSharesBefore _ from _ = ⊥

-- the ticks before a line were counted, and the line was read
pub record HasFollowed (e : Event) (old new : Shares) : Type 0 where
  pub schedule : new.schedule ≡ old.schedule
  pub from : new.from ≡ old.from
  pub standing : standing_of new ≡ standings.with_line e (standing_of old)
  pub counted : HasPassed (schedule_of old.schedule) old.from.0 (standing_of old) (in_run e.tick.0) old.counted.rows.items new.counted.rows.items

abbrev pub HasFollowedIf : Bool → Event → Shares → Shares → Type 0
HasFollowedIf true e old new = HasFollowed e old new
HasFollowedIf false e old new = new ≡ old

abbrev pub SharesFollow : Bool → Event → Option Shares → Option Shares → Type 0
SharesFollow reads e None None = Unit {0}
SharesFollow reads e (Some old) (Some new) = HasFollowedIf reads e old new
SharesFollow reads e _ _ = ⊥

-- the ticks before this one were counted
abbrev pub SharesPass : ℕ → Option Shares → Option Shares → Type 0
SharesPass until None None = Unit {0}
SharesPass until (Some old) (Some new) = HasPassed (schedule_of old.schedule) old.from.0 (standing_of old) (in_run until) old.counted.rows.items new.counted.rows.items
SharesPass until _ _ = ⊥

-- the lines before the window's end
abbrev pub lines_read : Span → List Event → List Event
lines_read window [] = []
lines_read window (e ∷ es) = if is_read window e.tick.0 then e ∷ lines_read window es else lines_read window es

-- The rows have the ticks of the run with these lines, from one on and before the other, if none of the lines is later.
abbrev pub AreSharesIn : Option (Schedule × List (List ℕ)) → (from until : ℕ) → List Event → Option Shares → Type 0
AreSharesIn None from until lines None = Unit {0}
AreSharesIn (Some w) from until lines (Some s) = AreBefore until 0 lines → AreSharesOf w.0 w.1 from until lines s.counted.rows.items
AreSharesIn _ from until lines _ = ⊥

-- ---- the counts, before the first line, after each, and in the end

pub record HasBegun (from : Ticks) (given : Option Ticks) (windows : Option (Schedule × List (List ℕ))) (s : Summary) : Type 0 where
  pub to : s.to ≡ given
  pub extent : s.extent ≡ opened from given
  pub told : s.told ≡ told_first
  pub shares : AreSharesBefore windows from s.shares
  pub partitions : s.counts.partitions.rows.items ≡ []
  pub processes : s.counts.processes.rows.items ≡ []
  pub errors : s.counts.errors.totals.items ≡ []
  pub messages : s.counts.traffic.passages.items ≡ []

pub record HasCounted (e : Event) (old new : Summary) : Type 0 where
  pub to : new.to ≡ old.to
  pub extent : new.extent ≡ with_line e.tick old.extent
  pub told : new.told ≡ told_behind e old.told
  pub shares : SharesFollow (is_read old.extent.window e.tick.0) e old.shares new.shares
  pub partitions : new.counts.partitions.rows.items ≡ partitions_after old.extent.window old.told e old.counts.partitions.rows.items
  pub processes : HaveFollowed old.extent.window e old.counts.processes.rows.items new.counts.processes.rows.items
  pub errors : HasErrorIf (has_tick old.extent.window e.tick.0) e.partition e.kind old.counts.errors new.counts.errors
  pub messages : HasMessageIf (has_tick old.extent.window e.tick.0) e.partition e.kind old.counts.traffic new.counts.traffic

-- these lines were counted, one after another
abbrev pub AreCounted : List Event → Summary → Summary → Type 0
AreCounted [] old new = new ≡ old
AreCounted (e ∷ es) old new = (mid : Summary) × HasCounted e old mid × AreCounted es mid new

pub record HasFinished (s : Summary) (report : Report) : Type 0 where
  pub extent : report.extent ≡ closed s.to s.extent
  pub shares : SharesPass (closed s.to s.extent).window.until.0 s.shares report.shares
  pub partitions : report.partitions.items ≡ map (partition_total (closed s.to s.extent).window) s.counts.partitions.rows.items
  pub processes : report.processes.items ≡ processes.totals_from (closed s.to s.extent).window report.partitions.items s.counts.processes.rows.items
  pub errors : report.errors ≡ s.counts.errors.totals
  pub routes : report.routes.items ≡ totals_from report.partitions.items s.counts.traffic.passages.items

-- ---- a report

-- The report of a trace of these lines, in the ticks from one on and before the end, if one is given: its lines, errors and messages are those of the
-- window, and partitions and processes have the numbers that the lines lead to. If the windows are known, what the processor did is what the lines show.
pub record IsReportOf (from : Ticks) (to : Option Ticks) (windows : Option (Schedule × List (List ℕ))) (events : List Event) (report : Report) : Type 0 where
  pub extent : report.extent ≡ closed to (extent_after (opened from to) (ticks_of_lines events))
  pub partitions : ArePartitionsOf (opened from to).window (closed to (extent_after (opened from to) (ticks_of_lines events))).window events report.partitions.items
  pub processes : AreProcessesOf (opened from to).window (closed to (extent_after (opened from to) (ticks_of_lines events))).window events report.processes.items
  pub errors : AreErrorsOf (opened from to).window events report.errors.items
  pub messages : AreMessagesOf (opened from to).window events report.partitions.items report.routes.items
  pub shares : AreSharesIn windows from.0 (in_run (closed to (extent_after (opened from to) (ticks_of_lines events))).window.until.0) (lines_read (opened from to).window events) report.shares
