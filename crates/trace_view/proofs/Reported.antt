-- The report of a trace, whose lines are counted one by one: what is counted, with the lines that are left, is all.
use Rattle.std.proofs.Common.{◌≡◌, ◌-◌, ◌<◌, ◌≤◌, ℕ, Bool, true, false, List, [], ◌∷◌, map, Option, Some, None, refl, sym, ap, ◌∙◌, subst}
use Rattle.std.specs.Prelude.{if◌then◌else◌}
use Rattle.std.proofs.lemmas.Bool.{le-ltb, lt-ltb}
use Rattle.apex_types.specs.declared.event.Event.{Event}
use Rattle.apex_types.specs.declared.identity.Ticks.{Ticks}
use Rattle.kernel_meaning.specs.Windows.{Schedule}
use Rattle.trace_stays.specs.declared.span.Span.{Span}
use Rattle.trace_windows.specs.Counts.{capped}
use Rattle.trace_windows.specs.Runs.{AreBefore, HasPassed}
use Rattle.trace_windows.specs.Standings.{Standing, at_first, in_run, standing_of}
use Rattle.trace_windows.specs.Uses.{ticks_used, use_of}
use Rattle.trace_windows.specs.declared.counted.Row.{Row}
use Rattle.trace_windows.specs.declared.shares.Shares.{Shares}
use Rattle.trace_windows.specs.declared.usage.Use.{Use}
use Rattle.trace_windows.proofs.Reading.{WillCount, all_read, begins, step_read}
use Rattle.trace_view.specs.Counted.{HasErrorIf, HasMessageIf}
use Rattle.trace_view.specs.Extents.{closed, extent_after, opened}
use Rattle.trace_view.specs.Partitions.{partition_total, partitions_after}
use Rattle.trace_view.specs.Processes.{HaveFollowed, totals_from}
use Rattle.trace_view.specs.Reports.{AreCounted, AreSharesBefore, AreSharesIn, HasBegun, HasCounted, HasFinished, HasFollowedIf, IsReportOf, SharesFollow, SharesPass, lines_read}
use Rattle.trace_view.specs.Tallies.{has_tick, is_read}
use Rattle.trace_view.specs.Whole.{ArePartitionsOf, ticks_of_lines}
use Rattle.trace_view.specs.declared.extent.Extent.{Extent}
use Rattle.trace_view.specs.declared.report.Report.{Report}
use Rattle.trace_view.specs.declared.summary.Summary.{Summary}
use Rattle.trace_view.proofs.Behind.{PartitionsWillBe, ProcessesWillBe, partitions_all, partitions_begin, partitions_go_on, processes_all, processes_begin, processes_go_on, window_closed}
use Rattle.trace_view.proofs.Reading.{ErrorsWillBe, MessagesWillBe, errors_all, errors_begin, errors_read, extent_read, messages_all, messages_begin, messages_read, same_window}
use Rattle.window_table.specs.Schedules.{schedule_of}

-- ---- what the processor did

-- the ticks that each use has in the end
abbrev pub all_of : Schedule → List (List ℕ) → (from until : ℕ) → List Event → Use → ℕ
all_of schedule names from until lines u = capped (ticks_used (use_of schedule (at_first names) lines) u from (until - from))

pub record WillShare (w : Schedule × List (List ℕ)) (first : Ticks) (until : ℕ) (lines left : List Event) (s : Shares) : Type 0 where
  pub schedule : schedule_of s.schedule ≡ w.0
  pub from : s.from ≡ first
  pub counted : AreBefore until 0 lines → WillCount w.0 first.0 until (standing_of s) left s.counted.rows.items (all_of w.0 w.1 first.0 until lines)

abbrev pub SharesWillBe : Option (Schedule × List (List ℕ)) → Ticks → ℕ → (lines left : List Event) → Option Shares → Type 0
SharesWillBe None from until lines left None = Unit {0}
SharesWillBe (Some w) from until lines left (Some s) = WillShare w from until lines left s
SharesWillBe _ from until lines left _ = ⊥

shares_begin : (windows : Option (Schedule × List (List ℕ))) (from : Ticks) (until : ℕ) (lines : List Event) (o : Option Shares) → AreSharesBefore windows from o → SharesWillBe windows from until lines lines o
shares_begin None from until lines None h = tt
shares_begin None from until lines (Some s) h = absurd h
shares_begin (Some w) from until lines None h = absurd h
shares_begin (Some w) from until lines (Some s) h = record {
  schedule = h.0;
  from = h.1;
  counted = λ before. begins w.0 w.1 from.0 until lines (standing_of s) s.counted.rows.items h.2 h.3 before;
}

-- of the schedule and from the tick that are known
as_known : (a b : Schedule) (x y : Ticks) (s : Standing) (t : ℕ) (old new : List Row) → a ≡ b → x ≡ y → HasPassed a x.0 s t old new → HasPassed b y.0 s t old new
as_known a b x y s t old new same_schedule same_tick counted =
    subst (λ (c : Schedule). HasPassed c y.0 s t old new) same_schedule (subst (λ (z : Ticks). HasPassed a z.0 s t old new) same_tick counted)

module _ (from : Ticks) (until : ℕ) (lines : List Event) where
  one_more : (w : Schedule × List (List ℕ)) (reads : Bool) (e : Event) (es : List Event) (old new : Shares) → HasFollowedIf reads e old new
      → WillShare w from until lines (if reads then e ∷ es else es) old → WillShare w from until lines es new
  one_more w false e es old new is will = subst (WillShare w from until lines es) (sym is) will
  one_more w true e es old new followed will = record {
    schedule = ap schedule_of followed.schedule ∙ will.schedule;
    from = followed.from ∙ will.from;
    counted = λ before. step_read w.0 from.0 until (standing_of old) (standing_of new) e es (e ∷ es) old.counted.rows.items new.counted.rows.items (all_of w.0 w.1 from.0 until lines) refl followed.standing
        (as_known (schedule_of old.schedule) w.0 old.from from (standing_of old) (in_run e.tick.0) old.counted.rows.items new.counted.rows.items will.schedule will.from followed.counted)
        (will.counted before);
  }

  shares_go_on : (windows : Option (Schedule × List (List ℕ))) (reads : Bool) (e : Event) (es : List Event) (old new : Option Shares) → SharesFollow reads e old new
      → SharesWillBe windows from until lines (if reads then e ∷ es else es) old → SharesWillBe windows from until lines es new
  shares_go_on None reads e es None None followed will = tt
  shares_go_on None reads e es None (Some new) followed will = absurd followed
  shares_go_on None reads e es (Some old) new followed will = absurd will
  shares_go_on (Some w) reads e es None new followed will = absurd will
  shares_go_on (Some w) reads e es (Some old) None followed will = absurd followed
  shares_go_on (Some w) reads e es (Some old) (Some new) followed will = one_more w reads e es old new followed will

  shares_all : (windows : Option (Schedule × List (List ℕ))) (last : ℕ) (old new : Option Shares) → in_run last ≡ until → SharesPass last old new → SharesWillBe windows from until lines [] old → AreSharesIn windows from.0 until lines new
  shares_all None last None None is passed will = tt
  shares_all None last None (Some new) is passed will = absurd passed
  shares_all None last (Some old) new is passed will = absurd will
  shares_all (Some w) last None new is passed will = absurd will
  shares_all (Some w) last (Some old) None is passed will = absurd passed
  shares_all (Some w) last (Some old) (Some new) is passed will = λ before.
      all_read w.0 from.0 until (standing_of old) [] old.counted.rows.items new.counted.rows.items (all_of w.0 w.1 from.0 until lines) refl
      (subst (λ (t : ℕ). HasPassed w.0 from.0 (standing_of old) t old.counted.rows.items new.counted.rows.items) is
      (as_known (schedule_of old.schedule) w.0 old.from from (standing_of old) (in_run last) old.counted.rows.items new.counted.rows.items will.schedule will.from passed))
      (will.counted before)

-- ---- all that is counted

abbrev pub extent_of : Ticks → Option Ticks → List Event → Extent
extent_of from to events = closed to (extent_after (opened from to) (ticks_of_lines events))

pub record WillBe (from : Ticks) (given : Option Ticks) (windows : Option (Schedule × List (List ℕ))) (events left : List Event) (s : Summary) : Type 0 where
  pub to : s.to ≡ given
  pub window : s.extent.window ≡ (opened from given).window
  pub extent : extent_after s.extent (ticks_of_lines left) ≡ extent_after (opened from given) (ticks_of_lines events)
  pub partitions : PartitionsWillBe (opened from given).window events left s.told s.counts.partitions.rows.items
  pub processes : ProcessesWillBe (opened from given).window events left s.counts.processes.rows.items
  pub errors : ErrorsWillBe (opened from given).window events left s.counts.errors.totals.items
  pub messages : MessagesWillBe (opened from given).window events left s.counts.traffic.passages.items
  pub shares : SharesWillBe windows from (in_run (extent_of from given events).window.until.0) (lines_read (opened from given).window events) (lines_read (opened from given).window left) s.shares

module _ (from : Ticks) (to : Option Ticks) (windows : Option (Schedule × List (List ℕ))) (events : List Event) where
  abbrev window : Span
  window = (opened from to).window

  abbrev until : ℕ
  until = in_run (extent_of from to events).window.until.0

  pub will_begin : (s : Summary) → HasBegun from to windows s → WillBe from to windows events events s
  will_begin s h = record {
    to = h.to;
    window = ap (λ (x : Extent). x.window) h.extent;
    extent = ap (λ (x : Extent). extent_after x (ticks_of_lines events)) h.extent;
    partitions = partitions_begin window events s.told s.counts.partitions.rows.items h.told h.partitions;
    processes = processes_begin window events s.counts.processes.rows.items h.processes;
    errors = errors_begin window events s.counts.errors.totals.items h.errors;
    messages = messages_begin window events s.counts.traffic.passages.items h.messages;
    shares = shares_begin windows from until (lines_read window events) s.shares h.shares;
  }

  pub will_go_on : (e : Event) (es left : List Event) (old new : Summary) → left ≡ e ∷ es → HasCounted e old new → WillBe from to windows events left old → WillBe from to windows events es new
  will_go_on e es left old new first h will = record {
    to = h.to ∙ will.to;
    window = same_window e old.extent new.extent h.extent ∙ will.window;
    extent = extent_read e es left old.extent new.extent _ first h.extent will.extent;
    partitions = partitions_go_on window events e es left old.told new.told old.counts.partitions.rows.items new.counts.partitions.rows.items first h.told
        (subst (λ (w : Span). new.counts.partitions.rows.items ≡ partitions_after w old.told e old.counts.partitions.rows.items) will.window h.partitions) will.partitions;
    processes = processes_go_on window events e es left old.counts.processes.rows.items new.counts.processes.rows.items first
        (subst (λ (w : Span). HaveFollowed w e old.counts.processes.rows.items new.counts.processes.rows.items) will.window h.processes) will.processes;
    errors = errors_read window events e es left old.counts.errors new.counts.errors first
        (subst (λ (w : Span). HasErrorIf (has_tick w e.tick.0) e.partition e.kind old.counts.errors new.counts.errors) will.window h.errors) will.errors;
    messages = messages_read window events e es left old.counts.traffic new.counts.traffic first
        (subst (λ (w : Span). HasMessageIf (has_tick w e.tick.0) e.partition e.kind old.counts.traffic new.counts.traffic) will.window h.messages) will.messages;
    shares = shares_go_on from until (lines_read window events) windows (is_read window e.tick.0) e (lines_read window es) old.shares new.shares
        (subst (λ (w : Span). SharesFollow (is_read w e.tick.0) e old.shares new.shares) will.window h.shares)
        (subst (λ (xs : List Event). SharesWillBe windows from until (lines_read window events) (lines_read window xs) old.shares) first will.shares);
  }

  pub all_counted : (s : Summary) (report : Report) (left : List Event) → left ≡ [] → HasFinished s report → WillBe from to windows events left s → IsReportOf from to windows events report
  all_counted s report left none h will = record {
    extent = h.extent ∙ ap (λ (o : Option Ticks). closed o s.extent) will.to ∙ ap (closed to) (ap (λ (xs : List Event). extent_after s.extent (ticks_of_lines xs)) (sym none) ∙ will.extent);
    partitions = parts;
    processes = processes_all window closing events left report.partitions.items s.counts.processes.rows.items report.processes.items none parts
        (h.processes ∙ ap (λ (w : Span). totals_from w report.partitions.items s.counts.processes.rows.items) close) will.processes;
    errors = errors_all window events left s.counts.errors.totals.items report.errors.items none (ap (λ v. v.items) h.errors) will.errors;
    messages = messages_all window events left s.counts.traffic.passages.items report.partitions.items report.routes.items none h.routes will.messages;
    shares = shares_all from until (lines_read window events) windows (closed s.to s.extent).window.until.0 s.shares report.shares (ap (λ (w : Span). in_run w.until.0) close) h.shares
        (subst (λ (xs : List Event). SharesWillBe windows from until (lines_read window events) (lines_read window xs) s.shares) none will.shares);
  }
    where
      closing : Span
      closing = (extent_of from to events).window

      close : (closed s.to s.extent).window ≡ closing
      close = window_closed s.to to left s.extent (extent_after (opened from to) (ticks_of_lines events)) none will.to will.extent

      parts : ArePartitionsOf window closing events report.partitions.items
      parts = partitions_all window closing events left s.told s.counts.partitions.rows.items report.partitions.items none
          (h.partitions ∙ ap (λ (w : Span). map (partition_total w) s.counts.partitions.rows.items) close) will.partitions

-- the lines are counted one after another
pub all_after : (from : Ticks) (to : Option Ticks) (windows : Option (Schedule × List (List ℕ))) (events left : List Event) (old new : Summary) → AreCounted left old new
    → WillBe from to windows events left old → WillBe from to windows events [] new
all_after from to windows events [] old new is will = subst (WillBe from to windows events []) (sym is) will
all_after from to windows events (e ∷ es) old new h will = all_after from to windows events es h.0 new h.2 (will_go_on from to windows events e es (e ∷ es) old h.0 refl h.1 will)

pub reported : (from : Ticks) (to : Option Ticks) (windows : Option (Schedule × List (List ℕ))) (events : List Event) (first last : Summary) (report : Report)
    → HasBegun from to windows first → AreCounted events first last → HasFinished last report → IsReportOf from to windows events report
reported from to windows events first last report begun counted finished =
    all_counted from to windows events last report [] refl finished (all_after from to windows events events first last counted (will_begin from to windows events first begun))

-- ---- one line

pub shares_passed : (window : Span) (e : Event) (o : Option Shares) → window.until.0 ≤ e.tick.0 → SharesFollow (is_read window e.tick.0) e o o
shares_passed window e o behind = subst (λ (b : Bool). SharesFollow b e o o) (sym (le-ltb e.tick.0 window.until.0 behind)) (same o)
  where
    same : (o : Option Shares) → SharesFollow false e o o
    same None = tt
    same (Some s) = refl

pub shares_read : (window : Span) (e : Event) (old new : Option Shares) → e.tick.0 < window.until.0 → SharesFollow true e old new → SharesFollow (is_read window e.tick.0) e old new
shares_read window e old new before followed = subst (λ (b : Bool). SharesFollow b e old new) (sym (lt-ltb e.tick.0 window.until.0 before)) followed
