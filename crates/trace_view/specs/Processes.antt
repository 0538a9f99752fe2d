-- The numbers of a process, line by line. A process is named by its partition's name and its own word.
use Rattle.std.specs.Prelude.{◌≡◌, ℕ, ◌+◌, Bool, false, ◌&&◌, ◌||◌, if◌then◌else◌, List, [], ◌∷◌, ◌++◌, Option, Some, None}
use Rattle.apex_types.specs.Line.{subject_text}
use Rattle.apex_types.specs.declared.codes.ErrorKind.{ErrorKind}
use Rattle.apex_types.specs.declared.codes.ErrorKind.TheVariants as error
use Rattle.apex_types.specs.declared.event.Event.{Event}
use Rattle.apex_types.specs.declared.event.EventKind.{EventKind}
use Rattle.apex_types.specs.declared.event.EventKind.TheVariants as event
use Rattle.apex_types.specs.declared.event.Subject.{Subject}
use Rattle.apex_types.specs.declared.identity.Ticks.{Ticks}
use Rattle.engine_meaning.specs.Digits.{same}
use Rattle.trace_stays.specs.Following.{is_of, next_by}
use Rattle.trace_stays.specs.Stays.{held_behind, state_entered, stay_ended, stay_left}
use Rattle.trace_stays.specs.declared.next.Next.{Next}
use Rattle.trace_stays.specs.declared.span.Span.{Span}
use Rattle.trace_stays.specs.declared.stay.Held.{Held}
use Rattle.trace_view.specs.Counting.{capped, with_answer}
use Rattle.trace_view.specs.Percentiles.{AreTimes}
use Rattle.trace_view.specs.Spreads.{spreads_of}
use Rattle.trace_view.specs.Tallies.{has_tick, is_read, measured, nothing_counted, turned, with_ended}
use Rattle.trace_view.specs.Turns.{and_measured, end_times, running_times}
use Rattle.trace_view.specs.declared.processes.ProcessRow.{ProcessRow}
use Rattle.trace_view.specs.declared.report.PartitionTotal.{PartitionTotal}
use Rattle.trace_view.specs.declared.report.ProcessTotal.{ProcessTotal}
use Rattle.trace_view.specs.declared.tally.Measured.{Measured}
use Rattle.trace_view.specs.declared.tally.Tally.{Tally}
use Rattle.trace_view.specs.declared.tally.Turn.{Turn}

-- what the lines so far say of a process
pub record Process : Type 0 where
  -- the state that it holds
  pub held : Option Held
  pub tally : Tally
  -- the times that its turns measured, the last one first
  pub times : List Measured

-- a process without a line
abbrev pub no_process : Process
no_process = record { held = None; tally = nothing_counted; times = [] }

-- ---- a line

-- the process enters a state, or is gone
abbrev pub turn_of : Option Held → Next → Ticks → Turn
turn_of held next t = record { tick = t; ended = stay_ended held next t.0; next = state_entered next }

abbrev pub with_turn : Span → Next → Ticks → Process → Process
with_turn window next t p = record {
  held = held_behind p.held next t.0;
  tally = turned window (turn_of p.held next t) p.tally;
  times = and_measured (measured (state_entered next) (turn_of p.held next t) p.tally.activation) p.times;
}

abbrev pub turned_if : Span → Option Next → Ticks → Process → Process
turned_if window None t p = p
turned_if window (Some next) t p = with_turn window next t p

-- the subject of an answer, a missed deadline or an application message in such a line
abbrev pub missed_by : ErrorKind → Option Subject → Option Subject
missed_by error.DeadlineMissed who = who
missed_by _ who = None

abbrev pub counted_for : EventKind → Option Subject
counted_for (event.Return who service code) = Some who
counted_for (event.Error e who response) = missed_by e who
counted_for (event.Report who words) = Some who
counted_for _ = None

abbrev pub is_word : List ℕ → Option Subject → Bool
is_word word None = false
is_word word (Some who) = same (subject_text who) word

abbrev pub with_one : EventKind → Tally → Tally
with_one (event.Return who service code) t = record t { refusals = with_answer code t.refusals }
with_one (event.Error e who response) t = record t { deadlines_missed = capped (t.deadlines_missed + 1) }
with_one (event.Report who words) t = record t { reports = capped (t.reports + 1) }
with_one _ t = t

-- whether such a line of its partition counts for the process
abbrev pub counts : Span → Event → (name word : List ℕ) → Bool
counts window e name word = is_of name e.partition && is_word word (counted_for e.kind) && has_tick window e.tick.0

abbrev pub counted : Span → Event → (name word : List ℕ) → Process → Process
counted window e name word p = if counts window e name word then record p { tally = with_one e.kind p.tally } else p

-- After a line that is read. Where it goes is read in all lines; the rest counts in the window.
abbrev pub process_behind : Span → Event → (name word : List ℕ) → Process → Process
process_behind window e name word p = turned_if window (next_by e.partition e.kind name word) e.tick (counted window e name word p)

-- after a line
abbrev pub process_after : Span → Event → (name word : List ℕ) → Process → Process
process_after window e name word p = if is_read window e.tick.0 then process_behind window e name word p else p

-- where the window ends: its last stay is counted
abbrev pub process_ended : Span → Process → Process
process_ended window p = record p { tally = with_ended window (stay_left p.held window.until.0) p.tally }

-- which lines make a row: a line with a state, and in the window a line with an answer, a missed deadline or an application message
abbrev pub maker : Bool → EventKind → Option Subject
maker counts (event.State who state) = Some who
maker counts kind = if counts then counted_for kind else None

abbrev pub made_for : Bool → Option (List ℕ) → EventKind → (name word : List ℕ) → Bool
made_for counts partition kind name word = is_of name partition && is_word word (maker counts kind)

abbrev pub makes_row : Span → Event → (name word : List ℕ) → Bool
makes_row window e name word = made_for (has_tick window e.tick.0) e.partition e.kind name word

-- ---- the rows

-- the row shows what is known of the process
pub record IsRowOf (p : Process) (row : ProcessRow) : Type 0 where
  pub held : row.watch.held ≡ p.held
  pub tally : row.tally ≡ p.tally
  pub to_running : AreTimes (running_times p.times) row.responses.to_running.counts.entries
  pub to_end : AreTimes (end_times p.times) row.responses.to_end.counts.entries

-- a row that has read: it is of the same process, and shows what is known afterwards
pub record HasRead (f : Process → Process) (old new : ProcessRow) : Type 0 where
  pub partition : new.partition ≡ old.partition
  pub who : new.who ≡ old.who
  pub numbers : (p : Process) → IsRowOf p old → IsRowOf (f p) new

abbrev pub has_names : (name word : List ℕ) → ProcessRow → Bool
has_names name word row = same row.partition name && same (subject_text row.who) word

abbrev pub row_at : (name word : List ℕ) → List ProcessRow → Option ProcessRow
row_at name word [] = None
row_at name word (row ∷ rows) = if has_names name word row then Some row else row_at name word rows

abbrev pub is_there : (name word : List ℕ) → List ProcessRow → Bool
is_there name word [] = false
is_there name word (row ∷ rows) = has_names name word row || is_there name word rows

-- nothing is known of a process without a row
abbrev pub IsShown : Process → Option ProcessRow → Type 0
IsShown p None = p ≡ no_process
IsShown p (Some row) = IsRowOf p row

-- the rows show what is known of all processes
abbrev pub AreRowsOf : (List ℕ → List ℕ → Process) → List ProcessRow → Type 0
AreRowsOf known rows = (name word : List ℕ) → IsShown (known name word) (row_at name word rows)

-- So they do after a line that is read. A process has a row from the first line on that makes one.
pub record HaveRead (window : Span) (e : Event) (old new : List ProcessRow) : Type 0 where
  pub there : (name word : List ℕ) → is_there name word new ≡ (is_there name word old || makes_row window e name word)
  pub shown : (known : List ℕ → List ℕ → Process) → AreRowsOf known old → AreRowsOf (λ name word. process_behind window e name word (known name word)) new

-- and after a line
pub record HaveFollowed (window : Span) (e : Event) (old new : List ProcessRow) : Type 0 where
  pub there : (name word : List ℕ) → is_there name word new ≡ (is_there name word old || (is_read window e.tick.0 && makes_row window e name word))
  pub shown : (known : List ℕ → List ℕ → Process) → AreRowsOf known old → AreRowsOf (λ name word. process_after window e name word (known name word)) new

-- ---- a row more, and the rows that read

-- this process has a row, and each that had one
pub record HasAdded (partition : List ℕ) (who : Subject) (old new : List ProcessRow) : Type 0 where
  pub there : (name word : List ℕ) → is_there name word new ≡ (is_there name word old || (same partition name && same (subject_text who) word))

-- the process that such a line makes a row for has one, and each that had one
pub record HasMade (counts : Bool) (partition : Option (List ℕ)) (kind : EventKind) (old new : List ProcessRow) : Type 0 where
  pub there : (name word : List ℕ) → is_there name word new ≡ (is_there name word old || made_for counts partition kind name word)

-- what is known stays
pub record AreKept (old new : List ProcessRow) : Type 0 where
  pub shown : (known : List ℕ → List ℕ → Process) → AreRowsOf known old → AreRowsOf known new

-- each row has read
abbrev pub AllRead : Span → Event → List ProcessRow → List ProcessRow → Type 0
AllRead window e [] [] = Unit {0}
AllRead window e (x ∷ xs) (y ∷ ys) = HasRead (process_behind window e x.partition (subject_text x.who)) x y × AllRead window e xs ys
AllRead window e [] (y ∷ ys) = ⊥
AllRead window e (x ∷ xs) [] = ⊥

-- ---- the totals of a report

abbrev pub process_total : Span → ProcessRow → ProcessTotal
process_total window row = record {
  partition = row.partition;
  who = row.who;
  tally = with_ended window (stay_left row.watch.held window.until.0) row.tally;
  spreads = spreads_of row.responses;
}

-- the totals of this partition
abbrev pub totals_at : Span → PartitionTotal → List ProcessRow → List ProcessTotal
totals_at window partition [] = []
totals_at window partition (row ∷ rows) =
    if same row.partition partition.name then process_total window row ∷ totals_at window partition rows else totals_at window partition rows

-- the totals of the first partition, then those of the next one, and so on
abbrev pub totals_from : Span → List PartitionTotal → List ProcessRow → List ProcessTotal
totals_from window [] rows = []
totals_from window (partition ∷ others) rows = totals_at window partition rows ++ totals_from window others rows
