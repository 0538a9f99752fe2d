-- The numbers of partitions and of processes after the lines of a trace, one line after another.
use Rattle.std.proofs.Common.{◌≡◌, ◌<◌, ◌≤◌, ◌*◌, ◌-◌, ◌^◌, ℕ, Bool, true, false, List, [], ◌∷◌, ◌++◌, map, Option, Some, None, Result, Ok, Err, refl, sym, ap, subst, ◌∙◌}
use Rattle.std.specs.Prelude.{◌==◌, ◌&&◌, ◌||◌, if◌then◌else◌, IfOk}
use Rattle.std.proofs.lemmas.Bool.{eq-eqb, eqb-true, false≢true, le-ltb, lt-ltb}
use Rattle.apex_types.specs.Line.{subject_text}
use Rattle.apex_types.specs.declared.event.Event.{Event}
use Rattle.apex_types.specs.declared.event.EventKind.{EventKind}
use Rattle.apex_types.specs.declared.event.EventKind.TheVariants as event
use Rattle.apex_types.specs.declared.identity.Ticks.{Ticks}
use Rattle.engine_meaning.specs.Digits.{same}
use Rattle.trace_stays.specs.Following.{is_of}
use Rattle.trace_stays.specs.Stays.{stay_left}
use Rattle.trace_stays.specs.declared.span.Span.{Span}
use Rattle.trace_stays.specs.declared.stay.Held.{Held}
use Rattle.trace_stays.proofs.Followed.{same_is}
use Rattle.trace_view.specs.Extents.{closed, extent_after}
use Rattle.trace_view.specs.Partitions.{has_row, no_partition, partition_behind, partition_total, partitions_after, partitions_behind, read_by, with_partition}
use Rattle.trace_view.specs.Percentiles.{AreTimes, IsPercentile, IsSpread, all_of, are_rising, percent_of, percentile_of, reached, spread_of}
use Rattle.trace_view.specs.Processes.{AreRowsOf, HaveFollowed, HaveRead, IsShown, Process, has_names, is_there, is_word, maker, makes_row, no_process, process_after, process_behind, process_ended, process_total, row_at, totals_at, totals_from}
use Rattle.trace_view.specs.Starts.{told_behind, told_first}
use Rattle.trace_view.specs.Tallies.{has_tick, is_read, with_ended}
use Rattle.trace_view.specs.Turns.{end_times, running_times}
use Rattle.trace_view.specs.Whole.{ArePartitionsOf, AreProcessesOf, AreShown, has_line, has_partition, has_row_in, is_row, partition_at, partition_in, process_at, process_in, ticks_of_lines}
use Rattle.trace_view.specs.declared.extent.Extent.{Extent}
use Rattle.trace_view.specs.declared.partitions.PartitionRow.{PartitionRow}
use Rattle.trace_view.specs.declared.processes.ProcessRow.{ProcessRow}
use Rattle.trace_view.specs.declared.report.PartitionTotal.{PartitionTotal}
use Rattle.trace_view.specs.declared.report.ProcessTotal.{ProcessTotal}
use Rattle.trace_view.specs.declared.times.Percentile.{Percentile}
use Rattle.trace_view.specs.declared.times.Percentile.TheVariants as percentile
use Rattle.trace_view.specs.declared.told.Told.{Told}
use Rattle.trace_view.proofs.Known.{quiet_line}
use Rattle.trace_view.proofs.Percentiles.{no_percentile, percentile_is}

-- ---- lines that are read, and others

no_false : (b : Bool) → b ≡ (b || false)
no_false true = refl
no_false false = refl

pub partitions_read : (window : Span) (told : Told) (e : Event) (old new : List PartitionRow) → e.tick.0 < window.until.0 → new ≡ partitions_behind window told e old → new ≡ partitions_after window told e old
partitions_read window told e old new before is =
    is ∙ ap (λ (b : Bool). if b then partitions_behind window told e old else old) (sym (lt-ltb e.tick.0 window.until.0 before))

pub partitions_passed : (window : Span) (told : Told) (e : Event) (old : List PartitionRow) → window.until.0 ≤ e.tick.0 → old ≡ partitions_after window told e old
partitions_passed window told e old behind = ap (λ (b : Bool). if b then partitions_behind window told e old else old) (sym (le-ltb e.tick.0 window.until.0 behind))

pub processes_read : (window : Span) (e : Event) (old new : List ProcessRow) → e.tick.0 < window.until.0 → HaveRead window e old new → HaveFollowed window e old new
processes_read window e old new before read = record {
  there = λ name word. read.there name word ∙ ap (λ (b : Bool). is_there name word old || (b && makes_row window e name word)) (sym (lt-ltb e.tick.0 window.until.0 before));
  shown = λ known are name word.
      subst (λ (b : Bool). IsShown (if b then process_behind window e name word (known name word) else known name word) (row_at name word new)) (sym (lt-ltb e.tick.0 window.until.0 before)) (read.shown known are name word);
}

pub processes_passed : (window : Span) (e : Event) (old : List ProcessRow) → window.until.0 ≤ e.tick.0 → HaveFollowed window e old old
processes_passed window e old behind = record {
  there = λ name word. no_false (is_there name word old) ∙ ap (λ (b : Bool). is_there name word old || (b && makes_row window e name word)) (sym (le-ltb e.tick.0 window.until.0 behind));
  shown = λ known are name word.
      subst (λ (b : Bool). IsShown (if b then process_behind window e name word (known name word) else known name word) (row_at name word old)) (sym (le-ltb e.tick.0 window.until.0 behind)) (are name word);
}

-- the window, where all lines are read

pub window_closed : (so to : Option Ticks) (left : List Event) (now all : Extent) → left ≡ [] → so ≡ to → extent_after now (ticks_of_lines left) ≡ all → (closed so now).window ≡ (closed to all).window
window_closed so to left now all none same is =
    ap (λ (o : Option Ticks). (closed o now).window) same ∙ ap (λ (x : Extent). (closed to x).window) (ap (λ (xs : List Event). extent_after now (ticks_of_lines xs)) (sym none) ∙ is)

pub both_if_ok : {T E : Type 0} (r : Result T E) (P Q R : T → Type 0) → ((x : T) → P x → Q x → R x) → IfOk r P → IfOk r Q → IfOk r R
both_if_ok (Ok x) P Q R f p q = f x p q
both_if_ok (Err e) P Q R f p q = tt

-- ---- partitions

-- the row of a partition, or one without a line
abbrev pub found : List ℕ → List PartitionRow → PartitionRow
found name [] = no_partition name
found name (p ∷ ps) = if same p.name name then p else found name ps

or_is : (a b : Bool) → (a || b) ≡ false → b ≡ false
or_is true b e = absurd (false≢true (sym e))
or_is false b e = e

or_left_is : (a b : Bool) → (a || b) ≡ false → a ≡ false
or_left_is true b e = e
or_left_is false b e = refl

or_more : (a b c : Bool) → ((a || b) || c) ≡ (a || (b || c))
or_more true b c = refl
or_more false b c = refl

found_added : (name n : List ℕ) (ps : List PartitionRow) → found name (ps ++ no_partition n ∷ []) ≡ found name ps
found_added name n [] = by (same n name) refl
  where
    by : (b : Bool) → same n name ≡ b → (if b then no_partition n else no_partition name) ≡ no_partition name
    by true e = ap no_partition (same_is n name e)
    by false e = refl
found_added name n (p ∷ ps) = ap (λ (q : PartitionRow). if same p.name name then p else q) (found_added name n ps)

found_with : (name : List ℕ) (o : Option (List ℕ)) (ps : List PartitionRow) → found name (with_partition o ps) ≡ found name ps
found_with name None ps = refl
found_with name (Some n) ps = by (has_row n ps)
  where
    by : (b : Bool) → found name (if b then ps else ps ++ no_partition n ∷ []) ≡ found name ps
    by true = refl
    by false = found_added name n ps

has_added : (name n : List ℕ) (ps : List PartitionRow) → has_row name (ps ++ no_partition n ∷ []) ≡ (has_row name ps || same n name)
has_added name n [] = sym (no_false (same n name))
has_added name n (p ∷ ps) = ap (λ (b : Bool). same p.name name || b) (has_added name n ps) ∙ sym (or_more (same p.name name) (has_row name ps) (same n name))

has_with : (name : List ℕ) (o : Option (List ℕ)) (ps : List PartitionRow) → has_row name (with_partition o ps) ≡ (has_row name ps || is_of name o)
has_with name None ps = no_false (has_row name ps)
has_with name (Some n) ps = by (has_row n ps) refl
  where
    there : (b : Bool) → same n name ≡ b → has_row n ps ≡ true → has_row name ps ≡ (has_row name ps || b)
    there true e has = let here : has_row name ps ≡ true = ap (λ (m : List ℕ). has_row m ps) (sym (same_is n name e)) ∙ has in here ∙ sym (ap (λ (b : Bool). b || true) here)
    there false e has = no_false (has_row name ps)

    by : (b : Bool) → has_row n ps ≡ b → has_row name (if b then ps else ps ++ no_partition n ∷ []) ≡ (has_row name ps || same n name)
    by true has = there (same n name) refl has
    by false has = has_added name n ps

kind_name : (window : Span) (told : Told) (t : Ticks) (kind : EventKind) (p : PartitionRow) → (read_by window told t kind p).name ≡ p.name
kind_name window told t (event.Mode m) p = refl
kind_name window told t (event.State who state) p = refl
kind_name window told t (event.Return who service code) p = refl
kind_name window told t (event.Error e who response) p = refl
kind_name window told t (event.Report who words) p = refl
kind_name window told t (event.Move port words) p = refl
kind_name window told t (event.Arrive port words) p = refl
kind_name window told t (event.Lost port words) p = refl
kind_name window told t (event.Out channel words) p = refl

name_kept : (window : Span) (told : Told) (e : Event) (p : PartitionRow) → (partition_behind window told e p).name ≡ p.name
name_kept window told e p = by (is_of p.name e.partition)
  where
    by : (b : Bool) → (if b then read_by window told e.tick e.kind p else p).name ≡ p.name
    by true = kind_name window told e.tick e.kind p
    by false = refl

has_read : (window : Span) (told : Told) (e : Event) (name : List ℕ) (ps : List PartitionRow) → has_row name (map (partition_behind window told e) ps) ≡ has_row name ps
has_read window told e name [] = refl
has_read window told e name (p ∷ ps) =
    ap (λ (n : List ℕ). same n name || has_row name (map (partition_behind window told e) ps)) (name_kept window told e p) ∙ ap (λ (b : Bool). same p.name name || b) (has_read window told e name ps)

found_read : (window : Span) (told : Told) (e : Event) (name : List ℕ) (ps : List PartitionRow) → (has_row name ps ≡ false → is_of name e.partition ≡ false)
    → found name (map (partition_behind window told e) ps) ≡ partition_behind window told e (found name ps)
found_read window told e name [] quiet = sym (ap (λ (b : Bool). if b then read_by window told e.tick e.kind (no_partition name) else no_partition name) (quiet refl))
found_read window told e name (p ∷ ps) quiet =
    ap (λ (n : List ℕ). if same n name then partition_behind window told e p else found name (map (partition_behind window told e) ps)) (name_kept window told e p)
    ∙ by (same p.name name) quiet (found_read window told e name ps)
  where
    by : (b : Bool) → ((b || has_row name ps) ≡ false → is_of name e.partition ≡ false)
        → ((has_row name ps ≡ false → is_of name e.partition ≡ false) → found name (map (partition_behind window told e) ps) ≡ partition_behind window told e (found name ps))
        → (if b then partition_behind window told e p else found name (map (partition_behind window told e) ps)) ≡ partition_behind window told e (if b then p else found name ps)
    by true quiet rest = refl
    by false quiet rest = rest quiet

found_behind : (window : Span) (told : Told) (e : Event) (name : List ℕ) (ps : List PartitionRow) → found name (partitions_behind window told e ps) ≡ partition_behind window told e (found name ps)
found_behind window told e name ps =
    found_read window told e name (with_partition e.partition ps) (λ none. or_is (has_row name ps) (is_of name e.partition) (sym (has_with name e.partition ps) ∙ none))
    ∙ ap (partition_behind window told e) (found_with name e.partition ps)

found_after : (window : Span) (told : Told) (e : Event) (name : List ℕ) (ps : List PartitionRow)
    → found name (partitions_after window told e ps) ≡ (if is_read window e.tick.0 then partition_behind window told e (found name ps) else found name ps)
found_after window told e name ps = by (is_read window e.tick.0)
  where
    by : (b : Bool) → found name (if b then partitions_behind window told e ps else ps) ≡ (if b then partition_behind window told e (found name ps) else found name ps)
    by true = found_behind window told e name ps
    by false = refl

has_after : (window : Span) (told : Told) (e : Event) (name : List ℕ) (ps : List PartitionRow) → has_row name (partitions_after window told e ps) ≡ (has_row name ps || (is_read window e.tick.0 && is_of name e.partition))
has_after window told e name ps = by (is_read window e.tick.0)
  where
    by : (b : Bool) → has_row name (if b then partitions_behind window told e ps else ps) ≡ (has_row name ps || (b && is_of name e.partition))
    by true = has_read window told e name (with_partition e.partition ps) ∙ has_with name e.partition ps
    by false = no_false (has_row name ps)

-- what the rows show, with the lines that are left, is all
pub record PartitionsWillBe (window : Span) (events left : List Event) (told : Told) (ps : List PartitionRow) : Type 0 where
  pub rows : (name : List ℕ) → (has_row name ps || has_line window name left) ≡ has_line window name events
  pub numbers : (name : List ℕ) → partition_in window told left (found name ps) ≡ partition_in window told_first events (no_partition name)

pub partitions_begin : (window : Span) (events : List Event) (told : Told) (ps : List PartitionRow) → told ≡ told_first → ps ≡ [] → PartitionsWillBe window events events told ps
partitions_begin window events told ps first none = record {
  rows = λ name. ap (λ (xs : List PartitionRow). has_row name xs || has_line window name events) none;
  numbers = λ name. ap (λ (x : Told). partition_in window x events (found name ps)) first ∙ ap (λ (xs : List PartitionRow). partition_in window told_first events (found name xs)) none;
}

pub partitions_go_on : (window : Span) (events : List Event) (e : Event) (es left : List Event) (told behind : Told) (old new : List PartitionRow) → left ≡ e ∷ es → behind ≡ told_behind e told
    → new ≡ partitions_after window told e old → PartitionsWillBe window events left told old → PartitionsWillBe window events es behind new
partitions_go_on window events e es left told behind old new first tells read will = record {
  rows = λ name. ap (λ (xs : List PartitionRow). has_row name xs || has_line window name es) read
      ∙ (ap (λ (b : Bool). b || has_line window name es) (has_after window told e name old)
      ∙ (or_more (has_row name old) (is_read window e.tick.0 && is_of name e.partition) (has_line window name es)
      ∙ (ap (λ (xs : List Event). has_row name old || has_line window name xs) (sym first) ∙ will.rows name)));
  numbers = λ name. ap (λ (x : Told). partition_in window x es (found name new)) tells
      ∙ (ap (λ (xs : List PartitionRow). partition_in window (told_behind e told) es (found name xs)) read
      ∙ (ap (partition_in window (told_behind e told) es) (found_after window told e name old)
      ∙ (ap (λ (xs : List Event). partition_in window told xs (found name old)) (sym first) ∙ will.numbers name)));
}

total_found : (closing : Span) (name : List ℕ) (ps : List PartitionRow) → partition_at name (map (partition_total closing) ps) ≡ partition_total closing (found name ps)
total_found closing name [] = refl
total_found closing name (p ∷ ps) = by (same p.name name) (total_found closing name ps)
  where
    by : (b : Bool) → partition_at name (map (partition_total closing) ps) ≡ partition_total closing (found name ps)
        → (if b then partition_total closing p else partition_at name (map (partition_total closing) ps)) ≡ partition_total closing (if b then p else found name ps)
    by true rest = refl
    by false rest = rest

total_has : (closing : Span) (name : List ℕ) (ps : List PartitionRow) → has_partition name (map (partition_total closing) ps) ≡ has_row name ps
total_has closing name [] = refl
total_has closing name (p ∷ ps) = ap (λ (b : Bool). same p.name name || b) (total_has closing name ps)

pub partitions_all : (window closing : Span) (events left : List Event) (told : Told) (ps : List PartitionRow) (totals : List PartitionTotal) → left ≡ [] → totals ≡ map (partition_total closing) ps
    → PartitionsWillBe window events left told ps → ArePartitionsOf window closing events totals
partitions_all window closing events left told ps totals none are will = record {
  rows = λ name. ap (has_partition name) are
      ∙ (total_has closing name ps
      ∙ (no_false (has_row name ps)
      ∙ (ap (λ (xs : List Event). has_row name ps || has_line window name xs) (sym none) ∙ will.rows name)));
  numbers = λ name. ap (partition_at name) are
      ∙ (total_found closing name ps
      ∙ ap (partition_total closing) (ap (λ (xs : List Event). partition_in window told xs (found name ps)) (sym none) ∙ will.numbers name));
}

-- ---- processes

pub record ProcessesWillBe (window : Span) (events left : List Event) (rows : List ProcessRow) : Type 0 where
  pub there : (name word : List ℕ) → (is_there name word rows || has_row_in window name word left) ≡ has_row_in window name word events
  pub known : List ℕ → List ℕ → Process
  pub are : AreRowsOf known rows
  pub will : (name word : List ℕ) → process_in window left name word (known name word) ≡ process_in window events name word no_process

pub processes_begin : (window : Span) (events : List Event) (rows : List ProcessRow) → rows ≡ [] → ProcessesWillBe window events events rows
processes_begin window events rows none = record {
  there = λ name word. ap (λ (xs : List ProcessRow). is_there name word xs || has_row_in window name word events) none;
  known = λ name word. no_process;
  are = λ name word. subst (λ (xs : List ProcessRow). IsShown no_process (row_at name word xs)) (sym none) refl;
  will = λ name word. refl;
}

pub processes_go_on : (window : Span) (events : List Event) (e : Event) (es left : List Event) (old new : List ProcessRow) → left ≡ e ∷ es → HaveFollowed window e old new
    → ProcessesWillBe window events left old → ProcessesWillBe window events es new
processes_go_on window events e es left old new first read before = record {
  there = λ name word. ap (λ (b : Bool). b || has_row_in window name word es) (read.there name word)
      ∙ (or_more (is_there name word old) (is_read window e.tick.0 && makes_row window e name word) (has_row_in window name word es)
      ∙ (ap (λ (xs : List Event). is_there name word old || has_row_in window name word xs) (sym first) ∙ before.there name word));
  known = λ name word. process_after window e name word (before.known name word);
  are = read.shown before.known before.are;
  will = λ name word. ap (λ (xs : List Event). process_in window xs name word (before.known name word)) (sym first) ∙ before.will name word;
}

-- a partition without a line has no process with numbers
no_lines : (window : Span) (events : List Event) (name word : List ℕ) → has_line window name events ≡ false → process_in window events name word no_process ≡ no_process
no_lines window [] name word none = refl
no_lines window (e ∷ es) name word none =
    ap (process_in window es name word) (by (is_read window e.tick.0) (or_left_is (is_read window e.tick.0 && is_of name e.partition) (has_line window name es) none))
    ∙ no_lines window es name word (or_is (is_read window e.tick.0 && is_of name e.partition) (has_line window name es) none)
  where
    quiet : (b : Bool) (c : Bool) → b ≡ false → (b && c) ≡ false
    quiet b c none = ap (λ (x : Bool). x && c) none

    by : (b : Bool) → (b && is_of name e.partition) ≡ false → (if b then process_behind window e name word no_process else no_process) ≡ no_process
    by true none = quiet_line window e name word (quiet (is_of name e.partition) (is_word word (maker (has_tick window e.tick.0) e.kind)) none)
    by false none = refl

-- nor a row
no_row_lines : (window : Span) (events : List Event) (name word : List ℕ) → has_line window name events ≡ false → has_row_in window name word events ≡ false
no_row_lines window [] name word none = refl
no_row_lines window (e ∷ es) name word none =
    by (is_read window e.tick.0) (is_of name e.partition) (is_word word (maker (has_tick window e.tick.0) e.kind)) (has_line window name es) (has_row_in window name word es) none (no_row_lines window es name word)
  where
    by : (a b c d f : Bool) → ((a && b) || d) ≡ false → (d ≡ false → f ≡ false) → ((a && (b && c)) || f) ≡ false
    by true true c d f none rest = absurd (false≢true (sym none))
    by true false c d f none rest = rest none
    by false b c d f none rest = rest none

-- the percentiles of the times of a process

percentile_shown : (which : Percentile) (n : ℕ) (es : List (ℕ × ℕ)) (times : List ℕ) → are_rising es ≡ true → n ≡ all_of es → n ≤ 2 ^ 64 - 1 → AreTimes times es
    → IsPercentile (percent_of which) times (percentile_of which n es)
percentile_shown which n es times rising whole fits are = by (n == 0) refl
  where
    some : (n == 0) ≡ false → n ≡ 0 → ⊥
    some e zero = false≢true (sym e ∙ eq-eqb n 0 zero)

    by : (b : Bool) → (n == 0) ≡ b → IsPercentile (percent_of which) times (if b then None else reached (percent_of which * n) 0 es)
    by true e = no_percentile (percent_of which) n es times whole (eqb-true n 0 e) are
    by false e = percentile_is which n es times rising whole fits (some e) are

spread_shown : (n : ℕ) (es : List (ℕ × ℕ)) (times : List ℕ) → are_rising es ≡ true → n ≡ all_of es → n ≤ 2 ^ 64 - 1 → AreTimes times es → IsSpread times (spread_of n es)
spread_shown n es times rising whole fits are =
    (percentile_shown percentile.Median n es times rising whole fits are, percentile_shown percentile.NinetyFifth n es times rising whole fits are)

-- the row of a report

abbrev pub total_row : Span → Option ProcessRow → Option ProcessTotal
total_row closing None = None
total_row closing (Some row) = Some (process_total closing row)

row_shown : (closing : Span) (p : Process) (o : Option ProcessRow) → IsShown p o → AreShown (process_ended closing p) (total_row closing o)
row_shown closing p None is = ap (process_ended closing) is
row_shown closing p (Some row) is = (
  ap (λ (h : Option Held). with_ended closing (stay_left h closing.until.0) row.tally) is.held ∙ ap (with_ended closing (stay_left p.held closing.until.0)) is.tally,
  spread_shown row.responses.to_running.taken row.responses.to_running.counts.entries (running_times p.times) row.responses.to_running.rising row.responses.to_running.whole row.responses.to_running.fits is.to_running,
  spread_shown row.responses.to_end.taken row.responses.to_end.counts.entries (end_times p.times) row.responses.to_end.rising row.responses.to_end.whole row.responses.to_end.fits is.to_end,
)

abbrev pub or_else : Option ProcessTotal → Option ProcessTotal → Option ProcessTotal
or_else None other = other
or_else (Some one) other = Some one

rows_behind : (name word : List ℕ) (xs ys : List ProcessTotal) → process_at name word (xs ++ ys) ≡ or_else (process_at name word xs) (process_at name word ys)
rows_behind name word [] ys = refl
rows_behind name word (x ∷ xs) ys = by (same x.partition name && same (subject_text x.who) word) (rows_behind name word xs ys)
  where
    by : (b : Bool) → process_at name word (xs ++ ys) ≡ or_else (process_at name word xs) (process_at name word ys)
        → (if b then Some x else process_at name word (xs ++ ys)) ≡ or_else (if b then Some x else process_at name word xs) (process_at name word ys)
    by true rest = refl
    by false rest = rest

-- those of the partition itself
own_rows : (closing : Span) (name word : List ℕ) (partition : PartitionTotal) (rows : List ProcessRow) → partition.name ≡ name
    → process_at name word (totals_at closing partition rows) ≡ total_row closing (row_at name word rows)
own_rows closing name word partition [] named = refl
own_rows closing name word partition (x ∷ xs) named = by (same x.partition partition.name) refl (own_rows closing name word partition xs named)
  where
    row : (c : Bool) → process_at name word (totals_at closing partition xs) ≡ total_row closing (row_at name word xs)
        → (if c then Some (process_total closing x) else process_at name word (totals_at closing partition xs)) ≡ total_row closing (if c then Some x else row_at name word xs)
    row true rest = refl
    row false rest = rest

    by : (b : Bool) → same x.partition partition.name ≡ b → process_at name word (totals_at closing partition xs) ≡ total_row closing (row_at name word xs)
        → process_at name word (if b then process_total closing x ∷ totals_at closing partition xs else totals_at closing partition xs) ≡ total_row closing (row_at name word (x ∷ xs))
    by true e rest = row (same x.partition name && same (subject_text x.who) word) rest
    by false e rest =
        let other : same x.partition name ≡ false = ap (same x.partition) (sym named) ∙ e in
        rest ∙ ap (λ (b : Bool). total_row closing (if b && same (subject_text x.who) word then Some x else row_at name word xs)) (sym other)

-- those of another one
other_rows : (closing : Span) (name word : List ℕ) (partition : PartitionTotal) (rows : List ProcessRow) → same partition.name name ≡ false → process_at name word (totals_at closing partition rows) ≡ None
other_rows closing name word partition [] other = refl
other_rows closing name word partition (x ∷ xs) other = by (same x.partition partition.name) refl (other_rows closing name word partition xs other)
  where
    by : (b : Bool) → same x.partition partition.name ≡ b → process_at name word (totals_at closing partition xs) ≡ None
        → process_at name word (if b then process_total closing x ∷ totals_at closing partition xs else totals_at closing partition xs) ≡ None
    by true e rest =
        let no : same x.partition name ≡ false = ap (λ (n : List ℕ). same n name) (same_is x.partition partition.name e) ∙ other in
        ap (λ (b : Bool). if b && same (subject_text x.who) word then Some (process_total closing x) else process_at name word (totals_at closing partition xs)) no ∙ rest
    by false e rest = rest

all_rows : (closing : Span) (name word : List ℕ) (partitions : List PartitionTotal) (rows : List ProcessRow)
    → process_at name word (totals_from closing partitions rows) ≡ (if has_partition name partitions then total_row closing (row_at name word rows) else None)
all_rows closing name word [] rows = refl
all_rows closing name word (p ∷ ps) rows = rows_behind name word (totals_at closing p rows) (totals_from closing ps rows) ∙ by (same p.name name) refl (all_rows closing name word ps rows)
  where
    twice : (b : Bool) (o : Option ProcessTotal) → or_else o (if b then o else None) ≡ o
    twice true None = refl
    twice true (Some m) = refl
    twice false None = refl
    twice false (Some m) = refl

    by : (b : Bool) → same p.name name ≡ b → process_at name word (totals_from closing ps rows) ≡ (if has_partition name ps then total_row closing (row_at name word rows) else None)
        → or_else (process_at name word (totals_at closing p rows)) (process_at name word (totals_from closing ps rows)) ≡ (if b || has_partition name ps then total_row closing (row_at name word rows) else None)
    by true e rest =
        ap (λ (o : Option ProcessTotal). or_else o (process_at name word (totals_from closing ps rows))) (own_rows closing name word p rows (same_is p.name name e))
        ∙ (ap (or_else (total_row closing (row_at name word rows))) rest ∙ twice (has_partition name ps) (total_row closing (row_at name word rows)))
    by false e rest = ap (λ (o : Option ProcessTotal). or_else o (process_at name word (totals_from closing ps rows))) (other_rows closing name word p rows e) ∙ rest

is_row_there : (closing : Span) (name word : List ℕ) (rows : List ProcessRow) → is_row (total_row closing (row_at name word rows)) ≡ is_there name word rows
is_row_there closing name word [] = refl
is_row_there closing name word (x ∷ xs) = by (has_names name word x) (is_row_there closing name word xs)
  where
    by : (b : Bool) → is_row (total_row closing (row_at name word xs)) ≡ is_there name word xs → is_row (total_row closing (if b then Some x else row_at name word xs)) ≡ (b || is_there name word xs)
    by true rest = refl
    by false rest = rest

pub processes_all : (window closing : Span) (events left : List Event) (partitions : List PartitionTotal) (rows : List ProcessRow) (totals : List ProcessTotal) → left ≡ []
    → ArePartitionsOf window closing events partitions → totals ≡ totals_from closing partitions rows → ProcessesWillBe window events left rows → AreProcessesOf window closing events totals
processes_all window closing events left partitions rows totals none parts are will = record {
  rows = λ name word. ap is_row (ap (process_at name word) are ∙ all_rows closing name word partitions rows) ∙ there name word (has_partition name partitions) refl;
  numbers = λ name word.
      subst (AreShown (process_ended closing (process_in window events name word no_process))) (sym (ap (process_at name word) are ∙ all_rows closing name word partitions rows))
      (by name word (has_partition name partitions) refl);
}
  where
    there : (name word : List ℕ) (b : Bool) → has_partition name partitions ≡ b → is_row (if b then total_row closing (row_at name word rows) else None) ≡ has_row_in window name word events
    there name word true e =
        is_row_there closing name word rows
        ∙ (no_false (is_there name word rows) ∙ (ap (λ (xs : List Event). is_there name word rows || has_row_in window name word xs) (sym none) ∙ will.there name word))
    there name word false e = sym (no_row_lines window events name word (sym (parts.rows name) ∙ e))

    last : (name word : List ℕ) → will.known name word ≡ process_in window events name word no_process
    last name word = ap (λ (xs : List Event). process_in window xs name word (will.known name word)) (sym none) ∙ will.will name word

    by : (name word : List ℕ) (b : Bool) → has_partition name partitions ≡ b
        → AreShown (process_ended closing (process_in window events name word no_process)) (if b then total_row closing (row_at name word rows) else None)
    by name word true e =
        subst (λ (p : Process). AreShown (process_ended closing p) (total_row closing (row_at name word rows))) (last name word)
        (row_shown closing (will.known name word) (row_at name word rows) (will.are name word))
    by name word false e = ap (process_ended closing) (no_lines window events name word (sym (parts.rows name) ∙ e))
