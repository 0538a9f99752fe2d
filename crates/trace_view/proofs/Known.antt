-- What the rows of processes show after one more line.
use Rattle.std.proofs.Common.{◌≡◌, ◌≤◌, ℕ, zero, suc, ◌+◌, Bool, true, false, List, [], ◌∷◌, ◌++◌, length, Option, Some, None, refl, sym, take, ap, subst, ◌∙◌, arith}
use Rattle.std.specs.Prelude.{◌==◌, ◌&&◌, ◌||◌, if◌then◌else◌, slice_get, slice_set}
use Rattle.std.proofs.lemmas.Bool.{and_from, and_parts, eq-eqb, false≢true}
use Rattle.std.proofs.lemmas.Option.{same_Some}
use Rattle.apex_types.specs.Line.{subject_text}
use Rattle.apex_types.specs.declared.codes.Mode.TheVariants as mode
use Rattle.apex_types.specs.declared.codes.ProcessState.{ProcessState}
use Rattle.apex_types.specs.declared.event.Event.{Event}
use Rattle.apex_types.specs.declared.event.EventKind.{EventKind}
use Rattle.apex_types.specs.declared.event.EventKind.TheVariants as event
use Rattle.apex_types.specs.declared.event.Subject.{Subject}
use Rattle.apex_types.specs.declared.identity.Ticks.{Ticks}
use Rattle.engine_meaning.specs.Digits.{same}
use Rattle.trace_stays.specs.Clearing.{clears, resets}
use Rattle.trace_stays.specs.Following.{is_of, next_by, next_if, next_in, next_of_all}
use Rattle.trace_stays.specs.Stays.{held_behind, state_entered}
use Rattle.trace_stays.specs.declared.next.Next.{Next}
use Rattle.trace_stays.specs.declared.next.Next.TheVariants.{Enters, Cleared}
use Rattle.trace_stays.specs.declared.span.Span.{Span}
use Rattle.trace_stays.specs.declared.stay.Held.{Held}
use Rattle.trace_stays.proofs.Followed.{same_is}
use Rattle.trace_view.specs.Percentiles.{AreTimes, with_end, with_running}
use Rattle.trace_view.specs.Processes.{AllRead, AreKept, HasRead, HasAdded, HasMade, HaveRead, IsRowOf, IsShown, Process, counted, counted_for, counts, has_names, is_there, is_word, maker, makes_row, no_process, process_behind, row_at, turn_of, turned_if, with_one, with_turn}
use Rattle.trace_view.specs.Tallies.{has_tick, measured, turned}
use Rattle.trace_view.specs.Turns.{and_measured, end_times, running_times}
use Rattle.trace_view.specs.declared.processes.ProcessRow.{ProcessRow}
use Rattle.trace_view.specs.declared.tally.Measured.{Measured}
use Rattle.trace_view.specs.declared.tally.Measured.TheVariants as measure
use Rattle.trace_view.specs.declared.tally.Tally.{Tally}

-- ---- one row

-- a turn

held_turned : (next : Next) (t : Ticks) (p : Process) (old new : ProcessRow) → IsRowOf p old → new.watch.held ≡ held_behind old.watch.held next t.0 → new.watch.held ≡ held_behind p.held next t.0
held_turned next t p old new is held = held ∙ ap (λ (h : Option Held). held_behind h next t.0) is.held

tally_turned : (window : Span) (next : Next) (t : Ticks) (p : Process) (old new : ProcessRow) → IsRowOf p old → new.tally ≡ turned window (turn_of old.watch.held next t) old.tally
    → new.tally ≡ turned window (turn_of p.held next t) p.tally
tally_turned window next t p old new is tally =
    tally ∙ (ap (λ (h : Option Held). turned window (turn_of h next t) old.tally) is.held ∙ ap (λ (y : Tally). turned window (turn_of p.held next t) y) is.tally)

measured_turned : (next : Next) (t : Ticks) (p : Process) (old : ProcessRow) (o : Option Measured) → IsRowOf p old → measured (state_entered next) (turn_of old.watch.held next t) old.tally.activation ≡ o
    → o ≡ measured (state_entered next) (turn_of p.held next t) p.tally.activation
measured_turned next t p old o is times =
    sym times
    ∙ (ap (λ (h : Option Held). measured (state_entered next) (turn_of h next t) old.tally.activation) is.held ∙ ap (λ (y : Tally). measured (state_entered next) (turn_of p.held next t) y.activation) is.tally)

running_more : (m : Measured) (times : List Measured) (entries : List (ℕ × ℕ)) → AreTimes (with_running m (running_times times)) entries → AreTimes (running_times (m ∷ times)) entries
running_more (measure.ToRunning time) times entries are = are
running_more (measure.ToEnd time) times entries are = are

end_more : (m : Measured) (times : List Measured) (entries : List (ℕ × ℕ)) → AreTimes (with_end m (end_times times)) entries → AreTimes (end_times (m ∷ times)) entries
end_more (measure.ToRunning time) times entries are = are
end_more (measure.ToEnd time) times entries are = are

-- with a time that is taken
pub turn_taken : (window : Span) (next : Next) (t : Ticks) (old new : ProcessRow) (m : Measured) → new.partition ≡ old.partition → new.who ≡ old.who
    → new.watch.held ≡ held_behind old.watch.held next t.0
    → new.tally ≡ turned window (turn_of old.watch.held next t) old.tally
    → measured (state_entered next) (turn_of old.watch.held next t) old.tally.activation ≡ Some m
    → ((times : List ℕ) → AreTimes times old.responses.to_running.counts.entries → AreTimes (with_running m times) new.responses.to_running.counts.entries)
    → ((times : List ℕ) → AreTimes times old.responses.to_end.counts.entries → AreTimes (with_end m times) new.responses.to_end.counts.entries)
    → HasRead (with_turn window next t) old new
turn_taken window next t old new m partition who held tally times to_running to_end = record {
  partition = partition;
  who = who;
  numbers = λ p is. let o = measured_turned next t p old (Some m) is times in record {
    held = held_turned next t p old new is held;
    tally = tally_turned window next t p old new is tally;
    to_running = subst (λ (o : Option Measured). AreTimes (running_times (and_measured o p.times)) new.responses.to_running.counts.entries) o
        (running_more m p.times new.responses.to_running.counts.entries (to_running (running_times p.times) is.to_running));
    to_end = subst (λ (o : Option Measured). AreTimes (end_times (and_measured o p.times)) new.responses.to_end.counts.entries) o
        (end_more m p.times new.responses.to_end.counts.entries (to_end (end_times p.times) is.to_end));
  };
}

-- one change behind another
pub both_read : (f g : Process → Process) (old mid new : ProcessRow) → HasRead f old mid → HasRead g mid new → HasRead (λ p. g (f p)) old new
both_read f g old mid new one other = record {
  partition = other.partition ∙ one.partition;
  who = other.who ∙ one.who;
  numbers = λ p is. other.numbers (f p) (one.numbers p is);
}

-- a line that counts, or does not
pub has_counted : (b : Bool) (kind : EventKind) (old new : ProcessRow) → new ≡ (if b then record old { tally = with_one kind old.tally } else old)
    → HasRead (λ p. if b then record p { tally = with_one kind p.tally } else p) old new
has_counted true kind old new is = record {
  partition = ap (λ (r : ProcessRow). r.partition) is;
  who = ap (λ (r : ProcessRow). r.who) is;
  numbers = λ p row. subst (IsRowOf (record p { tally = with_one kind p.tally })) (sym is)
      (record { held = row.held; tally = ap (with_one kind) row.tally; to_running = row.to_running; to_end = row.to_end });
}
has_counted false kind old new is = record {
  partition = ap (λ (r : ProcessRow). r.partition) is;
  who = ap (λ (r : ProcessRow). r.who) is;
  numbers = λ p row. subst (IsRowOf p) (sym is) row;
}

-- it reads a line
pub has_read : (window : Span) (e : Event) (old mid new : ProcessRow) (b : Bool) (next : Option Next) → b ≡ counts window e old.partition (subject_text old.who)
    → mid ≡ (if b then record old { tally = with_one e.kind old.tally } else old) → next ≡ next_by e.partition e.kind mid.partition (subject_text mid.who)
    → HasRead (turned_if window next e.tick) mid new → HasRead (process_behind window e old.partition (subject_text old.who)) old new
has_read window e old mid new b next counts_so is goes turn =
    both_read (counted window e old.partition (subject_text old.who)) (turned_if window (next_by e.partition e.kind old.partition (subject_text old.who)) e.tick) old mid new
    (subst (λ (x : Bool). HasRead (λ p. if x then record p { tally = with_one e.kind p.tally } else p) old mid) counts_so one)
    (subst (λ (n : Option Next). HasRead (turned_if window n e.tick) mid new) there turn)
  where
    one : HasRead (λ p. if b then record p { tally = with_one e.kind p.tally } else p) old mid
    one = has_counted b e.kind old mid is

    there : next ≡ next_by e.partition e.kind old.partition (subject_text old.who)
    there =
        goes
        ∙ (ap (λ (n : List ℕ). next_by e.partition e.kind n (subject_text mid.who)) one.partition ∙ ap (λ (w : Subject). next_by e.partition e.kind old.partition (subject_text w)) one.who)

-- ---- a row more

same_text : (t : List ℕ) → same t t ≡ true
same_text [] = refl
same_text (x ∷ xs) = and_from (x == x) (same xs xs) (eq-eqb x x refl) (same_text xs)

abbrev pub or_row : Option ProcessRow → Option ProcessRow → Option ProcessRow
or_row None other = other
or_row (Some row) other = Some row

row_behind : (name word : List ℕ) (rows : List ProcessRow) (y : ProcessRow) → row_at name word (rows ++ y ∷ []) ≡ or_row (row_at name word rows) (if has_names name word y then Some y else None)
row_behind name word [] y = refl
row_behind name word (x ∷ xs) y = by (has_names name word x) (row_behind name word xs y)
  where
    by : (b : Bool) → row_at name word (xs ++ y ∷ []) ≡ or_row (row_at name word xs) (if has_names name word y then Some y else None)
        → (if b then Some x else row_at name word (xs ++ y ∷ [])) ≡ or_row (if b then Some x else row_at name word xs) (if has_names name word y then Some y else None)
    by true rest = refl
    by false rest = rest

still_shown : (p : Process) (o : Option ProcessRow) (b : Bool) (y : ProcessRow) → IsRowOf no_process y → IsShown p o → IsShown p (or_row o (if b then Some y else None))
still_shown p None true y new is = subst (λ (q : Process). IsRowOf q y) (sym is) new
still_shown p None false y new is = is
still_shown p (Some x) b y new is = is

pub kept_added : (rows new : List ProcessRow) (y : ProcessRow) → new ≡ rows ++ y ∷ [] → IsRowOf no_process y → AreKept rows new
kept_added rows new y added none = record {
  shown = λ known are name word.
      subst (λ (xs : List ProcessRow). IsShown (known name word) (row_at name word xs)) (sym added)
      (subst (IsShown (known name word)) (sym (row_behind name word rows y)) (still_shown (known name word) (row_at name word rows) (has_names name word y) y none (are name word)));
}

no_false : (b : Bool) → b ≡ (b || false)
no_false true = refl
no_false false = refl

no_false_and : (a b : Bool) → a ≡ (a || (b && false))
no_false_and a true = no_false a
no_false_and a false = no_false a

or_more : (a b c : Bool) → ((a || b) || c) ≡ (a || (b || c))
or_more true b c = refl
or_more false b c = refl

there_behind : (name word : List ℕ) (rows : List ProcessRow) (y : ProcessRow) → is_there name word (rows ++ y ∷ []) ≡ (is_there name word rows || has_names name word y)
there_behind name word [] y = sym (no_false (has_names name word y))
there_behind name word (x ∷ xs) y =
    ap (λ (b : Bool). has_names name word x || b) (there_behind name word xs y) ∙ sym (or_more (has_names name word x) (is_there name word xs) (has_names name word y))

pub has_added : (name : List ℕ) (who : Subject) (rows new : List ProcessRow) (y : ProcessRow) → new ≡ rows ++ y ∷ [] → y.partition ≡ name → y.who ≡ who → HasAdded name who rows new
has_added name who rows new y added named is = record {
  there = λ n w.
      ap (is_there n w) added
      ∙ (there_behind n w rows y
      ∙ (ap (λ (p : List ℕ). is_there n w rows || (same p n && same (subject_text y.who) w)) named
      ∙ ap (λ (s : Subject). is_there n w rows || (same name n && same (subject_text s) w)) is));
}

pub has_none_added : (name : List ℕ) (who : Subject) (rows : List ProcessRow) → is_there name (subject_text who) rows ≡ true → HasAdded name who rows rows
has_none_added name who rows there = record { there = λ n w. by n w (same name n) (same (subject_text who) w) refl refl }
  where
    by : (n w : List ℕ) (b c : Bool) → same name n ≡ b → same (subject_text who) w ≡ c → is_there n w rows ≡ (is_there n w rows || (b && c))
    by n w true true e f =
        let here : is_there n w rows ≡ true = ap (λ (m : List ℕ). is_there m w rows) (sym (same_is name n e)) ∙ (ap (λ (m : List ℕ). is_there name m rows) (sym (same_is (subject_text who) w f)) ∙ there) in
        here ∙ sym (ap (λ (b : Bool). b || true) here)
    by n w true false e f = no_false (is_there n w rows)
    by n w false c e f = no_false (is_there n w rows)

-- ---- the rows that a line makes

pub made_nobody : (counts : Bool) (kind : EventKind) (rows : List ProcessRow) → HasMade counts None kind rows rows
made_nobody counts kind rows = record { there = λ name word. no_false (is_there name word rows) }

pub made_none : (counts : Bool) (partition : Option (List ℕ)) (kind : EventKind) (rows : List ProcessRow) → maker counts kind ≡ None → HasMade counts partition kind rows rows
made_none counts partition kind rows none = record {
  there = λ name word.
      no_false_and (is_there name word rows) (is_of name partition) ∙ ap (λ (o : Option Subject). is_there name word rows || (is_of name partition && is_word word o)) (sym none);
}

pub made_one : (counts : Bool) (partition : List ℕ) (kind : EventKind) (who : Subject) (rows new : List ProcessRow) → maker counts kind ≡ Some who → HasAdded partition who rows new
    → HasMade counts (Some partition) kind rows new
made_one counts partition kind who rows new is added = record {
  there = λ name word.
      added.there name word ∙ ap (λ (o : Option Subject). is_there name word rows || (same partition name && is_word word o)) (sym is);
}

or_is : (a b : Bool) → (a || b) ≡ false → b ≡ false
or_is true b e = absurd (false≢true (sym e))
or_is false b e = e

-- any other line says nothing of a process that has no row

quiet_state : (b : Bool) (window : Span) (state : ProcessState) (t : Ticks) → b ≡ false → turned_if window (next_if b (Enters state)) t no_process ≡ no_process
quiet_state b window state t other = ap (λ (c : Bool). turned_if window (next_if c (Enters state)) t no_process) other

quiet_clear : (b : Bool) (window : Span) (t : Ticks) → turned_if window (next_if b Cleared) t no_process ≡ no_process
quiet_clear true window t = refl
quiet_clear false window t = refl

quiet_counted : (b : Bool) (word : List ℕ) (o : Option Subject) (x : Process) → is_word word (if b then o else None) ≡ false → (if is_word word o && b then x else no_process) ≡ no_process
quiet_counted true word o x other = ap (λ (c : Bool). if c && true then x else no_process) other
quiet_counted false word o x other = by (is_word word o)
  where
    by : (c : Bool) → (if c && false then x else no_process) ≡ no_process
    by true = refl
    by false = refl

-- a line of its partition
abbrev pub own_behind : Span → Ticks → EventKind → List ℕ → Process
own_behind window t kind word = turned_if window (next_in kind word) t (if is_word word (counted_for kind) && has_tick window t.0 then record no_process { tally = with_one kind no_process.tally } else no_process)

quiet_own : (window : Span) (t : Ticks) (kind : EventKind) (word : List ℕ) → is_word word (maker (has_tick window t.0) kind) ≡ false → own_behind window t kind word ≡ no_process
quiet_own window t (event.State who state) word other = quiet_state (same (subject_text who) word) window state t other
quiet_own window t (event.Mode mode.Normal) word other = refl
quiet_own window t (event.Mode mode.Idle) word other = refl
quiet_own window t (event.Mode mode.ColdStart) word other = refl
quiet_own window t (event.Mode mode.WarmStart) word other = refl
quiet_own window t (event.Return who service code) word other = quiet_counted (has_tick window t.0) word (Some who) _ other
quiet_own window t (event.Error e who response) word other =
    ap (turned_if window (next_if (clears e response) Cleared) t) (quiet_counted (has_tick window t.0) word (counted_for (event.Error e who response)) _ other) ∙ quiet_clear (clears e response) window t
quiet_own window t (event.Report who words) word other = quiet_counted (has_tick window t.0) word (Some who) _ other
quiet_own window t (event.Move port words) word other = refl
quiet_own window t (event.Arrive port words) word other = refl
quiet_own window t (event.Lost port words) word other = refl
quiet_own window t (event.Out channel words) word other = refl

quiet_all : (window : Span) (t : Ticks) (kind : EventKind) → turned_if window (next_of_all kind) t no_process ≡ no_process
quiet_all window t (event.State who state) = refl
quiet_all window t (event.Mode m) = refl
quiet_all window t (event.Return who service code) = refl
quiet_all window t (event.Error e who response) = quiet_clear (resets response) window t
quiet_all window t (event.Report who words) = refl
quiet_all window t (event.Move port words) = refl
quiet_all window t (event.Arrive port words) = refl
quiet_all window t (event.Lost port words) = refl
quiet_all window t (event.Out channel words) = refl

pub quiet_line : (window : Span) (e : Event) (name word : List ℕ) → (is_of name e.partition && is_word word (maker (has_tick window e.tick.0) e.kind)) ≡ false → process_behind window e name word no_process ≡ no_process
quiet_line window e name word other = by e.partition other
  where
    behind : Option (List ℕ) → Process
    behind o = turned_if window (next_by o e.kind name word) e.tick
        (if is_of name o && is_word word (counted_for e.kind) && has_tick window e.tick.0 then record no_process { tally = with_one e.kind no_process.tally } else no_process)

    own : (b : Bool) → (b && is_word word (maker (has_tick window e.tick.0) e.kind)) ≡ false
        → turned_if window (if b then next_in e.kind word else None) e.tick
        (if b && is_word word (counted_for e.kind) && has_tick window e.tick.0 then record no_process { tally = with_one e.kind no_process.tally } else no_process) ≡ no_process
    own true other = quiet_own window e.tick e.kind word other
    own false other = refl

    by : (o : Option (List ℕ)) → (is_of name o && is_word word (maker (has_tick window e.tick.0) e.kind)) ≡ false → behind o ≡ no_process
    by None other = quiet_all window e.tick e.kind
    by (Some p) other = own (same p name) other

-- ---- all rows

-- what a line says of each process is shown, if it says nothing of those without a row
rows_read : (window : Span) (e : Event) (name word : List ℕ) (p : Process) (old new : List ProcessRow) → AllRead window e old new
    → (is_there name word old ≡ false → process_behind window e name word no_process ≡ no_process)
    → IsShown p (row_at name word old) → IsShown (process_behind window e name word p) (row_at name word new)
rows_read window e name word p [] [] read quiet is = ap (process_behind window e name word) is ∙ quiet refl
rows_read window e name word p [] (y ∷ ys) read quiet is = absurd read
rows_read window e name word p (x ∷ xs) [] read quiet is = absurd read
rows_read window e name word p (x ∷ xs) (y ∷ ys) read quiet is =
    subst (λ (b : Bool). IsShown (process_behind window e name word p) (if b then Some y else row_at name word ys)) (sym same_names)
    (by (has_names name word x) refl (rows_read window e name word p xs ys read.1) quiet is)
  where
    same_names : has_names name word y ≡ has_names name word x
    same_names = ap (λ (n : List ℕ). same n name && same (subject_text y.who) word) read.0.partition ∙ ap (λ (w : Subject). same x.partition name && same (subject_text w) word) read.0.who

    here : same x.partition name ≡ true → same (subject_text x.who) word ≡ true → IsRowOf p x → IsRowOf (process_behind window e name word p) y
    here a b row =
        subst (λ (n : List ℕ). IsRowOf (process_behind window e n word p) y) (same_is x.partition name a)
        (subst (λ (w : List ℕ). IsRowOf (process_behind window e x.partition w p) y) (same_is (subject_text x.who) word b) (read.0.numbers p row))

    by : (b : Bool) → has_names name word x ≡ b
        → ((is_there name word xs ≡ false → process_behind window e name word no_process ≡ no_process) → IsShown p (row_at name word xs) → IsShown (process_behind window e name word p) (row_at name word ys))
        → ((b || is_there name word xs) ≡ false → process_behind window e name word no_process ≡ no_process)
        → IsShown p (if b then Some x else row_at name word xs) → IsShown (process_behind window e name word p) (if b then Some y else row_at name word ys)
    by true at rest quiet is = let both = and_parts (same x.partition name) (same (subject_text x.who) word) at in here both.0 both.1 is
    by false at rest quiet is = rest quiet is

-- those that had a row have one
there_read : (window : Span) (e : Event) (name word : List ℕ) (old new : List ProcessRow) → AllRead window e old new → is_there name word new ≡ is_there name word old
there_read window e name word [] [] read = refl
there_read window e name word [] (y ∷ ys) read = absurd read
there_read window e name word (x ∷ xs) [] read = absurd read
there_read window e name word (x ∷ xs) (y ∷ ys) read =
    ap (λ (n : List ℕ). (same n name && same (subject_text y.who) word) || is_there name word ys) read.0.partition
    ∙ (ap (λ (w : Subject). (same x.partition name && same (subject_text w) word) || is_there name word ys) read.0.who
    ∙ ap (λ (b : Bool). has_names name word x || b) (there_read window e name word xs ys read.1))

pub all_read : (window : Span) (e : Event) (old mid new : List ProcessRow) → AreKept old mid → HasMade (has_tick window e.tick.0) e.partition e.kind old mid → AllRead window e mid new → HaveRead window e old new
all_read window e old mid new kept made read = record {
  there = λ name word. there_read window e name word mid new read ∙ made.there name word;
  shown = λ known are name word.
      rows_read window e name word (known name word) mid new read
      (λ none. quiet_line window e name word (or_is (is_there name word old) (makes_row window e name word) (sym (made.there name word) ∙ none))) (kept.shown known are name word);
}

-- ---- the loop that reads them

-- a list that is written back as a whole
pub written_back : {A : Type 0} (xs ys : List A) (n : ℕ) → n ≡ length xs → take n (xs ++ ys) ≡ xs
written_back {A = A} xs ys n is = ap (λ (k : ℕ). take k (xs ++ ys)) is ∙ go xs
  where
    go : (zs : List A) → take (length zs) (zs ++ ys) ≡ zs
    go [] = refl
    go (z ∷ zs) = ap (λ (r : List A). z ∷ r) (go zs)

-- the first of them have read
abbrev pub AreUnderWay : Span → Event → ℕ → List ProcessRow → List ProcessRow → Type 0
AreUnderWay window e zero old now = now ≡ old
AreUnderWay window e (suc k) [] [] = Unit {0}
AreUnderWay window e (suc k) (x ∷ xs) (y ∷ ys) = HasRead (process_behind window e x.partition (subject_text x.who)) x y × AreUnderWay window e k xs ys
AreUnderWay window e (suc k) [] (y ∷ ys) = ⊥
AreUnderWay window e (suc k) (x ∷ xs) [] = ⊥

one_more : (window : Span) (e : Event) (k : ℕ) (old now : List ProcessRow) (x y : ProcessRow) → slice_get now k ≡ Some x → HasRead (process_behind window e x.partition (subject_text x.who)) x y
    → AreUnderWay window e k old now → AreUnderWay window e (suc k) old (slice_set now k y)
one_more window e zero old [] x y at read way = cc
one_more window e zero [] (z ∷ zs) x y at read way = cc
one_more window e zero (w ∷ ws) (z ∷ zs) x y at read way =
    let first : x ≡ w = sym (same_Some z x at) ∙ head way in
    (subst (λ (v : ProcessRow). HasRead (process_behind window e v.partition (subject_text v.who)) v y) first read, tail way)
  where
    head : {a b : ProcessRow} {xs ys : List ProcessRow} → (a ∷ xs) ≡ (b ∷ ys) → a ≡ b
    head e = cc

    tail : {a b : ProcessRow} {xs ys : List ProcessRow} → (a ∷ xs) ≡ (b ∷ ys) → xs ≡ ys
    tail e = cc
one_more window e (suc k) [] [] x y at read way = cc
one_more window e (suc k) [] (z ∷ zs) x y at read way = absurd way
one_more window e (suc k) (w ∷ ws) [] x y at read way = absurd way
one_more window e (suc k) (w ∷ ws) (z ∷ zs) x y at read way = (way.0, one_more window e k ws zs x y at read way.1)

pub read_more : (window : Span) (e : Event) (k : ℕ) (old now : List ProcessRow) (x y : ProcessRow) → slice_get now k ≡ Some x → HasRead (process_behind window e x.partition (subject_text x.who)) x y
    → AreUnderWay window e k old now → AreUnderWay window e (k + 1) old (slice_set now k y)
read_more window e k old now x y at read way = let next : suc k ≡ k + 1 = omega arith in subst (λ (n : ℕ). AreUnderWay window e n old (slice_set now k y)) next (one_more window e k old now x y at read way)

pub read_through : (window : Span) (e : Event) (k : ℕ) (old now : List ProcessRow) → length now ≤ k → AreUnderWay window e k old now → AllRead window e old now
read_through window e zero [] [] all way = tt
read_through window e zero [] (y ∷ ys) all way = absurd (omega (arith, all))
read_through window e zero (x ∷ xs) [] all way = cc
read_through window e zero (x ∷ xs) (y ∷ ys) all way = absurd (omega (arith, all))
read_through window e (suc k) [] [] all way = tt
read_through window e (suc k) [] (y ∷ ys) all way = absurd way
read_through window e (suc k) (x ∷ xs) [] all way = absurd way
read_through window e (suc k) (x ∷ xs) (y ∷ ys) all way = (way.0, read_through window e k xs ys (omega (arith, all)) way.1)
