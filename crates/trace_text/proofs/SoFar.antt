-- A trace that was read as far as a place of its text.
use Rattle.std.proofs.Common.{◌≡◌, ℕ, ◌+◌, ◌<◌, ◌≤◌, List, [], ◌∷◌, ◌++◌, length, Result, Ok, Err, refl, sym, ap, subst, ◌∙◌, arith, append_assoc, append-nil, length-append}
use Rattle.std.specs.Prelude.{IsErr, IsErrAnd, IfErr}
use Rattle.apex_types.specs.Line.{line_of, text_of}
use Rattle.apex_types.specs.declared.event.Event.{Event}
use Rattle.apex_types.specs.declared.identity.Ticks.{Ticks}
use Rattle.trace_text.specs.declared.reader.TraceFault.{TraceFault}
use Rattle.trace_text.specs.Trace.{CanBeWritten, IsNext, IsTraceFrom, IsTrace, IsReadFrom, IsReadAs, IsRefusedAt}
use Rattle.trace_text.proofs.Traces.{one_at_front, no_text, again}

-- the tick of the last of these, or that before them
abbrev pub last_tick : ℕ → List Event → ℕ
last_tick before [] = before
last_tick before (e ∷ es) = last_tick e.tick.0 es

-- these events were read, and this is the rest of the text, after a line of that tick
pub record IsReadSoFar (text : List ℕ) (before lines : ℕ) (rest : List ℕ) : Type 0 where
  pub read : List Event
  pub parts : text ≡ text_of read ++ rest
  pub trace : IsTrace read
  pub last : before ≡ last_tick 0 read
  pub count : length read ≡ lines

pub nothing_read : (text : List ℕ) → IsReadSoFar text 0 0 text
nothing_read text = record { read = []; parts = refl; trace = tt; last = refl; count = refl }

text_more : (es : List Event) (e : Event) → text_of (es ++ e ∷ []) ≡ text_of es ++ line_of e
text_more [] e = append-nil (line_of e)
text_more (x ∷ es) e = ap (λ (rest : List ℕ). line_of x ++ rest) (text_more es e) ∙ sym (append_assoc (line_of x) (text_of es) (line_of e))

trace_more : (before : ℕ) (es : List Event) (e : Event) → IsTraceFrom before es → CanBeWritten e → last_tick before es ≤ e.tick.0 → IsTraceFrom before (es ++ e ∷ [])
trace_more before [] e trace can order = (can, order, tt)
trace_more before (x ∷ es) e trace can order = (trace.0, trace.1, trace_more x.tick.0 es e trace.2 can order)

last_more : (before : ℕ) (es : List Event) (e : Event) → last_tick before (es ++ e ∷ []) ≡ e.tick.0
last_more before [] e = refl
last_more before (x ∷ es) e = last_more x.tick.0 es e

trace_last : (before : ℕ) (es : List Event) (e : Event) → IsTraceFrom before (es ++ e ∷ []) → CanBeWritten e × (last_tick before es ≤ e.tick.0)
trace_last before [] e trace = (trace.0, trace.1)
trace_last before (x ∷ es) e trace = trace_last x.tick.0 es e trace.2

-- the next event is read after them
pub read_on : (text : List ℕ) (before lines : ℕ) (rest : List ℕ) (e : Event) (more : List ℕ) (so : IsReadSoFar text before lines rest) → IsNext before rest e more
    → (new : IsReadSoFar text e.tick.0 (lines + 1) more) × (new.read ≡ so.read ++ e ∷ [])
read_on text before lines rest e more so next = (
  record {
    read = so.read ++ e ∷ [];
    parts = so.parts ∙ ap (λ (r : List ℕ). text_of so.read ++ r) next.parts ∙ sym (append_assoc (text_of so.read) (line_of e) more) ∙ ap (λ (t : List ℕ). t ++ more) (sym (text_more so.read e));
    trace = trace_more 0 so.read e so.trace next.can (omega (arith, so.last, next.in_order));
    last = sym (last_more 0 so.read e);
    count = omega (arith, so.count, length-append so.read (e ∷ []));
  },
  refl,
)

pub one_more_read : (text : List ℕ) (before lines : ℕ) (rest : List ℕ) (e : Event) (more : List ℕ) → IsReadSoFar text before lines rest → IsNext before rest e more → IsReadSoFar text e.tick.0 (lines + 1) more
one_more_read text before lines rest e more so next = (read_on text before lines rest e more so next).0

-- the events that were read are those of the text
pub read_as : (text : List ℕ) (before lines : ℕ) (rest : List ℕ) (so : IsReadSoFar text before lines rest) → rest ≡ [] → IsReadAs text so.read
read_as text before lines rest so none =
    let whole : text_of so.read ≡ text = sym (so.parts ∙ ap (λ (r : List ℕ). text_of so.read ++ r) none ∙ append-nil (text_of so.read)) in
    subst (λ (t : List ℕ). IsReadAs t so.read) whole (again so.read so.trace)

pub all_read : (text : List ℕ) (before lines : ℕ) (rest : List ℕ) → IsReadSoFar text before lines rest → rest ≡ [] → (events : List Event) × IsReadAs text events × (length events ≡ lines)
all_read text before lines rest so none = (so.read, read_as text before lines rest so none, so.count)

pub refused_at : (text : List ℕ) (before lines : ℕ) (rest : List ℕ) (line : ℕ) → IsReadSoFar text before lines rest → line ≡ lines + 1 → 0 < length rest → ((e : Event) (more : List ℕ) → IsNext before rest e more → ⊥) → IsRefusedAt text line
refused_at text before lines rest line so number some none = record {
  read = so.read;
  rest = rest;
  parts = so.parts;
  trace = so.trace;
  number = omega (arith, so.count, number);
  some = some;
  none = λ e more trace is.
      let t = trace_last 0 so.read e trace in
      none e more (record { can = t.0; in_order = omega (arith, so.last, t.1); parts = is });
}

-- the events of the whole begin with those that were read
rest_of : (before : ℕ) (text : List ℕ) (read : List Event) (rest : List ℕ) (events : List Event) → IsTraceFrom before read → text ≡ text_of read ++ rest → IsReadFrom before text events → (more : List Event) × IsReadFrom (last_tick before read) rest more
rest_of before text [] rest events trace parts whole = (events, subst (λ (t : List ℕ). IsReadFrom before t events) parts whole)
rest_of before text (e ∷ es) rest [] trace parts whole = absurd (no_text text e (text_of es ++ rest) whole (parts ∙ append_assoc (line_of e) (text_of es) rest))
rest_of before text (e ∷ es) rest (f ∷ fs) trace parts whole =
    let g = one_at_front text e f (text_of es ++ rest) whole.0 trace.0 whole.1.can (parts ∙ append_assoc (line_of e) (text_of es) rest) whole.1.parts in
    let here : IsReadFrom e.tick.0 whole.0 fs = subst (λ (x : Event). IsReadFrom x.tick.0 whole.0 fs) (sym g.0) whole.2 in
    rest_of e.tick.0 whole.0 es rest fs trace.2 (sym g.1) here

no_events : (before : ℕ) (rest : List ℕ) (events : List Event) → 0 < length rest → ((e : Event) (more : List ℕ) → IsNext before rest e more → ⊥) → IsReadFrom before rest events → ⊥
no_events before rest [] some none read = omega (arith, some, ap length read)
no_events before rest (e ∷ es) some none read = none e read.0 read.1

pub no_trace : (text : List ℕ) (before lines : ℕ) (rest : List ℕ) (events : List Event) → IsReadSoFar text before lines rest → 0 < length rest → ((e : Event) (more : List ℕ) → IsNext before rest e more → ⊥) → IsReadAs text events → ⊥
no_trace text before lines rest events so some none whole =
    let g = rest_of 0 text so.read rest events so.trace so.parts whole in
    no_events before rest g.0 some none (subst (λ (b : ℕ). IsReadFrom b rest g.0) (sym so.last) g.1)

-- a line has some bytes, so what follows it is shorter
pub shorter : (before : ℕ) (text : List ℕ) (e : Event) (rest : List ℕ) → IsNext before text e rest → length rest < length text
shorter before text e rest next = let long = ap length next.parts in let sum = length-append (line_of e) rest in omega (arith, long, sum)

-- the same with what a reader notes of the line
pub next_read : (text : List ℕ) (before lines : ℕ) (rest : List ℕ) (e : Event) (more : List ℕ) (tick : Ticks) (count : ℕ) → IsReadSoFar text before lines rest → IsNext before rest e more → (tick ≡ e.tick) × (count ≡ lines + 1) → IsReadSoFar text tick.0 count more
next_read text before lines rest e more tick count so next noted =
    subst (λ (t : Ticks). IsReadSoFar text t.0 count more) (sym noted.0)
    (subst (λ (n : ℕ). IsReadSoFar text e.tick.0 n more) (sym noted.1) (one_more_read text before lines rest e more so next))

-- the result if an error is passed on
pub passed_on : {A : Type 0} (answer : Result A TraceFault) (fault : TraceFault) (P : TraceFault → Type 0) → IsErr answer × IsErrAnd answer (λ e. e ≡ fault) → P fault → IfErr answer P
passed_on (Ok x) fault P told fact = tt
passed_on (Err e) fault P told fact = subst P (sym told.1) fact
