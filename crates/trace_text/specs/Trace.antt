-- Which events a run can write, and which lists of events are a trace.
use Rattle.std.specs.Prelude.{◌≡◌, ℕ, ◌+◌, ◌^◌, ◌<◌, ◌≤◌, ℤ, Bool, false, true, ◌&&◌, List, [], ◌∷◌, ◌++◌, length, Option, Some, None, is_some, is_none, IsTrue}
use Rattle.apex_types.specs.Limits.{MOST_TICKS, MOST_WORDS}
use Rattle.apex_types.specs.Line.{line_of, text_of}
use Rattle.apex_types.specs.NameText.{is_name}
use Rattle.apex_types.specs.declared.codes.Response.{Response}
use Rattle.apex_types.specs.declared.codes.Response.TheVariants as response
use Rattle.apex_types.specs.declared.event.Event.{Event}
use Rattle.apex_types.specs.declared.event.EventKind.{EventKind}
use Rattle.apex_types.specs.declared.event.EventKind.TheVariants as event
use Rattle.apex_types.specs.declared.event.Subject.{Subject}
use Rattle.apex_types.specs.declared.event.Subject.TheVariants as subject
use Rattle.apex_types.specs.declared.service.Service.{Service}
use Rattle.apex_types.specs.declared.service.Service.TheVariants as service
use Rattle.text_lines.specs.Words.{AreWords}

-- ---- the parts of an event

-- 1 to 64 words
pub record IsMessage (words : List ℤ) : Type 0 where
  pub some : 1 ≤ length words
  pub few : length words ≤ MOST_WORDS
  pub fit : AreWords words

abbrev pub IsSubject : Subject → Type 0
IsSubject subject.Init = Unit {0}
IsSubject subject.Handler = Unit {0}
IsSubject (subject.Process name) = IsTrue (is_name name)

abbrev pub IsCulprit : Option Subject → Type 0
IsCulprit None = Unit {0}
IsCulprit (Some who) = IsSubject who

abbrev pub IsPartition : Option (List ℕ) → Type 0
IsPartition None = Unit {0}
IsPartition (Some name) = IsTrue (is_name name)

-- names have the form of a name, and messages have 1 to 64 words
abbrev pub HasParts : EventKind → Type 0
HasParts (event.State who state) = IsSubject who
HasParts (event.Return who service code) = IsSubject who
HasParts (event.Mode mode) = Unit {0}
HasParts (event.Error error who response) = IsCulprit who
HasParts (event.Report who words) = IsSubject who × IsMessage words.items
HasParts (event.Move port words) = IsTrue (is_name port) × IsMessage words.items
HasParts (event.Arrive port words) = IsTrue (is_name port) × IsMessage words.items
HasParts (event.Lost port words) = IsTrue (is_name port) × IsMessage words.items
HasParts (event.Out channel words) = IsTrue (is_name channel) × IsMessage words.items

-- ---- where something can happen

-- a fault of the module belongs to no partition and to no process, and any other error to a partition
abbrev pub is_handled_in : Response → Option Subject → Option (List ℕ) → Bool
is_handled_in (response.Module action) who partition = is_none partition && is_none who
is_handled_in _ who partition = is_some partition

-- STOP_SELF never ends
abbrev pub ends : Service → Bool
ends service.StopSelf = false
ends _ = true

-- all but a fault of the module happens in a partition
abbrev pub happens_in : EventKind → Option (List ℕ) → Bool
happens_in (event.Error error who response) partition = is_handled_in response who partition
happens_in (event.Return who service code) partition = ends service && is_some partition
happens_in _ partition = is_some partition

-- an event that has a line in a trace
pub record CanBeWritten (e : Event) : Type 0 where
  pub tick : e.tick.0 < MOST_TICKS
  pub partition : IsPartition e.partition
  pub parts : HasParts e.kind
  pub place : IsTrue (happens_in e.kind e.partition)

-- ---- a trace

-- each event can be written, and none is of a tick below that of the one before
abbrev pub IsTraceFrom : ℕ → List Event → Type 0
IsTraceFrom before [] = Unit {0}
IsTraceFrom before (e ∷ es) = CanBeWritten e × (before ≤ e.tick.0) × IsTraceFrom e.tick.0 es

abbrev pub IsTrace : List Event → Type 0
IsTrace events = IsTraceFrom 0 events

-- the line of this event is at the front of a text, after a line of tick `before`, and this is
-- the text that follows
pub record IsNext (before : ℕ) (text : List ℕ) (e : Event) (rest : List ℕ) : Type 0 where
  pub can : CanBeWritten e
  pub in_order : before ≤ e.tick.0
  pub parts : text ≡ line_of e ++ rest

-- The events that a text is read as, after a line of that tick: each line is that of the next event.
abbrev pub IsReadFrom : ℕ → List ℕ → List Event → Type 0
IsReadFrom before text [] = text ≡ []
IsReadFrom before text (e ∷ es) = (rest : List ℕ) × IsNext before text e rest × IsReadFrom e.tick.0 rest es

-- the events that a text is read as
abbrev pub IsReadAs : List ℕ → List Event → Type 0
IsReadAs text events = IsReadFrom 0 text events

-- The lines of a text before the line of this number are those of a trace, and text follows; but no
-- event can follow there and have its line there.
pub record IsRefusedAt (text : List ℕ) (line : ℕ) : Type 0 where
  pub read : List Event
  pub rest : List ℕ
  pub parts : text ≡ text_of read ++ rest
  pub trace : IsTrace read
  pub number : length read + 1 ≡ line
  pub some : 0 < length rest
  pub none : (e : Event) (more : List ℕ) → IsTrace (read ++ e ∷ []) → rest ≡ line_of e ++ more → ⊥
