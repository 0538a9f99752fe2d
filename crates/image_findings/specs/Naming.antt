-- What is wrong with a line of one of the forms: its tick, its names, or its length.
use Rattle.std.specs.Prelude.{ℕ, Bool, false, ◌||◌, nat_lt, if◌then◌else◌, List, [], ◌∷◌, length, Option, Some, None, slice_get}
use Rattle.apex_types.specs.Limits.{MOST_TICKS}
use Rattle.engine_meaning.specs.Digits.{same}
use Rattle.module_meaning.specs.DeviceText.{is_room, plain_number}
use Rattle.image_findings.specs.Names.{Names, Receiver, mark_of}
use Rattle.image_findings.specs.Parts.{Part}
use Rattle.image_findings.specs.Form.{or_else, wrong}
use Rattle.image_findings.specs.What.{What, Wrong, Early, UnknownReceiver, Closed, UnknownPartition, TooManyLines, TooManyWords}

abbrev pub or_zero : Option ℕ → ℕ
or_zero None = 0
or_zero (Some tick) = tick

-- the tick of a text that is one; else 0
abbrev pub tick_of : List ℕ → ℕ
tick_of text = or_zero (plain_number MOST_TICKS text)

abbrev pub at : Part → What → Wrong
at p what = wrong p.left what

-- the first of that name
abbrev pub receiver_named : List ℕ → List Receiver → Option Receiver
receiver_named name [] = None
receiver_named name (r ∷ rs) = if same r.name name then Some r else receiver_named name rs

abbrev pub is_among : List ℕ → List (List ℕ) → Bool
is_among text [] = false
is_among text (name ∷ names) = same name text || is_among text names

-- no more lines may follow
abbrev pub room_wrong : ℕ → Part → Option Wrong
room_wrong count tick = if is_room count then None else Some (at tick TooManyLines)

-- the first word that is too many
abbrev pub words_wrong : ℕ → ℕ → Option Part → Option Wrong
words_wrong words most None = None
words_wrong words most (Some p) = Some (at p (TooManyWords words most))

abbrev pub size_wrong : ℕ → Part → ℕ → List Part → Option Wrong
size_wrong count tick most words = or_else (room_wrong count tick) (words_wrong (length words) most (slice_get words most))

abbrev pub receiver_wrong : ℕ → Part → Part → List Part → Option Receiver → Option Wrong
receiver_wrong count tick name words None = Some (at name (UnknownReceiver name.text))
receiver_wrong count tick name words (Some r) = if r.is_open then size_wrong count tick r.most words else Some (at name (Closed name.text))

abbrev pub message_wrong : Names → ℕ → Part → List Part → Option Wrong
message_wrong names count tick [] = None
message_wrong names count tick (name ∷ words) = receiver_wrong count tick name words (receiver_named name.text names.receivers)

abbrev pub fault_wrong : Names → ℕ → Part → List Part → Option Wrong
fault_wrong names count tick [] = room_wrong count tick
fault_wrong names count tick (name ∷ more) = if is_among name.text names.partitions then room_wrong count tick else Some (at name (UnknownPartition name.text))

abbrev pub event_wrong : Names → ℕ → Part → List Part → Option Wrong
event_wrong names count tick [] = None
event_wrong names count tick (event ∷ rest) = if same event.text (mark_of names.kind) then message_wrong names count tick rest else fault_wrong names count tick rest

-- what is wrong with a line of one of the forms, after `count` others of which the last has the tick `before`
abbrev pub meaning_wrong : Names → ℕ → ℕ → List Part → Option Wrong
meaning_wrong names count before [] = None
meaning_wrong names count before (tick ∷ rest) =
    if nat_lt (tick_of tick.text) before then Some (at tick (Early (tick_of tick.text) before)) else event_wrong names count tick rest
