-- The text of a trace: the exact bytes of each event's line; and when a sink takes a prefix of a
-- text.
use Rattle.std.specs.Prelude.{ℕ, ◌+◌, ◌/◌, ◌%◌, ℤ, List, [], ◌∷◌, ◌++◌, map, flat_map, codes, Option, Some, None, ◌≤◌, length, take}
use Rattle.std.specs.Fmt.{decimal, signed_decimal}
use Rattle.apex_types.specs.CodeWords.{return_code_number, mode_word, state_word, error_word, level_word, level_of_response, action_word}
use Rattle.apex_types.specs.ServiceShape.{service_word}
use Rattle.apex_types.specs.declared.event.Event.{Event}
use Rattle.apex_types.specs.declared.event.EventKind.{EventKind}
use Rattle.apex_types.specs.declared.event.EventKind.TheVariants as event
use Rattle.apex_types.specs.declared.event.Subject.{Subject}
use Rattle.apex_types.specs.declared.event.Subject.TheVariants as subject
use Rattle.std.specs.Io.KnownBytes.{Appends}

-- the byte of a space, which is between the words of a line
abbrev pub space : ℕ
space = 32

-- a number in 13 digits, with zeros in front
abbrev pub thirteen_digits : ℕ → List ℕ
thirteen_digits n = map (λ unit. 48 + n / unit % 10) (1000000000000 ∷ 100000000000 ∷ 10000000000 ∷ 1000000000 ∷ 100000000 ∷ 10000000 ∷ 1000000 ∷ 100000 ∷ 10000 ∷ 1000 ∷ 100 ∷ 10 ∷ 1 ∷ [])

-- the partition's name, or `-` for the module
abbrev pub partition_text : Option (List ℕ) → List ℕ
partition_text None = codes "-"
partition_text (Some name) = name

-- a process's name, INIT or HANDLER
abbrev pub subject_text : Subject → List ℕ
subject_text subject.Init = codes "INIT"
subject_text subject.Handler = codes "HANDLER"
subject_text (subject.Process name) = name

-- the subject of an error, or `-` for a device fault
abbrev pub culprit_text : Option Subject → List ℕ
culprit_text None = codes "-"
culprit_text (Some who) = subject_text who

-- the words of a message: plain decimals, a space before each
abbrev pub words_text : List ℤ → List ℕ
words_text words = flat_map (λ word. space ∷ signed_decimal word) words

-- the text of an event
abbrev pub kind_text : EventKind → List ℕ
kind_text (event.State who state) = codes "STATE " ++ subject_text who ++ codes " " ++ state_word state
kind_text (event.Return who service code) = codes "RET " ++ subject_text who ++ codes " " ++ service_word service ++ codes " " ++ decimal (return_code_number code)
kind_text (event.Mode mode) = codes "MODE " ++ mode_word mode
kind_text (event.Error error who response) = codes "HM " ++ error_word error ++ codes " " ++ culprit_text who ++ codes " " ++ level_word (level_of_response response) ++ codes " " ++ action_word response
kind_text (event.Report who words) = codes "REPORT " ++ subject_text who ++ words_text words.items
kind_text (event.Move port words) = codes "MOVE " ++ port ++ words_text words.items
kind_text (event.Arrive port words) = codes "ARRIVE " ++ port ++ words_text words.items
kind_text (event.Lost port words) = codes "LOST " ++ port ++ words_text words.items
kind_text (event.Out channel words) = codes "OUT " ++ channel ++ words_text words.items

-- the line of an event: its tick, its partition, the text of the event, a line feed
abbrev pub line_of : Event → List ℕ
line_of event = thirteen_digits event.tick.0 ++ codes " " ++ partition_text event.partition ++ codes " " ++ kind_text event.kind ++ 10 ∷ []

-- the text of a trace: the lines of its events
abbrev pub text_of : List Event → List ℕ
text_of events = flat_map line_of events

-- the bytes taken grew by a prefix of the text
abbrev pub TakesBeginning : Option (List ℕ) → Option (List ℕ) → List ℕ → Type 0
TakesBeginning old new text = (k : ℕ) × (k ≤ length text) × Appends old new (take k text)
