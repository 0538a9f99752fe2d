-- Which lines of a trace are chosen.
use Rattle.std.specs.Prelude.{ℕ, Bool, true, false, ◌&&◌, ◌||◌, List, [], Option, Some, None, filter, nat_le, nat_lt, if◌then◌else◌, string_bytes}
use Rattle.std.specs.declared.alloc.Global.{Global}
use Rattle.std.specs.declared.string.String.{String}
use Rattle.apex_types.specs.Line.{culprit_text, line_of, partition_text, subject_text, text_of}
use Rattle.apex_types.specs.declared.event.Event.{Event}
use Rattle.apex_types.specs.declared.event.EventKind.{EventKind}
use Rattle.apex_types.specs.declared.event.EventKind.TheVariants as event
use Rattle.apex_types.specs.declared.event.Subject.{Subject}
use Rattle.apex_types.specs.declared.identity.Ticks.{Ticks}
use Rattle.engine_meaning.specs.Digits.{same}
use Rattle.trace_lines.specs.KindSets.{has_kind, keyword_in}
use Rattle.trace_lines.specs.declared.filter.Filter.{Filter}
use Rattle.trace_lines.specs.declared.kinds.Kinds.{Kinds}

-- ---- what a line names

-- the process that a line is about
abbrev pub subject_in : EventKind → Option Subject
subject_in (event.State who state) = Some who
subject_in (event.Return who service code) = Some who
subject_in (event.Error error who response) = who
subject_in (event.Report who words) = Some who
subject_in _ = None

-- the port of a message, or the channel by which it leaves the module
abbrev pub route_in : EventKind → Option (List ℕ)
route_in (event.Move port words) = Some port
route_in (event.Arrive port words) = Some port
route_in (event.Lost port words) = Some port
route_in (event.Out channel words) = Some channel
route_in _ = None

-- ---- what is asked for; what is not asked for does not matter

-- the line has this word in this place
abbrev pub is_word : Option (String Global) → List ℕ → Bool
is_word None word = true
is_word (Some asked) word = same (string_bytes asked) word

abbrev pub names_subject : Option (String Global) → Option Subject → Bool
names_subject None who = true
names_subject (Some asked) None = false
names_subject (Some asked) (Some who) = same (string_bytes asked) (subject_text who)

abbrev pub names_route : Option (String Global) → Option (List ℕ) → Bool
names_route None route = true
names_route (Some asked) None = false
names_route (Some asked) (Some route) = same (string_bytes asked) route

abbrev pub is_of_kind : Option Kinds → EventKind → Bool
is_of_kind None kind = true
is_of_kind (Some kinds) kind = has_kind (keyword_in kind) kinds

abbrev pub is_before : Option Ticks → ℕ → Bool
is_before None t = true
is_before (Some to) t = nat_lt t to.0

-- The line has all that is asked for.
abbrev pub is_chosen : Filter → Event → Bool
is_chosen f e =
    nat_le f.from.0 e.tick.0 && is_before f.to e.tick.0 && is_of_kind f.kinds e.kind
    && is_word f.partition (partition_text e.partition) && names_subject f.process (subject_in e.kind)
    && names_route f.port (route_in e.kind)

-- ---- what a view with a filter reads

-- the line says that a partition enters a mode
abbrev pub is_mode : EventKind → Bool
is_mode (event.Mode mode) = true
is_mode _ = false

-- A view reads the lines that are chosen, and the modes of the partitions that are asked for: a mode ends the stays of
-- all processes of its partition, so without it a process that is gone would keep its state.
abbrev pub is_viewed : Filter → Event → Bool
is_viewed f e = is_chosen f e || (is_mode e.kind && is_word f.partition (partition_text e.partition))

-- ---- what is listed

-- the text of a line, if it is chosen
abbrev pub chosen_text : Filter → Event → List ℕ
chosen_text f e = if is_chosen f e then line_of e else []

-- the text of the chosen lines of a trace, in their order
abbrev pub text_of_chosen : Filter → List Event → List ℕ
text_of_chosen f events = text_of (filter (is_chosen f) events)
