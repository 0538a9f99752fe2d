-- How many lines of some kinds a trace may have.
use Rattle.std.specs.Prelude.{ℕ, ◌-◌, ◌==◌, Bool, true, false, ◌&&◌, ◌||◌, List, [], ◌∷◌, length, filter, Option, Some, None, option_map, if◌then◌else◌}
use Rattle.std.specs.declared.alloc.Global.{Global}
use Rattle.std.specs.declared.vec.Vec.{Vec}
use Rattle.apex_types.specs.Line.{line_of}
use Rattle.apex_types.specs.declared.codes.ErrorKind.TheVariants as error
use Rattle.apex_types.specs.declared.event.Event.{Event}
use Rattle.apex_types.specs.declared.event.EventKind.{EventKind}
use Rattle.apex_types.specs.declared.event.EventKind.TheVariants as event
use Rattle.trace_lines.specs.Filters.{is_chosen}
use Rattle.trace_lines.specs.KindSets.{has_kind, keyword_in}
use Rattle.trace_lines.specs.declared.filter.Filter.{Filter}
use Rattle.trace_lines.specs.declared.limit.Counted.{Counted}
use Rattle.trace_lines.specs.declared.limit.Counted.TheVariants as counted
use Rattle.trace_lines.specs.declared.limit.Limit.{Limit}
use Rattle.trace_lines.specs.declared.limit.Limits.{Limits}

-- the line says that a deadline was missed
abbrev pub is_missed : EventKind → Bool
is_missed (event.Error error.DeadlineMissed who response) = true
is_missed _ = false

-- the limit counts lines of this kind
abbrev pub counts : Counted → EventKind → Bool
counts (counted.Kinds kinds) kind = has_kind (keyword_in kind) kinds
counts counted.MissedDeadlines kind = is_missed kind

-- the number of these lines that count
abbrev pub count_of : Counted → List Event → ℕ
count_of what events = length (filter (λ (e : Event). counts what e.kind) events)

-- The line is one too many: it counts, and no more may come.
abbrev pub breaks : Limit → Event → Bool
breaks l e = counts l.what e.kind && (l.left == 0)

-- how many more may follow it
abbrev pub left_behind : Limit → Event → ℕ
left_behind l e = if counts l.what e.kind then l.left - 1 else l.left

abbrev pub behind : Limit → Event → Limit
behind l e = record l { left = left_behind l e }

-- how many more may follow these lines
abbrev pub left_after : Limit → List Event → ℕ
left_after l [] = l.left
left_after l (e ∷ es) = left_after (behind l e) es

-- ---- several limits, each of which may be left out

abbrev pub breaks_one : Option Limit → Event → Bool
breaks_one None e = false
breaks_one (Some l) e = breaks l e

abbrev pub one_behind : Option Limit → Event → Option Limit
one_behind None e = None
one_behind (Some l) e = Some (behind l e)

abbrev pub breaks_any : Limits → Event → Bool
breaks_any ls e = breaks_one ls.no e || breaks_one ls.at_most e || breaks_one ls.missed e

abbrev pub all_behind : Limits → Event → Limits
all_behind ls e = record { no = one_behind ls.no e; at_most = one_behind ls.at_most e; missed = one_behind ls.missed e }

-- the first of the chosen lines that breaks a limit
abbrev pub first_broken : Filter → Limits → List Event → Option Event
first_broken f ls [] = None
first_broken f ls (e ∷ es) =
    if is_chosen f e then (if breaks_any ls e then Some e else first_broken f (all_behind ls e) es) else first_broken f ls es

-- the line that was found to break a limit, or else the first one among those that are still to come
abbrev pub found_in : Option (Vec ℕ Global) → Filter → Limits → List Event → Option (List ℕ)
found_in None f ls events = option_map line_of (first_broken f ls events)
found_in (Some line) f ls events = Some line.items
