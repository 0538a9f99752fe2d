-- The errors, the messages and the numbers of partitions and processes of a whole trace, by its lines.
use Rattle.std.specs.Prelude.{◌≡◌, ℕ, ◌+◌, Bool, true, false, ◌&&◌, ◌||◌, if◌then◌else◌, List, [], ◌∷◌, Option, Some, None}
use Rattle.apex_types.specs.CodeWords.{action_word, error_word, level_of_response, level_word}
use Rattle.apex_types.specs.Line.{subject_text}
use Rattle.apex_types.specs.declared.codes.ErrorKind.{ErrorKind}
use Rattle.apex_types.specs.declared.codes.Response.{Response}
use Rattle.apex_types.specs.declared.event.Event.{Event}
use Rattle.apex_types.specs.declared.event.EventKind.{EventKind}
use Rattle.apex_types.specs.declared.event.EventKind.TheVariants as event
use Rattle.apex_types.specs.declared.identity.Ticks.{Ticks}
use Rattle.engine_meaning.specs.Digits.{same}
use Rattle.trace_stays.specs.Following.{is_of}
use Rattle.trace_stays.specs.Same.{is_same_partition}
use Rattle.trace_stays.specs.declared.span.Span.{Span}
use Rattle.trace_view.specs.Counting.{capped, route_of, with_message}
use Rattle.trace_view.specs.Errors.{IsOf}
use Rattle.trace_view.specs.Partitions.{no_partition, partition_behind, partition_total}
use Rattle.trace_view.specs.Percentiles.{IsSpread}
use Rattle.trace_view.specs.Processes.{Process, makes_row, no_process, process_after, process_ended}
use Rattle.trace_view.specs.Starts.{told_behind, told_first}
use Rattle.trace_view.specs.Tallies.{has_tick, is_read}
use Rattle.trace_view.specs.Traffic.{no_messages}
use Rattle.trace_view.specs.Turns.{end_times, running_times}
use Rattle.trace_view.specs.declared.errors.ErrorTotal.{ErrorTotal}
use Rattle.trace_view.specs.declared.messages.Messages.{Messages}
use Rattle.trace_view.specs.declared.messages.Route.{Route}
use Rattle.trace_view.specs.declared.messages.Route.TheVariants as route
use Rattle.trace_view.specs.declared.partitions.PartitionRow.{PartitionRow}
use Rattle.trace_view.specs.declared.report.PartitionTotal.{PartitionTotal}
use Rattle.trace_view.specs.declared.report.ProcessTotal.{ProcessTotal}
use Rattle.trace_view.specs.declared.report.RouteTotal.{RouteTotal}
use Rattle.trace_view.specs.declared.told.Told.{Told}

-- the ticks of these lines
abbrev pub ticks_of_lines : List Event → List Ticks
ticks_of_lines [] = []
ticks_of_lines (e ∷ es) = e.tick ∷ ticks_of_lines es

-- ---- errors: those of one partition, kind, level and action, by their words

abbrev pub is_answered : Response → Response → Bool
is_answered r s = same (level_word (level_of_response r)) (level_word (level_of_response s)) && same (action_word r) (action_word s)

abbrev pub is_alike : Option (List ℕ) → ErrorKind → Response → Option (List ℕ) → ErrorKind → Response → Bool
is_alike name error response other e r = is_same_partition other name && same (error_word e) (error_word error) && is_answered r response

abbrev pub is_error : Option (List ℕ) → ErrorKind → Response → Option (List ℕ) → EventKind → Bool
is_error name error response partition (event.Error e who r) = is_alike name error response partition e r
is_error name error response partition _ = false

-- how many lines of the window are of such an error
abbrev pub errors_in : Span → Option (List ℕ) → ErrorKind → Response → List Event → ℕ
errors_in window name error response [] = 0
errors_in window name error response (e ∷ es) =
    (if has_tick window e.tick.0 && is_error name error response e.partition e.kind then 1 else 0) + errors_in window name error response es

-- the lines that are counted for it
abbrev pub lines_of : Option (List ℕ) → ErrorKind → Response → List ErrorTotal → ℕ
lines_of name error response [] = 0
lines_of name error response (one ∷ more) = (if is_alike name error response one.partition one.error one.response then one.lines else 0) + lines_of name error response more

-- each of them appears once
abbrev pub HasNone : Option (List ℕ) → ErrorKind → Response → List ErrorTotal → Type 0
HasNone name error response [] = Unit {0}
HasNone name error response (one ∷ more) = (IsOf name error response one → ⊥) × HasNone name error response more

abbrev pub AreApart : List ErrorTotal → Type 0
AreApart [] = Unit {0}
AreApart (one ∷ more) = HasNone one.partition one.error one.response more × AreApart more

-- For each error as many lines are counted as the window has.
pub record AreErrorsOf (window : Span) (events : List Event) (totals : List ErrorTotal) : Type 0 where
  pub lines : (name : Option (List ℕ)) (error : ErrorKind) (response : Response) → capped (lines_of name error response totals) ≡ capped (errors_in window name error response events)
  pub apart : AreApart totals

-- ---- messages: those of one port or channel of a partition

abbrev pub is_same_route : Route → Route → Bool
is_same_route (route.Port one) (route.Port other) = same one other
is_same_route (route.Channel one) (route.Channel other) = same one other
is_same_route _ _ = false

abbrev pub is_at : Route → Option Route → Bool
is_at r None = false
is_at r (Some other) = is_same_route other r

abbrev pub passes : Span → List ℕ → Route → Event → Bool
passes window name r e = has_tick window e.tick.0 && (is_of name e.partition && is_at r (route_of e.kind))

-- how many moved, arrived, were lost and left, with those of the lines of the window
abbrev pub messages_in : Span → List ℕ → Route → List Event → Messages → Messages
messages_in window name r [] m = m
messages_in window name r (e ∷ es) m = messages_in window name r es (if passes window name r e then with_message e.kind m else m)

-- the partition has a row
abbrev pub has_partition : List ℕ → List PartitionTotal → Bool
has_partition name [] = false
has_partition name (partition ∷ others) = same partition.name name || has_partition name others

-- the messages that the rows show for a port or a channel; without a row there are none
abbrev pub messages_at : List ℕ → Route → List RouteTotal → Option Messages
messages_at name r [] = None
messages_at name r (one ∷ more) = if same one.partition name && is_same_route one.route r then Some one.messages else messages_at name r more

abbrev pub or_none : Option Messages → Messages
or_none None = no_messages
or_none (Some m) = m

-- The row of each port and channel of a partition has the messages of the window. Without a row there were none.
abbrev pub AreMessagesOf : Span → List Event → List PartitionTotal → List RouteTotal → Type 0
AreMessagesOf window events partitions rows =
    (name : List ℕ) (r : Route) → has_partition name partitions ≡ true → or_none (messages_at name r rows) ≡ messages_in window name r events no_messages

-- ---- partitions

-- a partition after these lines, each of which may start it with the condition that the lines before it give
abbrev pub partition_in : Span → Told → List Event → PartitionRow → PartitionRow
partition_in window told [] p = p
partition_in window told (e ∷ es) p = partition_in window (told_behind e told) es (if is_read window e.tick.0 then partition_behind window told e p else p)

abbrev pub has_line : Span → List ℕ → List Event → Bool
has_line window name [] = false
has_line window name (e ∷ es) = (is_read window e.tick.0 && is_of name e.partition) || has_line window name es

-- the numbers that the rows show for a partition; without a row they are those of a partition without a line
abbrev pub partition_at : List ℕ → List PartitionTotal → PartitionTotal
partition_at name [] = record { name = name; modes = (no_partition name).modes; starts = (no_partition name).starts }
partition_at name (one ∷ more) = if same one.name name then one else partition_at name more

-- Each partition with a line has a row, and no other. Its ticks in the modes, and its starts, are those that the lines lead to, with the stay that is not over
-- where the window closes.
pub record ArePartitionsOf (window closing : Span) (events : List Event) (partitions : List PartitionTotal) : Type 0 where
  pub rows : (name : List ℕ) → has_partition name partitions ≡ has_line window name events
  pub numbers : (name : List ℕ) → partition_at name partitions ≡ partition_total closing (partition_in window told_first events (no_partition name))

-- ---- processes

-- a process after these lines
abbrev pub process_in : Span → List Event → (name word : List ℕ) → Process → Process
process_in window [] name word p = p
process_in window (e ∷ es) name word p = process_in window es name word (process_after window e name word p)

abbrev pub process_at : (name word : List ℕ) → List ProcessTotal → Option ProcessTotal
process_at name word [] = None
process_at name word (one ∷ more) = if same one.partition name && same (subject_text one.who) word then Some one else process_at name word more

-- its numbers, and the percentiles of its times; nothing is known of a process without a row
abbrev pub AreShown : Process → Option ProcessTotal → Type 0
AreShown p None = p ≡ no_process
AreShown p (Some one) = (one.tally ≡ p.tally) × IsSpread (running_times p.times) one.spreads.to_running × IsSpread (end_times p.times) one.spreads.to_end

abbrev pub is_row : Option ProcessTotal → Bool
is_row None = false
is_row (Some one) = true

-- a line makes a row for the process
abbrev pub has_row_in : Span → (name word : List ℕ) → List Event → Bool
has_row_in window name word [] = false
has_row_in window name word (e ∷ es) = (is_read window e.tick.0 && makes_row window e name word) || has_row_in window name word es

-- Each process, INIT and the error handler of each partition have a row if a line makes one. Its numbers are those that the lines lead to, with the stay that is
-- not over where the window closes.
pub record AreProcessesOf (window closing : Span) (events : List Event) (processes : List ProcessTotal) : Type 0 where
  pub rows : (name word : List ℕ) → is_row (process_at name word processes) ≡ has_row_in window name word events
  pub numbers : (name word : List ℕ) → AreShown (process_ended closing (process_in window events name word no_process)) (process_at name word processes)
