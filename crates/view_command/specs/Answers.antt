-- The meaning of each exit status.
use Rattle.std.specs.Prelude.{◌≡◌, ◌⊎◌, ◌≤◌, ℕ, List, [], ◌∷◌, ◌++◌, Option, Some, None, Result, Ok, Err, codes, string_bytes}
use Rattle.clap.specs.Kinds.{Kinds, IsAmong}
use Rattle.clap.specs.Values.{kind_of}
use Rattle.command_words.specs.Found.{Entered}
use Rattle.command_words.specs.Kinds.{AreMistaken, AskForHelp, IsMistake}
use Rattle.command_words.specs.Told.{IsUsageTold}
use Rattle.command_words.specs.declared.page.Page.{Page}
use Rattle.streams.specs.Contents.{Contents}
use Rattle.streams.specs.States.{HasFailed, IsFlushed, IsWritten, Seen, TakesLine}
use Rattle.view_command.specs.Lines.{called, line_of}
use Rattle.clap.specs.Walk.{Row}
use Rattle.view_command.specs.Orders.{AreWrongWords, AsksForNothing, EndsBefore, IsDiff, IsDump, IsNoKind, IsNoLimit, IsNoRun, IsNoTick, IsNoWidth, IsOfBoth, other_of, ran_of, states_of, table_of, trace_of}
use Rattle.view_command.specs.Pages.{IsPageTold}
use Rattle.view_command.specs.States.{IsUntouched, State}
use Rattle.view_command.specs.Texts.{AreStatesAsked, IsLateIn, IsLateLine, IsRefusedIn, IsRefusedLine, IsRefusedRowIn, IsRefusedTableIn, IsTableAsked, IsTraceIn}
use Rattle.command_words.specs.declared.failure.Failure.{Failure}
use Rattle.command_words.specs.declared.failure.Failure.TheVariants.{Refused, Usage}
use Rattle.view_command.specs.declared.views.Outcome.{Outcome}
use Rattle.view_command.specs.declared.views.Outcome.TheVariants.{Shown, Found}
use Rattle.view_command.specs.declared.refusal.Refusal.{Refusal}
use Rattle.view_command.specs.declared.refusal.Refusal.TheVariants.{Open, Read, Line, Late, TooMany, Crowded, Table, NoRow, Foreign, Unknown, Memory, Write}

-- ---- why a trace is not shown; memory may run out at every step

-- the text of the reader, which has this name, is not read to its end, or not taken as the trace of such a run
abbrev pub IsUnread : Option (List ℕ) → Option ℕ → List ℕ → Refusal → Type 0
IsUnread text ran name (Read shown) = string_bytes shown ≡ name
IsUnread text ran name (Line number shown) = (string_bytes shown ≡ name) × IsRefusedLine text number
IsUnread text ran name (Late number shown) = (string_bytes shown ≡ name) × IsLateLine text ran number
IsUnread text ran name TooMany = Unit {0}
IsUnread text ran name (Crowded shapes from until elements) = Unit {0}
IsUnread text ran name (Foreign partition) = Unit {0}
IsUnread text ran name (Unknown line) = Unit {0}
IsUnread text ran name Memory = Unit {0}
IsUnread text ran name _ = ⊥

-- The trace of this name, of a run of `ran` ticks if that is known, is not shown. A text that is not
-- opened is noted; a line is refused if it is the first that is no line of a trace there, or the first
-- of a tick that the run did not have; only a whole trace is written, and that write failed.
abbrev pub IsRefused : Option Contents → Option ℕ → List ℕ → State → State → Refusal → Type 0
IsRefused texts ran name before after Write = HasFailed before.out after.out × (after.unopened ≡ before.unopened) × IsTraceIn texts ran name
IsRefused texts ran name before after (Open shown) = (after.out ≡ before.out) × (string_bytes shown ≡ called name) × (after.unopened ≡ before.unopened ++ name ∷ [])
IsRefused texts ran name before after (Read shown) = IsUntouched before after × (string_bytes shown ≡ called name)
IsRefused texts ran name before after (Line number shown) = IsUntouched before after × (string_bytes shown ≡ called name) × IsRefusedIn texts name number
IsRefused texts ran name before after (Late number shown) = IsUntouched before after × (string_bytes shown ≡ called name) × IsLateIn texts ran name number
IsRefused texts ran name before after TooMany = IsUntouched before after
IsRefused texts ran name before after (Crowded shapes from until elements) = IsUntouched before after
IsRefused texts ran name before after (Foreign partition) = IsUntouched before after
IsRefused texts ran name before after (Unknown line) = IsUntouched before after
IsRefused texts ran name before after (Table fault shown) = ⊥
IsRefused texts ran name before after (NoRow number shown) = ⊥
IsRefused texts ran name before after Memory = IsUntouched before after

-- The module table of this name is not taken: it is not opened, not read, or breaks a rule.
abbrev pub IsRefusedByTable : Option Contents → List ℕ → State → State → Refusal → Type 0
IsRefusedByTable texts name before after (Open shown) = (after.out ≡ before.out) × (string_bytes shown ≡ called name) × (after.unopened ≡ before.unopened ++ name ∷ [])
IsRefusedByTable texts name before after (Read shown) = IsUntouched before after × (string_bytes shown ≡ called name)
IsRefusedByTable texts name before after (Table fault shown) = IsUntouched before after × (string_bytes shown ≡ called name) × IsRefusedTableIn texts name fault
IsRefusedByTable texts name before after Memory = IsUntouched before after
IsRefusedByTable texts name before after _ = ⊥

abbrev pub IsTableRefused : Option Contents → Option (List ℕ) → State → State → Refusal → Type 0
IsTableRefused texts None before after r = ⊥
IsTableRefused texts (Some name) before after r = IsRefusedByTable texts name before after r

-- The text of states of this name is not taken: it is not opened, not read, or has a line that is no row of a state.
abbrev pub IsRefusedByStates : Option Contents → List ℕ → State → State → Refusal → Type 0
IsRefusedByStates texts name before after (Open shown) = (after.out ≡ before.out) × (string_bytes shown ≡ called name) × (after.unopened ≡ before.unopened ++ name ∷ [])
IsRefusedByStates texts name before after (Read shown) = IsUntouched before after × (string_bytes shown ≡ called name)
IsRefusedByStates texts name before after (NoRow number shown) = IsUntouched before after × (string_bytes shown ≡ called name) × IsRefusedRowIn texts name number
IsRefusedByStates texts name before after Memory = IsUntouched before after
IsRefusedByStates texts name before after _ = ⊥

abbrev pub AreStatesRefused : Option Contents → Option (List ℕ) → State → State → Refusal → Type 0
AreStatesRefused texts None before after r = ⊥
AreStatesRefused texts (Some name) before after r = IsRefusedByStates texts name before after r

-- The trace was read to its end, and could not be read again while its dump was written. A beginning of the dump may be
-- written; the output did not fail.
abbrev pub IsCutShort : Option Contents → Option ℕ → List ℕ → State → State → Refusal → Type 0
IsCutShort texts ran name before after (Read shown) =
    (after.unopened ≡ before.unopened) × (after.out.failures ≡ before.out.failures) × (string_bytes shown ≡ called name) × IsTraceIn texts ran name
IsCutShort texts ran name before after Memory = (after.unopened ≡ before.unopened) × (after.out.failures ≡ before.out.failures) × IsTraceIn texts ran name
IsCutShort texts ran name before after _ = ⊥

abbrev pub IsDumpRefused : Option Contents → Entered → State → State → Refusal → Type 0
IsDumpRefused texts entered before after r = IsDump entered × IsCutShort texts (ran_of entered) (trace_of entered) before after r

-- Two traces are compared, and one of them is not taken.
abbrev pub IsDiffRefused : Option Contents → Entered → State → State → Refusal → Type 0
IsDiffRefused texts entered before after r =
    IsDiff entered × (IsRefused texts None (trace_of entered) before after r ⊎ IsRefused texts None (other_of entered) before after r)

-- The summaries of two traces are shown, and the other one is not taken.
abbrev pub IsOtherRefused : Option Contents → Entered → State → State → Refusal → Type 0
IsOtherRefused texts entered before after r = IsOfBoth entered × IsRefused texts (ran_of entered) (other_of entered) before after r

-- The trace, one of two, the module table or the states are not taken; or a dump is cut short.
abbrev pub IsRefusedOf : Option Contents → Entered → State → State → Refusal → Type 0
IsRefusedOf texts entered before after r =
    IsRefused texts (ran_of entered) (trace_of entered) before after r ⊎ IsDiffRefused texts entered before after r
    ⊎ IsOtherRefused texts entered before after r
    ⊎ IsTableRefused texts (table_of entered) before after r ⊎ IsDumpRefused texts entered before after r
    ⊎ AreStatesRefused texts (states_of entered) before after r

-- Both traces were read to their ends, if they were compared; else the trace was, with no line after the end of its
-- run, and the other one if the summaries of two are shown. So was the module table, if one is asked for, and so were the
-- states, which only one trace that is no dump is shown with.
abbrev pub AreTracesIn : Option Contents → Entered → Type 0
AreTracesIn texts entered =
    (IsDiff entered → IsTraceIn texts None (trace_of entered) × IsTraceIn texts None (other_of entered) × IsTableAsked texts (table_of entered))
    × ((IsDiff entered → ⊥) → IsTraceIn texts (ran_of entered) (trace_of entered) × IsTableAsked texts (table_of entered)
    × (IsDump entered ⊎ IsOfBoth entered ⊎ AreStatesAsked texts (states_of entered)))
    × (IsOfBoth entered → IsTraceIn texts (ran_of entered) (other_of entered))

-- ---- the words, for which the library of command lines reports these errors

-- they are no command
abbrev pub AreNoCommand : Kinds → Entered → Type 0
AreNoCommand kinds entered = AreMistaken kinds ⊎ ((kinds ≡ []) × AsksForNothing entered)

-- the word for a tick is no tick, or memory ran out
abbrev pub IsTickFailure : Option (List ℕ) → Failure Refusal → Type 0
IsTickFailure word (Refused Memory) = Unit {0}
IsTickFailure word (Refused _) = ⊥
IsTickFailure word (Usage error) = IsNoTick word × IsMistake (kind_of error)

-- the word is no number of ticks for which a module runs, or memory ran out
abbrev pub IsRunFailure : Option (List ℕ) → Failure Refusal → Type 0
IsRunFailure word (Refused Memory) = Unit {0}
IsRunFailure word (Refused _) = ⊥
IsRunFailure word (Usage error) = IsNoRun word × IsMistake (kind_of error)

-- no tick is from the first one on and before this end, or memory ran out
abbrev pub IsEndFailure : ℕ → Option ℕ → Failure Refusal → Type 0
IsEndFailure from end (Refused Memory) = Unit {0}
IsEndFailure from end (Refused _) = ⊥
IsEndFailure from end (Usage error) = EndsBefore from end × IsMistake (kind_of error)

-- the word for kinds of lines is none, or memory ran out
abbrev pub IsKindFailure : Option (List ℕ) → Failure Refusal → Type 0
IsKindFailure word (Refused Memory) = Unit {0}
IsKindFailure word (Refused _) = ⊥
IsKindFailure word (Usage error) = IsNoKind word × IsMistake (kind_of error)

-- the word for the width of a picture is none, or memory ran out
abbrev pub IsWidthFailure : Option (List ℕ) → Failure Refusal → Type 0
IsWidthFailure word (Refused Memory) = Unit {0}
IsWidthFailure word (Refused _) = ⊥
IsWidthFailure word (Usage error) = IsNoWidth word × IsMistake (kind_of error)

-- the words of a limit are none, or memory ran out
abbrev pub IsLimitFailure : List (List ℕ) → Failure Refusal → Type 0
IsLimitFailure words (Refused Memory) = Unit {0}
IsLimitFailure words (Refused _) = ⊥
IsLimitFailure words (Usage error) = IsNoLimit words × IsMistake (kind_of error)

-- both traces are the standard input, or memory ran out
abbrev pub IsInputFailure : List ℕ → List ℕ → Failure Refusal → Type 0
IsInputFailure first second (Refused Memory) = Unit {0}
IsInputFailure first second (Refused _) = ⊥
IsInputFailure first second (Usage error) = (first ≡ codes "-") × (second ≡ codes "-") × IsMistake (kind_of error)

-- the words of options are wrong, or memory ran out
abbrev pub IsWordsFailure : List Row → Failure Refusal → Type 0
IsWordsFailure rows (Refused Memory) = Unit {0}
IsWordsFailure rows (Refused _) = ⊥
IsWordsFailure rows (Usage error) = AreWrongWords rows × IsMistake (kind_of error)

-- the words found ask for nothing, or memory ran out
abbrev pub IsNothingAsked : Entered → Failure Refusal → Type 0
IsNothingAsked entered (Refused Memory) = Unit {0}
IsNothingAsked entered (Refused _) = ⊥
IsNothingAsked entered (Usage error) = AsksForNothing entered × IsMistake (kind_of error)

-- why nothing is asked for
abbrev pub IsFailureOfWords : Kinds → Entered → Failure Refusal → Type 0
IsFailureOfWords kinds entered (Refused Memory) = Unit {0}
IsFailureOfWords kinds entered (Refused _) = ⊥
IsFailureOfWords kinds entered (Usage error) = IsAmong (kind_of error) kinds ⊎ ((kinds ≡ []) × AsksForNothing entered × IsMistake (kind_of error))

-- why words are not done
abbrev pub IsFailure : Kinds → Entered → Option Contents → State → State → Failure Refusal → Type 0
IsFailure kinds entered texts before after (Refused r) = ((kinds ≡ []) × IsRefusedOf texts entered before after r) ⊎ ((r ≡ Memory) × IsUntouched before after)
IsFailure kinds entered texts before after (Usage error) = IsUntouched before after × IsFailureOfWords kinds entered (Usage error)

-- ---- the statuses

-- the trace was read to its end, and what was found in it is written and flushed
abbrev pub IsFound : Kinds → Entered → Option Contents → State → State → Type 0
IsFound kinds entered texts before after =
    (after.unopened ≡ before.unopened) × IsFlushed before.out after.out × (kinds ≡ []) × AreTracesIn texts entered

-- the trace was read to its end and its view is written and flushed, or help is, and nothing failed
abbrev pub IsShownOrHelp : Kinds → Entered → Option Contents → State → State → Type 0
IsShownOrHelp kinds entered texts before after =
    (after.unopened ≡ before.unopened) × IsFlushed before.out after.out × (((kinds ≡ []) × AreTracesIn texts entered) ⊎ AskForHelp kinds)

-- the trace is refused, or memory ran out at the words, or help is not written
abbrev pub IsRefusedFor : Kinds → Entered → Option Contents → State → State → Refusal → Type 0
IsRefusedFor kinds entered texts before after r =
    ((kinds ≡ []) × IsRefusedOf texts entered before after r) ⊎ ((r ≡ Memory) × IsUntouched before after)
    ⊎ ((r ≡ Write) × AskForHelp kinds × HasFailed before.out after.out × (after.unopened ≡ before.unopened))

-- With 0 the trace was read to its end and shown, or help is, and standard error is unchanged; with 1 the trace
-- is refused, and standard error has the line of the refusal, if it did not fail; with 2 the words are no command,
-- standard output is unchanged, and what standard error took is flushed, if it did not fail; with 3 the trace was
-- read to its end and has what it may not have, and standard error is unchanged.
pub record IsAnswer (kinds : Kinds) (entered : Entered) (texts : Option Contents) (before after : State) (old_err new_err : Seen) (status : ℕ) : Type 0 where
  pub range : status ≤ 3
  pub done : status ≡ 0 → IsShownOrHelp kinds entered texts before after × (new_err ≡ old_err)
  pub refused : status ≡ 1 → (r : Refusal) × IsRefusedFor kinds entered texts before after r × TakesLine old_err new_err (line_of r)
  pub usage : status ≡ 2 → IsUntouched before after × AreNoCommand kinds entered × IsWritten old_err new_err
  pub found : status ≡ 3 → IsFound kinds entered texts before after × (new_err ≡ old_err)

-- The words ask for a page of the program's own words, and no text is opened; or they ask for none.
abbrev pub IsAnswerTo : Option Page → Kinds → Entered → Option Contents → State → State → Seen → Seen → ℕ → Type 0
IsAnswerTo (Some page) kinds entered texts before after old_err new_err status =
    (after.unopened ≡ before.unopened) × IsPageTold before.out after.out old_err new_err status
IsAnswerTo None kinds entered texts before after old_err new_err status = IsAnswer kinds entered texts before after old_err new_err status

-- ---- the report of an outcome

abbrev pub status_of : Outcome → ℕ
status_of Shown = 0
status_of Found = 3

abbrev pub IsTold : Result Outcome (Failure Refusal) → Seen → Seen → Seen → Seen → ℕ → Type 0
IsTold (Ok done) old_out new_out old_err new_err status = (status ≡ status_of done) × (new_out ≡ old_out) × (new_err ≡ old_err)
IsTold (Err (Refused r)) old_out new_out old_err new_err status = (status ≡ 1) × (new_out ≡ old_out) × TakesLine old_err new_err (line_of r)
IsTold (Err (Usage error)) old_out new_out old_err new_err status = IsUsageTold error (Some (line_of Write)) old_out new_out old_err new_err status
