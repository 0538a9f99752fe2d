-- The meaning of each exit status of a command.
use Rattle.std.specs.Prelude.{◌≡◌, ◌⊎◌, ◌≤◌, ℕ, Bool, false, [], Option, Some, None, Result, Ok, Err}
use Rattle.clap.specs.Kinds.{Kinds}
use Rattle.command_words.specs.Kinds.{AreMistaken, AskForHelp}
use Rattle.command_words.specs.Told.{IsUsageTold}
use Rattle.command_words.specs.declared.page.Page.{Page}
use Rattle.streams.specs.States.{HasFailed, IsWritten, Seen, TakesText}
use Rattle.command_line.specs.Done.{IsDone, IsRemarkable}
use Rattle.command_line.specs.Ends.{AnswersWords, IsWell}
use Rattle.command_line.specs.Explained.{told_text}
use Rattle.command_line.specs.Lines.{line_of}
use Rattle.command_line.specs.Orders.{Order}
use Rattle.command_line.specs.Outcomes.{status_of}
use Rattle.command_line.specs.declared.outcome.Outcome.{Outcome}
use Rattle.command_line.specs.Pages.{IsPageTold}
use Rattle.command_line.specs.Refusals.{HasWrongWord}
use Rattle.command_line.specs.States.{IsUntouched, State}
use Rattle.command_line.specs.declared.explaining.Note.{Note}
use Rattle.command_words.specs.declared.failure.Failure.{Failure}
use Rattle.command_words.specs.declared.failure.Failure.TheVariants.{Refused, Usage}
use Rattle.command_line.specs.declared.refusal.Refusal.{Refusal}
use Rattle.command_line.specs.declared.refusal.Refusal.TheVariants.{Memory, Write}

-- the words are no command, or one of them is wrong: a word for ticks that gives no number, or a word that is only `-`
abbrev pub AreNoCommand : Kinds → Order → Type 0
AreNoCommand kinds order = AreMistaken kinds ⊎ ((kinds ≡ []) × HasWrongWord order)

-- ---- the statuses

-- the order is done, or help is shown; all that was written is flushed, and nothing failed
abbrev pub IsDoneOrHelp : Kinds → Order → State → State → Type 0
IsDoneOrHelp kinds order before after =
    IsWell before after × (((kinds ≡ []) × IsDone order before after) ⊎ (AskForHelp kinds × (after.files ≡ before.files)))

-- the order is refused, or help is not written; a file is named exactly if it was not read or not written
abbrev pub IsRefusedFor : Kinds → Order → State → State → Refusal → Type 0
IsRefusedFor kinds order before after r =
    AnswersWords kinds order before after (Err (Refused r))
    ⊎ ((r ≡ Write) × AskForHelp kinds × HasFailed before.out after.out × (after.files ≡ before.files) × (after.failed ≡ before.failed))

-- A refusal is explained only if the words ask for an explanation; and if they are a command, exactly then, unless memory ran out.
abbrev pub IsExplainedFor : Kinds → Bool → Refusal → Bool → Type 0
IsExplainedFor kinds asked Memory explained = asked ≡ false → explained ≡ false
IsExplainedFor kinds asked r explained = (asked ≡ false → explained ≡ false) × (kinds ≡ [] → explained ≡ asked)

-- unless it failed, standard error has the line of the refusal, followed by an explanation if the words ask for one
abbrev pub IsRefusalTold : Kinds → Bool → Seen → Seen → Refusal → Type 0
IsRefusalTold kinds asked old_err new_err r = (explained : Bool) × (note : Note) × IsExplainedFor kinds asked r explained × TakesText old_err new_err (told_text explained r note)

-- With 0 the order is done, and standard error is unchanged; with 1 it is refused, and standard error has
-- the line of the refusal, with an explanation if that was asked for; with 2 the words are no command, neither files nor standard output were
-- touched, and what standard error took is flushed, if it did not fail; with 3 the order is done as with 0, and something is found. A
-- file is named exactly if it was not read or not written.
pub record IsAnswer (kinds : Kinds) (order : Order) (asked : Bool) (before after : State) (old_err new_err : Seen) (status : ℕ) : Type 0 where
  pub range : status ≤ 3
  pub done : status ≡ 0 → IsDoneOrHelp kinds order before after × (new_err ≡ old_err)
  pub refused : status ≡ 1 → (r : Refusal) × IsRefusedFor kinds order before after r × IsRefusalTold kinds asked old_err new_err r
  pub usage : status ≡ 2 → IsUntouched before after × (after.failed ≡ before.failed) × AreNoCommand kinds order × IsWritten old_err new_err
  pub remarkable : status ≡ 3 → (IsWell before after × (kinds ≡ []) × IsRemarkable order before after) × (new_err ≡ old_err)

-- The words ask for a page of the program's own words, and no file is touched; or they ask for none.
abbrev pub IsAnswerTo : Option Page → Kinds → Order → Bool → State → State → Seen → Seen → ℕ → Type 0
IsAnswerTo (Some page) kinds order asked before after old_err new_err status =
    (after.files ≡ before.files) × (after.failed ≡ before.failed) × IsPageTold before.out after.out old_err new_err status
IsAnswerTo None kinds order asked before after old_err new_err status = IsAnswer kinds order asked before after old_err new_err status

-- ---- the report of an outcome

abbrev pub IsTold : Result Outcome (Failure Refusal) → Bool → Note → Seen → Seen → Seen → Seen → ℕ → Type 0
IsTold (Ok outcome) asked note old_out new_out old_err new_err status = (status ≡ status_of outcome) × (new_out ≡ old_out) × (new_err ≡ old_err)
IsTold (Err (Refused r)) asked note old_out new_out old_err new_err status = (status ≡ 1) × (new_out ≡ old_out) × TakesText old_err new_err (told_text asked r note)
IsTold (Err (Usage error)) asked note old_out new_out old_err new_err status = IsUsageTold error (Some (line_of Write)) old_out new_out old_err new_err status
