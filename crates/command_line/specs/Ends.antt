-- How an order ends between two states, and with which result. If it is done, all that was written is flushed, and no file
-- failed. If it is refused, then for a true reason, and the file that the refusal names failed.
use Rattle.std.specs.Prelude.{◌≡◌, ◌⊎◌, ℕ, Bool, false, List, [], Result, Ok, Err}
use Rattle.clap.specs.Kinds.{Kinds, IsAmong}
use Rattle.clap.specs.Values.{kind_of}
use Rattle.clap.specs.declared.error.kind.ErrorKind.TheVariants.{ValueValidation}
use Rattle.command_words.specs.declared.failure.Failure.{Failure}
use Rattle.command_words.specs.declared.failure.Failure.TheVariants.{Refused, Usage}
use Rattle.module.specs.States.{Wanted}
use Rattle.streams.specs.States.{IsFlushed}
use Rattle.command_line.specs.Done.{AreInputsDone, IsDoneWith, IsReplayDone, IsNamedStateDone, IsRunDone, IsStateDone}
use Rattle.command_line.specs.Orders.{Order}
use Rattle.command_line.specs.Refusals.{AreInputsRefused, HasWrongWord, IsRefused, IsReplayRefused, IsNamedStateRefused, IsRunRefused, IsStateRefused}
use Rattle.command_line.specs.States.{IsUntouched, State}
use Rattle.command_line.specs.Told.{IsOfFailed}
use Rattle.command_line.specs.declared.outcome.Outcome.{Outcome}
use Rattle.command_line.specs.declared.outcome.Outcome.TheVariants.{Usual, Remarkable}
use Rattle.command_line.specs.declared.refusal.Refusal.{Refusal}
use Rattle.command_line.specs.declared.refusal.Refusal.TheVariants.{Memory}

-- all that was written is flushed, and no file failed
abbrev pub IsWell : State → State → Type 0
IsWell before after = IsFlushed before.out after.out × (after.failed ≡ before.failed)

abbrev pub Ends : Order → State → State → Result Outcome Refusal → Type 0
Ends order before after (Ok outcome) = IsDoneWith outcome order before after × IsWell before after
Ends order before after (Err r) = IsRefused order before after r × IsOfFailed before.failed after.failed r

-- ---- commands that run n ticks

abbrev pub EndsRun : List ℕ → List ℕ → List (List ℕ) → ℕ → State → State → Result Outcome Refusal → Type 0
EndsRun image devices until n before after (Ok outcome) = IsRunDone image devices until n outcome before after × IsWell before after
EndsRun image devices until n before after (Err r) = IsRunRefused image devices until n before after r × IsOfFailed before.failed after.failed r

abbrev pub EndsReplay : List ℕ → List ℕ → List ℕ → ℕ → State → State → Result Outcome Refusal → Type 0
EndsReplay image partition inputs n before after (Ok Usual) = IsReplayDone image partition inputs n before after × IsWell before after
EndsReplay image partition inputs n before after (Ok Remarkable) = ⊥
EndsReplay image partition inputs n before after (Err r) = IsReplayRefused image partition inputs n before after r × IsOfFailed before.failed after.failed r

abbrev pub EndsInputs : List ℕ → List ℕ → List ℕ → ℕ → State → State → Result Outcome Refusal → Type 0
EndsInputs image partition devices n before after (Ok Usual) = AreInputsDone image partition devices n before after × IsWell before after
EndsInputs image partition devices n before after (Ok Remarkable) = ⊥
EndsInputs image partition devices n before after (Err r) = AreInputsRefused image partition devices n before after r × IsOfFailed before.failed after.failed r

abbrev pub EndsState : List ℕ → List ℕ → Wanted → ℕ → State → State → Result Outcome Refusal → Type 0
EndsState image devices wanted n before after (Ok outcome) = IsStateDone image devices wanted n outcome before after × IsWell before after
EndsState image devices wanted n before after (Err r) = IsStateRefused image devices wanted n before after r × IsOfFailed before.failed after.failed r

abbrev pub EndsNamed : List ℕ → List (List ℕ) → List ℕ → Wanted → ℕ → State → State → Result Outcome Refusal → Type 0
EndsNamed table sources devices wanted n before after (Ok Usual) = IsNamedStateDone table sources devices wanted n before after × IsWell before after
EndsNamed table sources devices wanted n before after (Ok Remarkable) = ⊥
EndsNamed table sources devices wanted n before after (Err r) = IsNamedStateRefused table sources devices wanted n before after r × IsOfFailed before.failed after.failed r

-- ---- words

-- the order of words that the library of command lines takes
abbrev pub Answers : Order → State → State → Result Outcome (Failure Refusal) → Type 0
Answers order before after (Ok outcome) = Ends order before after (Ok outcome)
Answers order before after (Err (Refused r)) = Ends order before after (Err r)
Answers order before after (Err (Usage error)) = IsUntouched before after × (after.failed ≡ before.failed) × HasWrongWord order × (kind_of error ≡ ValueValidation)

-- The order of words for which the library reports the errors `kinds`. If they are not done, memory ran out, or there is one of
-- these errors, or there are none, and their order is not done.
abbrev pub AnswersWords : Kinds → Order → State → State → Result Outcome (Failure Refusal) → Type 0
AnswersWords kinds order before after (Ok outcome) = (kinds ≡ []) × Ends order before after (Ok outcome)
AnswersWords kinds order before after (Err (Refused Memory)) = Ends order before after (Err Memory)
AnswersWords kinds order before after (Err (Refused r)) = (kinds ≡ []) × Ends order before after (Err r)
AnswersWords kinds order before after (Err (Usage error)) =
    IsUntouched before after × (after.failed ≡ before.failed) × (IsAmong (kind_of error) kinds ⊎ ((kinds ≡ []) × HasWrongWord order × (kind_of error ≡ ValueValidation)))

-- What is noted of words that ask for an explanation of a refusal, or do not: exactly this, once they are read as a command. If
-- memory ran out, this may have been before.
abbrev pub NotesAsked : Kinds → Bool → Result Outcome (Failure Refusal) → Bool → Type 0
NotesAsked kinds asks (Ok outcome) noted = noted ≡ asks
NotesAsked kinds asks (Err (Refused Memory)) noted = asks ≡ false → noted ≡ false
NotesAsked kinds asks (Err (Refused r)) noted = noted ≡ asks
NotesAsked kinds asks (Err (Usage error)) noted = kinds ≡ [] → noted ≡ asks

abbrev pub as_answer : Result Outcome Refusal → Result Outcome (Failure Refusal)
as_answer (Ok outcome) = Ok outcome
as_answer (Err r) = Err (Refused r)
