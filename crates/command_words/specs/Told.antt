-- The report on words that are no command, or that ask for help.
use Rattle.std.specs.Prelude.{◌≡◌, ◌⊎◌, ◌<◌, ◌-◌, ◌^◌, ℕ, List, Option, Result, Err, IfSome}
use Rattle.clap.specs.Values.{kind_of}
use Rattle.clap.specs.declared.error.Error.{Error}
use Rattle.streams.specs.States.{HasFailed, IsFlushed, IsWritten, Seen, TakesLine}
use Rattle.command_words.specs.Kinds.{IsHelp, IsMistake}
use Rattle.command_words.specs.declared.failure.Failure.{Failure}
use Rattle.command_words.specs.declared.failure.Failure.TheVariants.{Usage}

-- if help is not written, standard error has the line `unwritten`, if it did not fail
pub record IsUsageTold (error : Error) (unwritten : Option (List ℕ)) (old_out new_out old_err new_err : Seen) (status : ℕ) : Type 0 where
  pub mistake : IsMistake (kind_of error) → (status ≡ 2) × (new_out ≡ old_out) × IsWritten old_err new_err
  pub help : IsHelp (kind_of error) → ((status ≡ 0) × IsFlushed old_out new_out × (new_err ≡ old_err)) ⊎ ((status ≡ 1) × HasFailed old_out new_out × IfSome unwritten (TakesLine old_err new_err))

-- a stream with this number of failures can count one more, for the help that it is to take
abbrev pub CanTakeHelp : {T R : Type 0} → Result T (Failure R) → ℕ → Type 0
CanTakeHelp (Err (Usage error)) failures = failures < 2 ^ 64 - 1
CanTakeHelp _ failures = Unit {0}
