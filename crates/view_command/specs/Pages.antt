-- The pages that the program writes about its own words.
use Rattle.std.specs.Prelude.{◌≡◌, ◌≤◌, ℕ, List}
use Rattle.std.specs.Io.KnownBytes.{Appends}
use Rattle.streams.specs.States.{HasFailed, IsFlushed, Seen, TakesLine}
use Rattle.view_command.specs.Lines.{line_of}
use Rattle.view_command.specs.declared.refusal.Refusal.{Refusal}
use Rattle.view_command.specs.declared.refusal.Refusal.TheVariants.{Memory, Write}

-- the page is written and flushed
abbrev pub IsPageWritten : Seen → Seen → Type 0
IsPageWritten old new = IsFlushed old new × (text : List ℕ) × Appends old.taken new.taken text

-- memory ran out before anything was written, or the page was not written whole
abbrev pub IsPageRefused : Seen → Seen → Refusal → Type 0
IsPageRefused old new Memory = new ≡ old
IsPageRefused old new Write = HasFailed old new
IsPageRefused old new _ = ⊥

-- with 0 the page is written, and with 1 it is refused, with the line on standard error, if that did not fail
pub record IsPageTold (old_out new_out old_err new_err : Seen) (status : ℕ) : Type 0 where
  pub range : status ≤ 1
  pub done : status ≡ 0 → IsPageWritten old_out new_out × (new_err ≡ old_err)
  pub refused : status ≡ 1 → (r : Refusal) × IsPageRefused old_out new_out r × TakesLine old_err new_err (line_of r)
