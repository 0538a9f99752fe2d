-- The state that a command can change, except standard error, at one time.
use Rattle.std.specs.Prelude.{◌≡◌, ℕ, List}
use Rattle.streams.specs.States.{Seen}

-- The names of the texts that were not opened so far, and standard output.
pub record State : Type 0 where
  pub unopened : List (List ℕ)
  pub out : Seen

abbrev pub state : List (List ℕ) → Seen → State
state unopened out = record { unopened = unopened; out = out }

-- no text failed to open, and standard output is unchanged
abbrev pub IsUntouched : State → State → Type 0
IsUntouched before after = (after.unopened ≡ before.unopened) × (after.out ≡ before.out)
