-- The exit status of a command that is done.
use Rattle.std.specs.Prelude.{ℕ, Bool, true, false}
use Rattle.command_line.specs.declared.outcome.Outcome.{Outcome}
use Rattle.command_line.specs.declared.outcome.Outcome.TheVariants.{Usual, Remarkable}

abbrev pub is_remarkable : Outcome → Bool
is_remarkable Usual = false
is_remarkable Remarkable = true

abbrev pub status_of : Outcome → ℕ
status_of Usual = 0
status_of Remarkable = 3
