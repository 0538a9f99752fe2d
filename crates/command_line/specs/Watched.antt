-- What a watcher of a command is told.
use Rattle.std.specs.Prelude.{◌≡◌, ℕ}
use Rattle.std.specs.Str.Parse.{digits_value}
use Rattle.module.specs.Watched.{IsFollowed, Told}
use Rattle.command_line.specs.Orders.{Order, Run, Inputs}

-- Of a run, or of the run that brings a partition its inputs, how far it is: in rising order, and no more than all of its ticks. Of another command
-- nothing.
abbrev pub IsWatched : Order → Told → Told → Type 0
IsWatched (Run image devices ticks until) before after = IsFollowed (digits_value 10 ticks) (digits_value 10 ticks) before after
IsWatched (Inputs image partition devices ticks) before after = IsFollowed (digits_value 10 ticks) (digits_value 10 ticks) before after
IsWatched order before after = after ≡ before
