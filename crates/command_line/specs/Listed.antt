-- When a text was written into a sink.
use Rattle.std.specs.Prelude.{◌≡◌, ℕ, ◌+◌, List, Option, Result, Ok, Err}
use Rattle.std.specs.Io.KnownBytes.{Appends}
use Rattle.apex_types.specs.Line.{TakesBeginning}
use Rattle.apex_types.specs.declared.sink.SinkFault.{SinkFault}
use Rattle.streams.specs.States.{HasFailed, IsFlushed, Seen}

-- Between two states of a sink this text was written. If the sink failed, a beginning of the text
-- was.
abbrev pub IsListed : {X : Type 0} → List ℕ → Option (List ℕ) → Option (List ℕ) → ℕ → ℕ → Result X SinkFault → Type 0
IsListed text old new before after (Ok x) = Appends old new text × (after ≡ before)
IsListed text old new before after (Err fault) = TakesBeginning old new text × (after ≡ before + 1)

-- the same of a stream, which is flushed at the end
abbrev pub IsShown : {X : Type 0} → List ℕ → Seen → Seen → Result X SinkFault → Type 0
IsShown text old new (Ok x) = Appends old.taken new.taken text × IsFlushed old new
IsShown text old new (Err fault) = TakesBeginning old.taken new.taken text × HasFailed old new
