-- The text written by a step, whatever the step belongs to.
use Rattle.std.specs.Prelude.{◌≡◌, ℕ, ◌+◌, List, Option, Result, Ok, Err}
use Rattle.std.specs.Io.KnownBytes.{Appends}
use Rattle.apex_types.specs.Line.{text_of}
use Rattle.apex_types.specs.Line.{TakesBeginning}
use Rattle.apex_types.specs.declared.event.Event.{Event}
use Rattle.apex_types.specs.declared.identity.At.{At}
use Rattle.apex_types.specs.declared.sink.SinkFault.{SinkFault}
use Rattle.module_meaning.specs.Module.{Stepped, Course}
use Rattle.lone_partition.specs.Sent.{Sent, HasSent}

-- Between two states of an output a step was made, and its lines were to be written.
pub record IsMade {S : Type 0} (a : Stepped S) (now : S) (old new : Sent) : Type 0 where
  pub state : now ≡ a.state
  pub sent : HasSent old new (text_of a.lines)

-- ---- steps that may start the module again, or shut it down

-- the state after such a step, and its lines
abbrev pub done_in : {S : Type 0} → Course S → Stepped S
done_in c = record { state = c.state; lines = c.lines }

-- Between two states of an output such a step was made, and its lines were to be written. The
-- result is the tick with the origin valid from here on, or none.
pub record IsCourse {S : Type 0} (c : Course S) (answer : Option At) (now : S) (old new : Sent) : Type 0 where
  pub at : answer ≡ c.at
  pub made : IsMade (done_in c) now old new

-- ---- a trace

-- The sink has taken the text of these lines; or it failed once, and has taken a prefix of that
-- text.
abbrev pub AreWritten : {X : Type 0} → List Event → Option (List ℕ) → Option (List ℕ) → ℕ → ℕ → Result X SinkFault → Type 0
AreWritten lines old new before after (Ok x) = Appends old new (text_of lines) × (after ≡ before)
AreWritten lines old new before after (Err fault) = TakesBeginning old new (text_of lines) × (after ≡ before + 1)
