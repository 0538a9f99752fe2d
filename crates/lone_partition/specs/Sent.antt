-- The bytes that go to a sink, step by step.
use Rattle.std.specs.Prelude.{◌≡◌, ℕ, ◌+◌, Bool, true, false, List, Option}
use Rattle.std.specs.Io.KnownBytes.{Appends}
use Rattle.apex_types.specs.Line.{TakesBeginning}

-- An output between two steps: the buffer and the sink that it lends, the bytes that the sink has
-- taken, its failures, and whether it has failed since the output was made.
pub record Sent : Type 0 where
  pub trace : ℕ
  pub sink : ℕ
  pub taken : Option (List ℕ)
  pub failures : ℕ
  pub failed : Bool

-- Whether the sink had failed before, and whether it has failed now: then it gets nothing more.
-- Otherwise it takes the text; or it fails once, and takes a prefix of it.
abbrev pub Takes : Sent → Sent → List ℕ → (before now : Bool) → Type 0
Takes old new text true true = (new.taken ≡ old.taken) × (new.failures ≡ old.failures)
Takes old new text true false = ⊥
Takes old new text false true = TakesBeginning old.taken new.taken text × (new.failures ≡ old.failures + 1)
Takes old new text false false = Appends old.taken new.taken text × (new.failures ≡ old.failures)

-- Between two states of an output this text was to be written.
pub record HasSent (old new : Sent) (text : List ℕ) : Type 0 where
  pub same_trace : new.trace ≡ old.trace
  pub same_sink : new.sink ≡ old.sink
  pub takes : Takes old new text old.failed new.failed
