-- The state of a stream at one time, and the bytes that it takes.
use Rattle.std.specs.Prelude.{◌≡◌, ◌⊎◌, ◌+◌, ℕ, Bool, true, List, [], ◌∷◌, ◌++◌, Option}
use Rattle.std.specs.Io.KnownBytes.{Appends}

-- The bytes that it has taken, if they are known; its failures so far; and whether all that it took
-- was flushed.
pub record Seen : Type 0 where
  pub taken : Option (List ℕ)
  pub failures : ℕ
  pub is_flushed : Bool

abbrev pub seen : {S : Type 0} → (S → Option (List ℕ)) → (S → ℕ) → (S → Bool) → S → Seen
seen taken failures is_flushed s = record { taken = taken s; failures = failures s; is_flushed = is_flushed s }

-- it did not fail between the two times, and all that it took was flushed
abbrev pub IsFlushed : Seen → Seen → Type 0
IsFlushed old new = (new.failures ≡ old.failures) × (new.is_flushed ≡ true)

-- it failed between the two times, once
abbrev pub HasFailed : Seen → Seen → Type 0
HasFailed old new = new.failures ≡ old.failures + 1

-- all that it took was flushed, or it failed
abbrev pub IsWritten : Seen → Seen → Type 0
IsWritten old new = IsFlushed old new ⊎ HasFailed old new

-- it has taken this text and flushed it, or it failed
abbrev pub TakesText : Seen → Seen → List ℕ → Type 0
TakesText old new text = (IsFlushed old new × Appends old.taken new.taken text) ⊎ HasFailed old new

-- it has taken this line and flushed it, or it failed
abbrev pub TakesLine : Seen → Seen → List ℕ → Type 0
TakesLine old new line = TakesText old new (line ++ 10 ∷ [])
