-- The pieces of a text that may not be there.
use Rattle.std.specs.Prelude.{ℕ, List, [], Option, Some, None}
use Rattle.module_meaning.specs.DeviceText.{pieces}

-- the pieces of a text; no pieces without a text
abbrev pub pieces_of : ℕ → Option (List ℕ) → List (List ℕ)
pieces_of mark None = []
pieces_of mark (Some text) = pieces mark text
