-- Objects by their places.
use Rattle.std.specs.Prelude.{ℕ, List, Option, Some, None, slice_get}
use Rattle.kernel_meaning.specs.Objects.{placed}

-- the object at a place, if a place is given
abbrev pub placed_in : {X : Type 0} → List X → Option ℕ → Option (ℕ × X)
placed_in xs None = None
placed_in xs (Some place) = placed place (slice_get xs place)
