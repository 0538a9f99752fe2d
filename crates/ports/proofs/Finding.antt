-- A port by its place.
use Rattle.std.proofs.Common.{◌≡◌, ◌<◌, ℕ, zero, suc, List, [], ◌∷◌, length, refl, arith}
use Rattle.std.specs.Prelude.{Some, slice_get, slice_index_or}
use Rattle.kernel_meaning.specs.Objects.{placed}

there : {X : Type 0} (xs : List X) (place : ℕ) (x : X) → place < length xs → slice_get xs place ≡ Some (slice_index_or xs place x)
there [] place x h = absurd (omega arith)
there (y ∷ xs) zero x h = refl
there (y ∷ xs) (suc place) x h = there xs place x (omega arith)

pub placed_there : {X : Type 0} (xs : List X) (number place : ℕ) (x : X) → place < length xs → placed number (slice_get xs place) ≡ Some (number, slice_index_or xs place x)
placed_there xs number place x h = rw (there xs place x h) refl

pub ruleset finding = (placed_there)
