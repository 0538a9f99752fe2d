-- The place, from 0, of what is numbered from 1.
use Rattle.std.specs.Prelude.{ℕ, zero, suc, Option, Some, None}

abbrev pub place_of_number : ℕ → Option ℕ
place_of_number zero = None
place_of_number (suc place) = Some place
