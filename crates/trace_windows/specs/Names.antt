-- The partitions of a module table, by their names.
use Rattle.std.specs.Prelude.{ℕ, ◌+◌, if◌then◌else◌, List, [], ◌∷◌, Option, Some, None}
use Rattle.engine_meaning.specs.Digits.{same}

-- the place of the partition with a name, where the first of these has the place n
unfoldable pub place_from : ℕ → List ℕ → List (List ℕ) → Option ℕ
place_from n name [] = None
place_from n name (known ∷ names) = if same known name then Some n else place_from (n + 1) name names

abbrev pub place_in : List ℕ → List (List ℕ) → Option ℕ
place_in name names = place_from 0 name names
