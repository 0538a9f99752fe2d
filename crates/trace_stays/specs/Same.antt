-- Whether two lines are of the same partition.
use Rattle.std.specs.Prelude.{ℕ, Bool, true, false, List, Option, Some, None}
use Rattle.engine_meaning.specs.Digits.{same}

-- both are of the partition with this name, or of the module itself
abbrev pub is_same_partition : Option (List ℕ) → Option (List ℕ) → Bool
is_same_partition None None = true
is_same_partition (Some one) (Some other) = same one other
is_same_partition _ _ = false
