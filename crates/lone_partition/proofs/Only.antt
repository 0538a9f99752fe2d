-- A memory that has one part.
use Rattle.lone_partition.proofs.Prelude.{◌≡◌, List, [], ◌∷◌, Some, slice_get, none-some, same_Some, Space, only_part}

-- the only part of the memory is the part that is lent
pub only_lent : (memory : List Space) (s : Space) → slice_get memory 0 ≡ Some s → only_part memory ≡ s
only_lent [] s e = absurd (none-some s e)
only_lent (t ∷ ts) s e = same_Some t s e
