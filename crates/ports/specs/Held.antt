-- What a port holds.
use Rattle.std.specs.Prelude.{ℕ, ℤ, Option, Some, None, slice_get}
use Rattle.arrayvec.specs.ArrayVec.{ArrayVec}
use Rattle.kernel_meaning.specs.Objects.{Port}

-- the message of a port that has `before` messages before it, if there is such a port and message
abbrev pub message_behind : ℕ → Option Port → Option (ArrayVec ℤ)
message_behind before None = None
message_behind before (Some x) = slice_get x.messages before
