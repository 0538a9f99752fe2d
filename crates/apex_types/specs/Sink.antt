-- When a write to a sink counts as a failure.
use Rattle.std.specs.Prelude.{ℕ, List, length, not, ◌&&◌, ◌==◌, if◌then◌else◌, Result, Ok, Err}

-- the number of failures in a result: an error is one, and so is taking none of a nonempty offer
abbrev pub failures_of : {E : Type 0} → Result ℕ E → List ℕ → ℕ
failures_of (Ok count) bytes = if (count == 0) && not (length bytes == 0) then 1 else 0
failures_of (Err fault) bytes = 1
