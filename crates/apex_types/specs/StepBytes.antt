-- How the bytes of the lines of a step are kept.
use Rattle.std.specs.Prelude.{◌≡◌, ◌≤◌, ℕ, List, length}
use Rattle.apex_types.specs.declared.limits.TheConstants.{MOST_STEP_BYTES}

-- Their number is the most that the lines of a step may have, and the first `len` are those of lines.
pub record AreStepBytes (len : ℕ) (bytes : List ℕ) : Type 0 where
  pub whole : length bytes ≡ MOST_STEP_BYTES
  pub within : len ≤ MOST_STEP_BYTES
