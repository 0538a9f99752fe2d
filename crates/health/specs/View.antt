-- The view of the fields of the errors, and their invariants.
use Rattle.std.specs.Prelude.{◌≤◌, length}
use Rattle.apex_types.specs.Limits.{MOST_ERRORS}
use Rattle.kernel_meaning.specs.Kernel as meaning
use Rattle.health.specs.declared.errors.Errors.TheInside as errors

abbrev pub errors_of : errors.Inside → meaning.Errors
errors_of x = record { has_handler = x.has_handler; waiting = x.waiting.items }

-- no more errors than may wait, and memory for that number of them
pub record HasRing (x : errors.Inside) : Type 0 where
  pub few : length x.waiting.items ≤ MOST_ERRORS
  pub room : MOST_ERRORS ≤ x.waiting.capacity
