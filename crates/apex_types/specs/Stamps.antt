-- How a tick and its digits are kept, for the lines of this tick.
use Rattle.std.specs.Prelude.{◌≡◌, ◌+◌, ◌*◌, ◌/◌, ◌%◌, ℕ, List, slice_set}
use Rattle.apex_types.specs.Line.{thirteen_digits}
use Rattle.apex_types.specs.declared.text.Stamp.TheInside.{Inside}

-- the last three of the digits are those of this number
abbrev pub with_last_digits : List ℕ → ℕ → List ℕ
with_last_digits digits number = slice_set (slice_set (slice_set digits 10 (48 + number / 100)) 11 (48 + number / 10 % 10)) 12 (48 + number % 10)

-- with the first tick of its thousand, and the digits
pub record IsStamp (s : Inside) : Type 0 where
  pub digits : s.digits ≡ thirteen_digits s.tick.0
  pub from : s.from ≡ 1000 * (s.tick.0 / 1000)
