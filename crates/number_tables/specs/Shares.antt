-- Shares of a whole, in tenths of a percent.
use Rattle.std.specs.Prelude.{ℕ, ◌+◌, ◌*◌, ◌/◌, min, ◌==◌, if◌then◌else◌}

-- The share of a part: the nearest one, and of two that are as near the greater. Of nothing each share is 0.
abbrev pub share_of : ℕ → ℕ → ℕ
share_of part whole = if whole == 0 then 0 else (2000 * min part whole + whole) / (2 * whole)
