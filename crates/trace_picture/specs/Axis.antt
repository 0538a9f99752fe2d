-- The places of ticks on the time axis.
use Rattle.std.specs.Prelude.{ℕ, ◌+◌, ◌-◌, ◌*◌, ◌/◌, max, min}
use Rattle.trace_picture.specs.declared.axis.Axis.{Axis}

-- The place of tick t, in tenths of a pixel: 1500 for the first tick of the axis, 1500 plus the length of the axis for its end, and in
-- proportion between. A tick outside the axis is at the nearer end.
abbrev pub place : Axis → ℕ → ℕ
place a t = 1500 + (min t a.span.until.0 - a.span.from.0) * a.long / max 1 (a.span.until.0 - a.span.from.0)
