-- Shares of a whole in tenths of a percent.
use Rattle.std.specs.Prelude.{ℕ, ◌+◌, ◌-◌, ◌*◌, ◌/◌, ◌^◌, min, ◌==◌, if◌then◌else◌}
use Rattle.schedule_load.specs.declared.share.Share.{Share}

-- The share of a part in a whole, in tenths of a percent: the nearest one, and of two that are as near the greater.
-- It may be above 1,000. Of nothing each share is 0. A share that does not fit 64 bits is the greatest that does.
abbrev pub share_of : (part whole : ℕ) → Share
share_of part whole = record { tenths = (if whole == 0 then 0 else min ((2000 * part + whole) / (2 * whole)) (2 ^ 64 - 1)) }
