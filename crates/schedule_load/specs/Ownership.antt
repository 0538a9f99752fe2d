-- Whose each tick of the frame is, and how many ticks there are of each partition.
use Rattle.std.specs.Prelude.{ℕ, zero, suc, ◌+◌, ◌-◌, ◌*◌, ◌/◌, min, max, Bool, true, false, ◌==◌, if◌then◌else◌, Option, Some, None, count_by}
use Rattle.std.specs.List.{range_with_len}
use Rattle.kernel_meaning.specs.Windows.{Schedule, owner, tick_from}

-- the owner of a tick of the frame: the partition of the window that has it, or none
abbrev pub owner_at : Schedule → ℕ → Option ℕ
owner_at s tick = owner s (tick_from 0 tick)

-- whether the owner is this partition; without a partition, whether there is no owner
abbrev pub is_of : Option ℕ → Option ℕ → Bool
is_of (Some partition) (Some owner) = partition == owner
is_of None None = true
is_of _ _ = false

-- how many of the ticks from `low` up to `high` this partition owns; without a partition, how many have no owner
unfoldable pub ticks_of : Schedule → Option ℕ → (low high : ℕ) → ℕ
ticks_of s who low high = count_by (λ tick. is_of who (owner_at s tick)) (range_with_len low (high - low))

-- the ticks that a partition owns in one of its periods, which are numbered from 0
abbrev pub offered_in : Schedule → (partition period k : ℕ) → ℕ
offered_in s partition period k = ticks_of s (Some partition) (k * period) ((k + 1) * period)

-- the least that is offered in one of the first `n` periods; all of a period, if there is none
unfoldable pub least_offered : Schedule → (partition period : ℕ) → ℕ → ℕ
least_offered s partition period zero = period
least_offered s partition period (suc n) = min (offered_in s partition period n) (least_offered s partition period n)

-- the most that is offered in one of the first `n` periods
unfoldable pub most_offered : Schedule → (partition period : ℕ) → ℕ → ℕ
most_offered s partition period zero = 0
most_offered s partition period (suc n) = max (offered_in s partition period n) (most_offered s partition period n)

-- how many periods a frame has
abbrev pub periods_of : (frame period : ℕ) → ℕ
periods_of frame period = if period == 0 then 0 else frame / period
