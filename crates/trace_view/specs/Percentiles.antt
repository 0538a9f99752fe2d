-- Times, how often each was taken, and their percentiles.
use Rattle.std.specs.Prelude.{◌≡◌, ◌≢◌, ◌==◌, ℕ, ◌+◌, ◌*◌, ◌-◌, ◌^◌, ◌<◌, ◌≤◌, min, Bool, true, ◌&&◌, nat_le, nat_lt, if◌then◌else◌, List, [], ◌∷◌, length, filter, Option, Some, None, unwrap_or}
use Rattle.std.specs.BTreeMap.{is_at}
use Rattle.std.specs.Map.{lookup}
use Rattle.std.specs.Ordering.{nat_cmp}
use Rattle.trace_view.specs.declared.times.Percentile.{Percentile}
use Rattle.trace_view.specs.declared.times.Percentile.TheVariants as percentile
use Rattle.trace_view.specs.declared.times.Spread.{Spread}
use Rattle.trace_view.specs.declared.tally.Measured.{Measured}
use Rattle.trace_view.specs.declared.tally.Measured.TheVariants as measure

-- ---- percentiles

-- how many of these times are at most `t`
abbrev pub at_most : ℕ → List ℕ → ℕ
at_most t times = length (filter (λ (s : ℕ). nat_le s t) times)

-- The nearest rank: the q-th percentile of some times is the least of them such that at least q of 100 of the times are
-- at most as long. No less number has this. Without times there is none.
abbrev pub IsPercentile : ℕ → List ℕ → Option ℕ → Type 0
IsPercentile q times None = times ≡ []
IsPercentile q times (Some t) =
    (times ≢ []) × (q * length times ≤ 100 * at_most t times) × ((s : ℕ) → s < t → 100 * at_most s times < q * length times)

abbrev pub percent_of : Percentile → ℕ
percent_of percentile.Median = 50
percent_of percentile.NinetyFifth = 95

-- the median and the 95th percentile
abbrev pub IsSpread : List ℕ → Spread → Type 0
IsSpread times s = IsPercentile 50 times s.median × IsPercentile 95 times s.ninety_fifth

-- ---- times with how often each was taken

-- how often times of this kind were taken
abbrev pub count_of : (ℕ → Bool) → List (ℕ × ℕ) → ℕ
count_of kind [] = 0
count_of kind (e ∷ es) = (if kind e.0 then e.1 else 0) + count_of kind es

-- they are these times: of each kind there are as many
abbrev pub AreTimes : List ℕ → List (ℕ × ℕ) → Type 0
AreTimes times entries = (kind : ℕ → Bool) → length (filter kind times) ≡ count_of kind entries

abbrev pub all_of : List (ℕ × ℕ) → ℕ
all_of entries = count_of (λ (s : ℕ). true) entries

-- how often this time was taken
abbrev pub often : ℕ → List (ℕ × ℕ) → ℕ
often t entries = unwrap_or (lookup (is_at (nat_cmp t)) entries) 0

-- each time is above the one before
abbrev pub is_above : ℕ → List (ℕ × ℕ) → Bool
is_above t [] = true
is_above t (e ∷ es) = nat_lt t e.0

abbrev pub are_rising : List (ℕ × ℕ) → Bool
are_rising [] = true
are_rising (e ∷ es) = is_above e.0 es && are_rising es

-- the first time with which this many are taken, in hundredths
abbrev pub reached : ℕ → ℕ → List (ℕ × ℕ) → Option ℕ
reached wanted before [] = None
reached wanted before (e ∷ es) =
    if nat_le wanted (min (before + e.1) (2 ^ 64 - 1) * 100) then Some e.0 else reached wanted (min (before + e.1) (2 ^ 64 - 1)) es

-- the percentile of this many times, taken as these entries say
abbrev pub percentile_of : Percentile → ℕ → List (ℕ × ℕ) → Option ℕ
percentile_of which taken entries = if taken == 0 then None else reached (percent_of which * taken) 0 entries

abbrev pub spread_of : ℕ → List (ℕ × ℕ) → Spread
spread_of taken entries = record { median = percentile_of percentile.Median taken entries; ninety_fifth = percentile_of percentile.NinetyFifth taken entries }

-- ---- response times

-- the times to RUNNING, and one more if it is one
abbrev pub with_running : Measured → List ℕ → List ℕ
with_running (measure.ToRunning time) times = time ∷ times
with_running (measure.ToEnd time) times = times

-- the times to the end, and one more if it is one
abbrev pub with_end : Measured → List ℕ → List ℕ
with_end (measure.ToRunning time) times = times
with_end (measure.ToEnd time) times = time ∷ times
