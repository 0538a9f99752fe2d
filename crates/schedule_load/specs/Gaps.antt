-- The gaps of the frame: its runs of ticks that no partition owns, each as long as it can be.
use Rattle.std.specs.Prelude.{ℕ, zero, suc, ◌+◌, ◌-◌, ◌==◌, is_none, if◌then◌else◌, Option, Some, None, List, [], ◌∷◌, ◌++◌}
use Rattle.kernel_meaning.specs.Windows.{Schedule}
use Rattle.schedule_load.specs.Ownership.{owner_at}
use Rattle.schedule_load.specs.declared.unowned.Gap.{Gap}

-- the gap of `begun` ticks that ends before a tick; none without ticks
abbrev pub gap_before : (begun tick : ℕ) → List Gap
gap_before begun tick = if begun == 0 then [] else record { from = tick - begun; ticks = begun } ∷ []

-- the gaps that end where a stretch of ticks of this owner begins, and what has begun after the stretch
abbrev pub closed : (begun tick : ℕ) → Option ℕ → List Gap
closed begun tick None = []
closed begun tick (Some owner) = gap_before begun tick

abbrev pub still_open : (begun ticks : ℕ) → Option ℕ → ℕ
still_open begun ticks None = begun + ticks
still_open begun ticks (Some owner) = 0

-- the gaps that end in the `n` ticks from `tick` on, where the `begun` ticks before `tick` are of a gap
unfoldable pub gaps_from : Schedule → (begun tick n : ℕ) → List Gap
gaps_from s begun tick zero = gap_before begun tick
gaps_from s begun tick (suc n) = if is_none (owner_at s tick) then gaps_from s (begun + 1) (tick + 1) n else gap_before begun tick ++ gaps_from s 0 (tick + 1) n

-- the gaps of the frame
abbrev pub gaps_of : Schedule → List Gap
gaps_of s = gaps_from s 0 0 s.frame
