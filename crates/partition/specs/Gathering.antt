-- Ticks of a partition, one after another, whose lines are gathered.
use Rattle.std.specs.Prelude.{◌≡◌, nat_le, ℕ, zero, suc, ◌+◌, ◌-◌, if◌then◌else◌, List, [], ◌++◌, length}
use Rattle.apex_types.specs.declared.event.Event.{Event}
use Rattle.engine_meaning.specs.Engine.{Engine}
use Rattle.kernel_meaning.specs.Partition.{World, tick}
use Rattle.kernel_meaning.specs.Windows.{tick_from}
use Rattle.kernel_laws.specs.Bursts.{Burst}
use Rattle.partition.specs.declared.rooms.TheConstants.{LINES_FOR_TICK}

-- no tick at all
abbrev pub no_ticks : {C : Type 0} → World C → ℕ → Burst (World C) ℕ (List Event)
no_ticks w t = record { control = w; words = t; told = []; ticks = 0 }

-- ticks that follow n others, which wrote these lines
abbrev pub joined : {C : Type 0} → List Event → ℕ → Burst (World C) ℕ (List Event) → Burst (World C) ℕ (List Event)
joined lines n b = record { control = b.control; words = b.words; told = lines ++ b.told; ticks = n + b.ticks }

-- n ticks of a partition from tick `t` on, with the lines of all of them: or fewer, once there is
-- less room for lines than a tick may need
abbrev pub ticks_within : {C : Type 0} → Engine C → (origin room : ℕ) → ℕ → World C → ℕ → Burst (World C) ℕ (List Event)
ticks_within e origin room zero w t = no_ticks w t
ticks_within e origin room (suc n) w t =
    let m = tick e (tick_from origin t) w in
    if nat_le LINES_FOR_TICK room then joined m.lines 1 (ticks_within e origin (room - length m.lines) n m.world (t + 1)) else no_ticks w t

-- n ticks write these lines and lead from one world to another, whatever ticks follow.
abbrev pub Gathers : {C : Type 0} → Engine C → (origin room : ℕ) → World C → (t n : ℕ) → List Event → World C → Type 0
Gathers e origin room w t n lines v = (m : ℕ) → ticks_within e origin room (n + m) w t ≡ joined lines n (ticks_within e origin (room - length lines) m v (t + n))
