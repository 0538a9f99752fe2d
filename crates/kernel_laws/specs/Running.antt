-- Many ticks of a partition together: `n` of them, or those up to the first that writes a line.
use Rattle.std.specs.Prelude.{◌≡◌, ℕ, ◌+◌, ◌-◌, ℤ, Bool, true, false, if◌then◌else◌, List, [], ◌∷◌, Option, slice_set}
use Rattle.apex_types.specs.Runners.{place_of}
use Rattle.apex_types.specs.declared.event.Event.{Event}
use Rattle.apex_types.specs.declared.identity.Runner.{Runner}
use Rattle.engine_meaning.specs.Engine.{Engine, Asks}
use Rattle.kernel_meaning.specs.Partition.{World, Moved, tick, moved, treats_asked, given, ticked, control_at}
use Rattle.kernel_meaning.specs.Windows.{tick_from}
use Rattle.kernel_laws.specs.Bursts.{Told, Burst, later, until, burst}

abbrev pub is_silent : List Event → Bool
is_silent [] = true
is_silent (e ∷ es) = false

-- a tick of a partition, and the tick that comes next
abbrev pub partition_tick : {C : Type 0} → Engine C → (origin : ℕ) → World C → ℕ → Told (World C) ℕ (List Event)
partition_tick e origin w t = let m = tick e (tick_from origin t) w in record { control = m.world; words = t + 1; told = m.lines }

-- n ticks of a partition from tick `t`, or those up to the first with a line
abbrev pub advances_by : {C : Type 0} → Engine C → (origin : ℕ) → ℕ → World C → ℕ → Burst (World C) ℕ (List Event)
advances_by e origin n w t = until is_silent [] (partition_tick e origin) n w t

-- the world with another control of p, and other data
abbrev pub with_control : {C : Type 0} → World C → Runner → Option C → List ℤ → World C
with_control w p control words = record { kernel = w.kernel; controls = slice_set w.controls (place_of p) control; words = words; initial = w.initial }

-- the burst of the current runner
abbrev pub burst_of : {C : Type 0} → Engine C → ℕ → Runner → World C → Burst (Option C) (List ℤ) Asks
burst_of e n p w = burst (ticked e) n (control_at w.controls (place_of p)) w.words

-- The ticks of a partition from tick `t`, whatever ticks follow: they lead to this world, write
-- these lines, and number `l.ticks`.
abbrev pub Goes : {C : Type 0} → Engine C → (origin : ℕ) → World C → ℕ → Burst (World C) ℕ (List Event) → Type 0
Goes e origin w t l = (m : ℕ) → advances_by e origin (l.ticks + m) w t ≡ (if is_silent l.told then later l.ticks (advances_by e origin m l.control l.words) else l)

-- the last request of p is treated
abbrev pub treated_at : {C : Type 0} → Engine C → (origin : ℕ) → Runner → World C → ℕ → Burst (Option C) (List ℤ) Asks → Moved C
treated_at e origin p w t b = moved (tick_from origin t) e (treats_asked (tick_from origin t) w.kernel p b.told (given b.told b.words)) (with_control w p b.control b.words)

-- a burst of p from a tick on, as one of the partition
abbrev pub lifted : {C : Type 0} → Engine C → (origin : ℕ) → Runner → World C → ℕ → Burst (Option C) (List ℤ) Asks → Burst (World C) ℕ (List Event)
lifted e origin p w t b =
    let m = treated_at e origin p w (t + b.ticks - 1) b in
    record { control = m.world; words = t + b.ticks; told = m.lines; ticks = b.ticks }
