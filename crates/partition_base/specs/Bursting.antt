-- Ticks of one of the controls, as ticks of all of them.
use Rattle.std.specs.Prelude.{ℕ, ℤ, List, Option, slice_set}
use Rattle.engine_meaning.specs.Engine.{Engine, Asks, Ticked}
use Rattle.kernel_meaning.specs.Partition.{control_at, ticked}
use Rattle.kernel_laws.specs.Bursts.{Burst, burst}

-- one tick of the control at a place; the others are unchanged
abbrev pub tick_at_place : {C : Type 0} → ℕ → List (Option C) → Ticked (Option C) → Ticked (List (Option C))
tick_at_place place controls t = record { control = slice_set controls place t.control; words = t.words; asks = t.asks }

abbrev pub ticked_at : {C : Type 0} → Engine C → ℕ → List (Option C) → List ℤ → Ticked (List (Option C))
ticked_at e place controls words = tick_at_place place controls (ticked e (control_at controls place) words)

-- a burst of the control at a place; the others are unchanged
abbrev pub at_place : {C : Type 0} → ℕ → List (Option C) → Burst (Option C) (List ℤ) Asks → Burst (List (Option C)) (List ℤ) Asks
at_place place controls b = record { control = slice_set controls place b.control; words = b.words; told = b.told; ticks = b.ticks }

-- n ticks of the control at a place, or those up to the first that makes a request
abbrev pub burst_at : {C : Type 0} → Engine C → ℕ → ℕ → List (Option C) → List ℤ → Burst (List (Option C)) (List ℤ) Asks
burst_at e n place controls words = at_place place controls (burst (ticked e) n (control_at controls place) words)
