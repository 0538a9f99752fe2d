-- A module between two ticks, and what some ticks make of it.
use Rattle.std.specs.Prelude.{◌≡◌, ℕ, zero, suc, ◌+◌, ◌==◌, if◌then◌else◌, List, [], ◌++◌, Option, Some, None, option_map}
use Rattle.apex_types.specs.declared.device.DeviceLine.{DeviceLine}
use Rattle.apex_types.specs.declared.event.Event.{Event}
use Rattle.apex_types.specs.declared.identity.At.{At}
use Rattle.kernel_meaning.specs.Partition.{Member}
use Rattle.kernel_meaning.specs.Windows.{tick_from}
use Rattle.module_meaning.specs.Module.{Plan, Stepped, Course, still, starts, goes_on, then_runs, of_tick, module_tick}

-- The partitions, the next tick, and the current origin, which is None after a shutdown.
pub record Standing (Control : Type 0) : Type 0 where
  pub members : List (Member Control)
  pub now : ℕ
  pub origin : Option ℕ

-- before the first tick
abbrev pub at_first : {C : Type 0} → List (Member C) → Standing C
at_first members = record { members = members; now = 0; origin = Some 0 }

-- before the first tick each partition starts
abbrev pub begins : {C : Type 0} → ℕ → List (Member C) → Stepped (List (Member C))
begins now members = if now == 0 then starts members else still members

-- the begin, then the tick of the module
abbrev pub begins_and_ticks : {C : Type 0} → Plan → At → List DeviceLine → List (Member C) → Course (List (Member C))
begins_and_ticks plan at lines members = then_runs (goes_on at (begins at.now.0 members)) (λ a ms. module_tick plan a lines ms)

-- after a shutdown nothing happens
abbrev pub ticks_from : {C : Type 0} → Plan → List DeviceLine → ℕ → List (Member C) → Option ℕ → Course (List (Member C))
ticks_from plan lines now members None = record { at = None; state = members; lines = [] }
ticks_from plan lines now members (Some origin) = begins_and_ticks plan (tick_from origin now) lines members

-- the next tick, with these device lines
abbrev pub ticks : {C : Type 0} → Plan → List DeviceLine → Standing C → Course (List (Member C))
ticks plan lines s = ticks_from plan lines s.now s.members s.origin

abbrev pub origin_of : At → ℕ
origin_of at = at.origin.0

-- the tick is t, unless the module is shut down
abbrev pub IsNow : ℕ → Option At → Type 0
IsNow t None = Unit {0}
IsNow t (Some at) = at.now.0 ≡ t

-- the module after its next tick
abbrev pub after : {C : Type 0} → Standing C → Course (List (Member C)) → Standing C
after s c = record { members = c.state; now = s.now + 1; origin = option_map origin_of c.at }

-- what some ticks write, and the module after them
abbrev pub Elapsed : Type 0 → Type 0
Elapsed C = Stepped (Standing C)

abbrev pub preceded_by : {C : Type 0} → List Event → Elapsed C → Elapsed C
preceded_by told e = record { state = e.state; lines = told ++ e.lines }

-- n ticks, one after another, each tick with its own device lines
abbrev pub elapse : {C : Type 0} → Plan → List DeviceLine → ℕ → Standing C → Elapsed C
elapse plan lines zero s = still s
elapse plan lines (suc n) s = let c = ticks plan (of_tick s.now lines) s in preceded_by c.lines (elapse plan lines n (after s c))

-- the lines of n ticks
abbrev pub lines_of : {C : Type 0} → Plan → List DeviceLine → ℕ → Standing C → List Event
lines_of plan lines n s = (elapse plan lines n s).lines
