-- In which ticks a view shows that a runner is RUNNING, in which the lines tell it, and in which it is so.
use Rattle.std.specs.Prelude.{◌≡◌, ◌<◌, ◌+◌, ◌==◌, ℕ, zero, suc, Bool, true, false, not, ◌&&◌, ◌||◌, nat_le, nat_lt, if◌then◌else◌, List, [], ◌∷◌, Option, Some, None, is_some}
use Rattle.apex_types.specs.declared.codes.ProcessState.{ProcessState}
use Rattle.apex_types.specs.declared.codes.ProcessState.TheVariants as state
use Rattle.apex_types.specs.declared.device.DeviceLine.{DeviceLine}
use Rattle.apex_types.specs.declared.event.Subject.{Subject}
use Rattle.apex_types.specs.declared.process.ProcessStatus.{ProcessStatus}
use Rattle.kernel_laws.specs.History.{members_after}
use Rattle.kernel_meaning.specs.Partition.{Member}
use Rattle.module_meaning.specs.Module.{Module}
use Rattle.module_meaning.specs.Table.{at_number}
use Rattle.state_laws.specs.Spending.{owner_in, worker}
use Rattle.state_laws.specs.States.{runs_in}
use Rattle.state_laws.specs.Told.{Told, is_it, is_same, worked_in}
use Rattle.trace_stays.specs.declared.span.Span.{Span}
use Rattle.trace_stays.specs.declared.stay.Stay.{Stay}
use Rattle.trace_windows.specs.Uses.{one_if}

-- ---- stays

abbrev pub is_running : ProcessState → Bool
is_running state.Running = true
is_running state.Dormant = false
is_running state.Ready = false
is_running state.Waiting = false

abbrev pub has_tick : ℕ → Span → Bool
has_tick t s = nat_le s.from.0 t && nat_lt t s.until.0

-- how many of these stays are in RUNNING and have this tick
abbrev pub running_in : ℕ → List Stay → ℕ
running_in t [] = 0
running_in t (s ∷ ss) = one_if (is_running s.state && has_tick t s.span) + running_in t ss

-- the runner is there, and is not RUNNING
abbrev pub is_resting : ProcessState → Bool
is_resting state.Ready = true
is_resting state.Waiting = true
is_resting state.Running = false
is_resting state.Dormant = false

abbrev pub is_same_state : ProcessState → ProcessState → Bool
is_same_state state.Running state.Running = true
is_same_state state.Dormant state.Dormant = true
is_same_state state.Ready state.Ready = true
is_same_state state.Waiting state.Waiting = true
is_same_state _ _ = false

-- how many are in this state and have it
abbrev pub state_in : ProcessState → ℕ → List Stay → ℕ
state_in wanted t [] = 0
state_in wanted t (s ∷ ss) = one_if (is_same_state wanted s.state && has_tick t s.span) + state_in wanted t ss

-- ---- lines

-- after the lines up to a tick the runner is RUNNING, or it was the last to leave RUNNING by its work, and did so in this tick
abbrev pub runs_told : ℕ → Subject → Told → Bool
runs_told t who u = is_it who u.running || is_it who (worked_in t u.worked)

-- ---- a run

-- whether a tick is a partition's own
abbrev pub is_owned : ℕ → Option ℕ → Bool
is_owned p None = false
is_owned p (Some q) = q == p

-- in a tick of its partition the runner spends it; in another one it is the current runner after the tick
abbrev pub runs_if : Bool → Subject → (worker current : Option Subject) → Bool
runs_if true who worker current = is_it who worker
runs_if false who worker current = is_it who current

abbrev pub current_in : {C : Type 0} → Option (Member C) → Option Subject
current_in None = None
current_in (Some x) = runs_in x.world.kernel

-- in tick t of a run a runner of partition p runs
abbrev pub runs_in_tick : {C : Type 0} → Module C → List DeviceLine → ℕ → Subject → ℕ → Bool
runs_in_tick m devices p who t = runs_if (is_owned p (owner_in m devices t)) who (worker m devices t) (current_in (at_number (members_after m devices (suc t)) p))

-- in tick t of a run it spends the tick
abbrev pub works_in_tick : {C : Type 0} → Module C → List DeviceLine → ℕ → Subject → ℕ → Bool
works_in_tick m devices p who t = is_owned p (owner_in m devices t) && is_it who (worker m devices t)

-- how many of n ticks from one on pass a test
abbrev pub ticks_when : (ℕ → Bool) → (from n : ℕ) → ℕ
ticks_when test from zero = 0
ticks_when test from (suc n) = ticks_when test from n + one_if (test (from + n))

-- ---- the state after a tick

-- the state of the first record with this subject
abbrev pub state_among : Subject → List ProcessStatus → Option ProcessState
state_among who [] = None
state_among who (r ∷ rs) = if is_same r.who who then Some r.state else state_among who rs

abbrev pub state_by : {C : Type 0} → Subject → Option (Member C) → Option ProcessState
state_by who None = None
state_by who (Some x) = state_among who x.world.kernel.processes.rows

-- the state of a runner of partition p after tick t of a run
abbrev pub state_in_run : {C : Type 0} → Module C → List DeviceLine → ℕ → Subject → ℕ → Option ProcessState
state_in_run m devices p who t = state_by who (at_number (members_after m devices (suc t)) p)

abbrev pub is_state : ProcessState → Option ProcessState → Bool
is_state wanted None = false
is_state wanted (Some s) = is_same_state wanted s

-- after the tick it is in this state
abbrev pub ends_in_state : {C : Type 0} → Module C → List DeviceLine → ℕ → Subject → ProcessState → ℕ → Bool
ends_in_state m devices p who wanted t = is_state wanted (state_in_run m devices p who t)

-- and it does not spend the tick
abbrev pub rests_in_state : {C : Type 0} → Module C → List DeviceLine → ℕ → Subject → ProcessState → ℕ → Bool
rests_in_state m devices p who wanted t = ends_in_state m devices p who wanted t && not (works_in_tick m devices p who t)

-- the partition has a runner with this subject after each tick before this one
abbrev pub IsRunner : {C : Type 0} → Module C → List DeviceLine → ℕ → Subject → ℕ → Type 0
IsRunner m devices p who until = (t : ℕ) → t < until → is_some (state_in_run m devices p who t) ≡ true
