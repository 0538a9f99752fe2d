-- What the lines of a trace say of the states of one partition, read in their order.
use Rattle.std.specs.Prelude.{ℕ, ◌==◌, ◌&&◌, Bool, true, false, not, is_some, List, [], ◌∷◌, Option, Some, None, if◌then◌else◌}
use Rattle.apex_types.specs.declared.codes.ErrorKind.{ErrorKind}
use Rattle.apex_types.specs.declared.codes.ErrorKind.TheVariants as error
use Rattle.apex_types.specs.declared.codes.Mode.{Mode}
use Rattle.apex_types.specs.declared.codes.Mode.TheVariants as mode
use Rattle.apex_types.specs.declared.codes.ModuleAction.TheVariants as reaction
use Rattle.apex_types.specs.declared.codes.PartitionAction.{PartitionAction}
use Rattle.apex_types.specs.declared.codes.PartitionAction.TheVariants as action
use Rattle.apex_types.specs.declared.codes.ProcessState.{ProcessState}
use Rattle.apex_types.specs.declared.codes.ProcessState.TheVariants.{Dormant, Ready, Running, Waiting}
use Rattle.apex_types.specs.declared.codes.Response.{Response}
use Rattle.apex_types.specs.declared.codes.Response.TheVariants as response
use Rattle.apex_types.specs.declared.codes.StartCondition.{StartCondition}
use Rattle.apex_types.specs.declared.codes.StartCondition.TheVariants as condition
use Rattle.apex_types.specs.declared.event.Event.{Event}
use Rattle.apex_types.specs.declared.event.EventKind.{EventKind}
use Rattle.apex_types.specs.declared.event.EventKind.TheVariants as event
use Rattle.apex_types.specs.declared.event.Subject.{Subject}
use Rattle.apex_types.specs.declared.event.Subject.TheVariants.{Init, Handler, Process}
use Rattle.engine_meaning.specs.Digits.{same}
use Rattle.kernel_meaning.specs.HealthServices.{is_fault}

-- a start of a partition: its tick, the mode that it enters, and its condition
pub record Start : Type 0 where
  pub tick : ℕ
  pub mode : Mode
  pub condition : StartCondition

pub record Told : Type 0 where
  pub mode : Mode
  -- the start condition
  pub condition : StartCondition
  -- the start condition from the next line of a mode on, unless this is NORMAL
  pub next : StartCondition
  -- the starts so far, the last one first
  pub starts : List Start
  -- DORMANT for a runner of which none is told
  pub state : Subject → ProcessState
  -- the runner that is RUNNING
  pub running : Option Subject
  -- the runner that was the last to leave RUNNING by its own work, and the tick in which it did
  pub worked : Option (ℕ × Subject)
  -- each runner so far became RUNNING in a tick that nobody had spent yet
  pub orderly : Bool

-- before the first line, which starts the partition with the module
abbrev pub first_told : Told
first_told = record {
  mode = mode.Idle;
  condition = condition.NormalStart;
  next = condition.NormalStart;
  starts = [];
  state = λ who. Dormant;
  running = None;
  worked = None;
  orderly = true;
}

abbrev pub is_same : Subject → Subject → Bool
is_same Init Init = true
is_same Handler Handler = true
is_same (Process name) (Process other) = same name other
is_same _ _ = false

-- it is the one, if there is one
abbrev pub is_it : Subject → Option Subject → Bool
is_it who None = false
is_it who (Some x) = is_same who x

-- whoever runs leaves the processor before it works in this tick
abbrev pub preempted : Told → Told
preempted t = record t { running = None }

-- all are gone before any of them works in this tick
abbrev pub cleared : Told → Told
cleared t = record t { state = λ x. Dormant; running = None }

abbrev pub worker_or : ℕ → Option (ℕ × Subject) → Option Subject → Option (ℕ × Subject)
worker_or tick worked None = worked
worker_or tick worked (Some who) = Some (tick, who)

-- whoever runs leaves the processor by its work in this tick
abbrev pub has_worked : ℕ → Told → Told
has_worked tick t = record t { running = None; worked = worker_or tick t.worked t.running }

-- ---- who spends a tick

abbrev pub worked_in : ℕ → Option (ℕ × Subject) → Option Subject
worked_in tick None = None
worked_in tick (Some w) = if w.0 == tick then Some w.1 else None

abbrev pub running_or : Option Subject → Option Subject → Option Subject
running_or None worked = worked
running_or (Some who) worked = Some who

-- who spends a tick of the partition, after the lines up to that tick: the runner that is RUNNING, or
-- the one that left RUNNING by its work in this tick; or nobody
abbrev pub worker_by_lines : ℕ → Told → Option Subject
worker_by_lines tick t = running_or t.running (worked_in tick t.worked)

-- nobody has spent the tick yet
abbrev pub is_unspent : ℕ → Told → Bool
is_unspent tick t = not (is_some (worker_by_lines tick t))

-- ---- a state

abbrev pub moves_to : ℕ → Told → Subject → ProcessState → Told
moves_to tick t who Running = record t { running = Some who; orderly = t.orderly && is_unspent tick t }
moves_to tick t who Ready = if is_it who t.running then preempted t else t
moves_to tick t who Waiting = if is_it who t.running then has_worked tick t else t
moves_to tick t who Dormant = if is_it who t.running then has_worked tick t else t

abbrev pub with_state : Subject → ProcessState → Told → Told
with_state who state t = record t { state = λ x. if is_same x who then state else t.state x }

-- ---- a mode

abbrev pub is_start : Mode → Bool
is_start mode.ColdStart = true
is_start mode.WarmStart = true
is_start _ = false

-- COLD_START and WARM_START are starts
abbrev pub and_start : ℕ → Mode → StartCondition → List Start → List Start
and_start tick m c ss = if is_start m then record { tick = tick; mode = m; condition = c } ∷ ss else ss

-- At any mode but NORMAL all states are forgotten, and the start condition is the expected one. With no other line before the next such mode, it is PARTITION_RESTART then.
abbrev pub enters : ℕ → Told → Mode → Told
enters tick t mode.Normal = record t { mode = mode.Normal }
enters tick t m = record {
  mode = m;
  condition = t.next;
  next = condition.PartitionRestart;
  starts = and_start tick m t.next t.starts;
  state = λ x. Dormant;
  running = None;
  worked = worker_or tick t.worked t.running;
  orderly = t.orderly;
}

-- ---- an error

-- an error that no work of the runner causes
abbrev pub is_from_outside : ErrorKind → Bool
is_from_outside error.DeadlineMissed = true
is_from_outside error.HardwareFault = true
is_from_outside _ = false

abbrev pub is_ignored : PartitionAction → Bool
is_ignored action.Ignore = true
is_ignored _ = false

-- the partition is cleared before the runner works
abbrev pub cleared_by : Told → ErrorKind → PartitionAction → Told
cleared_by t e a = if is_from_outside e then (if is_ignored a then t else cleared t) else t

abbrev pub is_init : Option Subject → Bool
is_init (Some Init) = true
is_init _ = false

-- An error leads to another mode if the partition does not ignore it. An ignored fault of INIT does so too.
abbrev pub leads_on : ErrorKind → Option Subject → PartitionAction → Bool
leads_on e who action.Ignore = is_fault e && is_init who
leads_on e who _ = true

abbrev pub expected : Bool → StartCondition → StartCondition
expected true c = condition.HmPartitionRestart
expected false c = c

abbrev pub responds : Told → ErrorKind → Option Subject → Response → Told
responds t e who (response.Partition a) = record (cleared_by t e a) { next = expected (leads_on e who a) t.next }
responds t e who _ = t

-- ---- a line

-- a line of the partition
abbrev pub says : ℕ → Told → EventKind → Told
says tick t (event.State who state) = with_state who state (moves_to tick t who state)
says tick t (event.Mode m) = enters tick t m
says tick t (event.Error e who r) = responds t e who r
says tick t _ = t

abbrev pub resets : Told → Response → Told
resets t (response.Module reaction.Reset) = record (cleared t) { next = condition.HmModuleRestart }
resets t _ = t

-- a line of the module: a reset clears all partitions before the runner works
abbrev pub says_module : Told → EventKind → Told
says_module t (event.Error e who r) = resets t r
says_module t _ = t

abbrev pub said_by : List ℕ → Told → Option (List ℕ) → ℕ → EventKind → Told
said_by name t None tick kind = says_module t kind
said_by name t (Some other) tick kind = if same name other then says tick t kind else t

abbrev pub with_line : List ℕ → Told → Event → Told
with_line name t l = said_by name t l.partition l.tick.0 l.kind

-- what these lines say of the partition with a name, after what was said before
abbrev pub told_from : List ℕ → Told → List Event → Told
told_from name t [] = t
told_from name t (l ∷ ls) = told_from name (with_line name t l) ls

abbrev pub told : List ℕ → List Event → Told
told name lines = told_from name first_told lines
