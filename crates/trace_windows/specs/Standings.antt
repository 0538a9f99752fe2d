-- What a module does after the lines of its trace.
use Rattle.std.specs.Prelude.{ℕ, ◌+◌, Bool, true, false, if◌then◌else◌, nat_lt, min, List, [], ◌∷◌, ◌++◌, map, Option, Some, None, slice_get, slice_set}
use Rattle.apex_types.specs.declared.codes.Mode.{Mode}
use Rattle.apex_types.specs.declared.codes.Mode.TheVariants as mode
use Rattle.apex_types.specs.declared.codes.ModuleAction.TheVariants as action
use Rattle.apex_types.specs.declared.codes.ProcessState.{ProcessState}
use Rattle.apex_types.specs.declared.codes.ProcessState.TheVariants as state
use Rattle.apex_types.specs.declared.codes.Response.{Response}
use Rattle.apex_types.specs.declared.codes.Response.TheVariants as response
use Rattle.apex_types.specs.declared.event.Event.{Event}
use Rattle.apex_types.specs.declared.event.EventKind.{EventKind}
use Rattle.apex_types.specs.declared.event.EventKind.TheVariants as event
use Rattle.apex_types.specs.declared.event.Subject.{Subject}
use Rattle.apex_types.specs.declared.event.Subject.TheVariants as subject
use Rattle.apex_types.specs.Limits.{MOST_TICKS}
use Rattle.engine_meaning.specs.Digits.{same}
use Rattle.trace_stays.specs.Clearing.{clears}
use Rattle.trace_windows.specs.declared.owner.Owner.{Owner}
use Rattle.trace_windows.specs.declared.owner.Stop.{Stop}
use Rattle.trace_windows.specs.declared.shares.Shares.{Shares}

-- The partitions with their RUNNING processes, those that stopped in the tick of the last lines, that tick, the tick at
-- which the frames begin, and whether the module is shut down.
pub record Standing : Type 0 where
  pub owners : List Owner
  pub stopped : List Stop
  pub now : ℕ
  pub origin : ℕ
  pub is_down : Bool

-- ---- before the first line

abbrev pub without_process : List ℕ → Owner
without_process name = record { name = name; running = None }

abbrev pub at_first : List (List ℕ) → Standing
at_first names = record { owners = map without_process names; stopped = []; now = 0; origin = 0; is_down = false }

-- ---- the process of a partition

-- the place of the partition with a name, where the first of these has the place n
unfoldable pub place_from : ℕ → List ℕ → List Owner → Option ℕ
place_from n name [] = None
place_from n name (o ∷ os) = if same o.name name then Some n else place_from (n + 1) name os

abbrev pub place_in : List ℕ → List Owner → Option ℕ
place_in name owners = place_from 0 name owners

abbrev pub running_in : Option Owner → Option Subject
running_in None = None
running_in (Some o) = o.running

abbrev pub running_at : ℕ → List Owner → Option Subject
running_at place owners = running_in (slice_get owners place)

-- both are INIT, both are the error handler, or both are the process with a name
abbrev pub is_same_runner : Subject → Subject → Bool
is_same_runner subject.Init subject.Init = true
is_same_runner subject.Handler subject.Handler = true
is_same_runner (subject.Process name) (subject.Process other) = same name other
is_same_runner _ _ = false

abbrev pub is_running : Subject → Option Subject → Bool
is_running who None = false
is_running who (Some running) = is_same_runner who running

-- now this process is RUNNING in the partition, or none is
abbrev pub with_running : ℕ → Option Subject → List Owner → List Owner
with_running place running owners = elim (slice_get owners place) [ None ↦ owners | Some o ↦ slice_set owners place (record o { running = running }) ]

-- ---- a line

-- No line has a later tick than a run.
abbrev pub in_run : ℕ → ℕ
in_run t = min t MOST_TICKS

-- the ticks before `t` are over
abbrev pub passed_if : Bool → ℕ → Standing → Standing
passed_if true t s = record s { stopped = []; now = t }
passed_if false t s = s

abbrev pub passed : ℕ → Standing → Standing
passed t s = passed_if (nat_lt s.now t) t s

abbrev pub without_running : ℕ → Standing → Standing
without_running place s = record s { owners = with_running place None s.owners }

-- the process of a partition that was RUNNING has worked in this tick
abbrev pub stopped : ℕ → Option Subject → Standing → Standing
stopped place None s = s
stopped place (Some who) s = record s { owners = with_running place None s.owners; stopped = s.stopped ++ record { place = place; who = who } ∷ [] }

-- A process that is RUNNING enters another state. It has worked in this tick, unless it becomes READY: then another one was
-- chosen before the tick's work.
abbrev pub left : ProcessState → ℕ → Subject → Standing → Standing
left state.Ready place who s = without_running place s
left state.Running place who s = stopped place (Some who) s
left state.Waiting place who s = stopped place (Some who) s
left state.Dormant place who s = stopped place (Some who) s

abbrev pub left_if : Bool → ProcessState → ℕ → Subject → Standing → Standing
left_if true next place who s = left next place who s
left_if false next place who s = s

abbrev pub turned : ProcessState → ℕ → Subject → Standing → Standing
turned state.Running place who s = record s { owners = with_running place (Some who) s.owners }
turned state.Ready place who s = left_if (is_running who (running_at place s.owners)) state.Ready place who s
turned state.Waiting place who s = left_if (is_running who (running_at place s.owners)) state.Waiting place who s
turned state.Dormant place who s = left_if (is_running who (running_at place s.owners)) state.Dormant place who s

-- With any mode but NORMAL the partition starts again, so its processes are gone.
abbrev pub entered : Mode → ℕ → Standing → Standing
entered mode.Normal place s = s
entered mode.Idle place s = stopped place (running_at place s.owners) s
entered mode.ColdStart place s = stopped place (running_at place s.owners) s
entered mode.WarmStart place s = stopped place (running_at place s.owners) s

-- With an error that is treated before the tick's work they are gone too, and none of them has worked in this tick.
abbrev pub cleared_if : Bool → ℕ → Standing → Standing
cleared_if true place s = without_running place s
cleared_if false place s = s

-- a line of the partition at this place
abbrev pub with_own : EventKind → ℕ → Standing → Standing
with_own (event.State who next) place s = turned next place who s
with_own (event.Mode m) place s = entered m place s
with_own (event.Error error who answer) place s = cleared_if (clears error answer) place s
with_own _ place s = s

-- nobody is RUNNING
abbrev pub halted : Owner → Owner
halted o = record o { running = None }

-- The action on a fault of the module. Frames begin with the tick of a reset, before whose work the processes of all
-- partitions are gone.
abbrev pub acted : Response → Standing → Standing
acted (response.Module action.Reset) s = record s { owners = map halted s.owners; origin = s.now }
acted (response.Module action.Shutdown) s = record s { is_down = true }
acted _ s = s

-- a line of the module
abbrev pub with_module : EventKind → Standing → Standing
with_module (event.Error error who answer) s = acted answer s
with_module _ s = s

abbrev pub with_place : EventKind → Option ℕ → Standing → Standing
with_place kind None s = s
with_place kind (Some place) s = with_own kind place s

abbrev pub with_kind : Option (List ℕ) → EventKind → Standing → Standing
with_kind None kind s = with_module kind s
with_kind (Some name) kind s = with_place kind (place_in name s.owners) s

-- after one more line
abbrev pub with_line : Event → Standing → Standing
with_line e s = with_kind e.partition e.kind (passed (in_run e.tick.0) s)

-- ---- the `Standing` of the code

abbrev pub standing_of : Shares → Standing
standing_of s = record { owners = s.owners.items; stopped = s.stopped.items; now = s.tick.0; origin = s.origin.0; is_down = s.is_down }
