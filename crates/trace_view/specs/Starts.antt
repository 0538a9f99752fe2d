-- Why partitions start, as the lines of a trace report it, and how starts are counted.
use Rattle.std.specs.Prelude.{ℕ, ◌+◌, if◌then◌else◌, List, Option, Some, None}
use Rattle.apex_types.specs.declared.codes.Mode.{Mode}
use Rattle.apex_types.specs.declared.codes.Mode.TheVariants as mode
use Rattle.apex_types.specs.declared.codes.ModuleAction.TheVariants as module_action
use Rattle.apex_types.specs.declared.codes.ProcessState.{ProcessState}
use Rattle.apex_types.specs.declared.codes.ProcessState.TheVariants as state
use Rattle.apex_types.specs.declared.codes.Response.{Response}
use Rattle.apex_types.specs.declared.codes.Response.TheVariants as response
use Rattle.apex_types.specs.declared.codes.StartCondition.{StartCondition}
use Rattle.apex_types.specs.declared.codes.StartCondition.TheVariants as condition
use Rattle.apex_types.specs.declared.event.Event.{Event}
use Rattle.apex_types.specs.declared.event.EventKind.{EventKind}
use Rattle.apex_types.specs.declared.event.EventKind.TheVariants as event
use Rattle.apex_types.specs.declared.event.Subject.{Subject}
use Rattle.apex_types.specs.declared.event.Subject.TheVariants as subject
use Rattle.apex_types.specs.declared.service.Service.{Service}
use Rattle.apex_types.specs.declared.service.Service.TheVariants as service
use Rattle.trace_stays.specs.Same.{is_same_partition}
use Rattle.trace_view.specs.Counting.{capped}
use Rattle.trace_view.specs.declared.conditions.Conditions.{Conditions}
use Rattle.trace_view.specs.declared.starts.Starts.{Starts}
use Rattle.trace_view.specs.declared.told.Told.{Told}

-- ---- what the lines say

-- SET_PARTITION_MODE starts the partition again
abbrev pub told_by_service : Service → Option StartCondition
told_by_service service.SetPartitionMode = Some condition.PartitionRestart
told_by_service _ = None

-- so do an action of the partition on an error, and a reset of the module
abbrev pub told_by_error : Response → Option StartCondition
told_by_error response.Handler = None
told_by_error (response.Partition action) = Some condition.HmPartitionRestart
told_by_error (response.Module module_action.Reset) = Some condition.HmModuleRestart
told_by_error (response.Module module_action.Ignore) = None
told_by_error (response.Module module_action.Shutdown) = None

-- with no line before it, a partition starts with the module
abbrev pub told_first : Told
told_first = record { condition = Some condition.NormalStart; started = None }

abbrev pub told_by : Option StartCondition → Told
told_by condition = record { condition = condition; started = None }

-- A start is the line of its mode and that of INIT, which becomes READY. These keep what was said: with the module, and at its reset,
-- the partitions start one after another, each once.
abbrev pub told_by_init : ProcessState → Told → Told
told_by_init state.Ready told = told
told_by_init state.Running told = told_by None
told_by_init state.Waiting told = told_by None
told_by_init state.Dormant told = told_by None

abbrev pub told_by_state : Subject → ProcessState → Told → Told
told_by_state subject.Init state told = told_by_init state told
told_by_state subject.Handler state told = told_by None
told_by_state (subject.Process name) state told = told_by None

abbrev pub told_by_kind : Option (List ℕ) → EventKind → Told → Told
told_by_kind partition (event.Mode mode) told = record told { started = partition }
told_by_kind partition (event.State who state) told = told_by_state who state told
told_by_kind partition (event.Return who service code) told = told_by (told_by_service service)
told_by_kind partition (event.Error error who response) told = told_by (told_by_error response)
told_by_kind partition (event.Report who words) told = told_by None
told_by_kind partition (event.Move port words) told = told_by None
told_by_kind partition (event.Arrive port words) told = told_by None
told_by_kind partition (event.Lost port words) told = told_by None
told_by_kind partition (event.Out channel words) told = told_by None

abbrev pub told_behind : Event → Told → Told
told_behind e told = told_by_kind e.partition e.kind told

-- the condition of a start of this partition in the next line
abbrev pub condition_for : List ℕ → Told → Option StartCondition
condition_for partition told = if is_same_partition told.started (Some partition) then None else told.condition

-- ---- counts

-- one more start with this condition; a start whose condition no line gives counts in none
abbrev pub with_condition : Option StartCondition → Conditions → Conditions
with_condition None c = c
with_condition (Some condition.NormalStart) c = record c { normal_start = capped (c.normal_start + 1) }
with_condition (Some condition.PartitionRestart) c = record c { partition_restart = capped (c.partition_restart + 1) }
with_condition (Some condition.HmModuleRestart) c = record c { hm_module_restart = capped (c.hm_module_restart + 1) }
with_condition (Some condition.HmPartitionRestart) c = record c { hm_partition_restart = capped (c.hm_partition_restart + 1) }

-- one more start, if the mode is that of a start
abbrev pub with_start : Option StartCondition → Mode → Starts → Starts
with_start told mode.Normal s = s
with_start told mode.Idle s = s
with_start told mode.ColdStart s = record s { cold = capped (s.cold + 1); conditions = with_condition told s.conditions }
with_start told mode.WarmStart s = record s { warm = capped (s.warm + 1); conditions = with_condition told s.conditions }
