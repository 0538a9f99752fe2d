-- Clear, the normal start, the services on the partition's mode, and the end of a body.
use Rattle.std.specs.Prelude.{ℕ, zero, suc, ℤ, pos, Bool, true, false, ◌&&◌, not, List, [], ◌∷◌, Option, Some, None, map, slice_get, slice_set, is_some}
use Rattle.apex_types.specs.declared.codes.Mode.{Mode}
use Rattle.apex_types.specs.declared.codes.Mode.TheVariants as mode
use Rattle.apex_types.specs.declared.codes.ProcessState.TheVariants.{Dormant, Ready}
use Rattle.apex_types.specs.declared.codes.ReturnCode.TheVariants as code
use Rattle.apex_types.specs.declared.codes.StartCondition.{StartCondition}
use Rattle.apex_types.specs.declared.codes.StartCondition.TheVariants as condition
use Rattle.apex_types.specs.declared.event.EventKind.{EventKind}
use Rattle.apex_types.specs.declared.event.EventKind.TheVariants as event
use Rattle.apex_types.specs.declared.event.Subject.TheVariants.{Init}
use Rattle.apex_types.specs.declared.identity.At.{At}
use Rattle.apex_types.specs.declared.identity.Runner.{Runner}
use Rattle.apex_types.specs.declared.identity.Runner.TheVariants as runner
use Rattle.apex_types.specs.Runners.{Action}
use Rattle.apex_types.specs.Runners as action
use Rattle.apex_types.specs.declared.process.Lock.TheVariants as lock
use Rattle.apex_types.specs.declared.process.ProcessStatus.{ProcessStatus}
use Rattle.apex_types.specs.declared.process.Wait.TheVariants as wait
use Rattle.apex_types.specs.declared.service.Service.TheVariants as service
use Rattle.kernel_meaning.specs.Kernel.{emptied_errors, Kernel, of_processes}
use Rattle.kernel_meaning.specs.Objects.{cleared_objects, cleared_ports}
use Rattle.kernel_meaning.specs.Queues.{emptied}
use Rattle.kernel_meaning.specs.Processes.{Processes, row_of, rests_found, answers, refuses, is_normal}
use Rattle.kernel_meaning.specs.ProcessServices.{level_of, stop_self}
use Rattle.kernel_meaning.specs.Times.{start_all_waiting}
use Rattle.kernel_meaning.specs.Step.{Step, nothing, after, row}
use Rattle.kernel_meaning.specs.Windows.{next_release}

-- ---- Clear

-- the record of a process that is no longer created
abbrev pub forgotten : ProcessStatus → ProcessStatus
forgotten r = record r { created = false; state = Dormant; current_priority = r.base_priority; suspended = false; wait = wait.Nothing; due = None; release = record { 0 = 0 }; deadline = None }

abbrev pub is_cold : Mode → Bool
is_cold mode.ColdStart = true
is_cold _ = false

abbrev pub ready_init : Option ProcessStatus → List ProcessStatus → List ProcessStatus
ready_init None rows = rows
ready_init (Some r) rows = slice_set rows 0 (record r { state = Ready })

-- INIT is ready, unless the mode is idle
abbrev pub started_rows : Mode → List ProcessStatus → List ProcessStatus
started_rows mode.Idle rows = rows
started_rows _ rows = ready_init (slice_get rows 0) rows

-- no process is created, and none runs, waits or holds the lock
abbrev pub cleared_processes : Mode → Processes → Processes
cleared_processes m s = record { rows = started_rows m (map forgotten s.rows); ready = []; running = None; lock = lock.Free; queues = emptied s.queues; handed = s.handed }

abbrev pub cleared : Kernel → Mode → StartCondition → Kernel
cleared k m c = record k { mode = m; condition = c; processes = cleared_processes m k.processes; objects = cleared_objects k.objects; ports = cleared_ports k.ports; errors = emptied_errors k.errors }

abbrev pub clear_actions : Mode → List Action
clear_actions mode.Idle = action.StopAll ∷ []
clear_actions mode.ColdStart = action.StopAll ∷ action.Restore ∷ action.Begin runner.Init ∷ []
clear_actions _ = action.StopAll ∷ action.Begin runner.Init ∷ []

abbrev pub clear_lines : Mode → List EventKind
clear_lines mode.Idle = event.Mode mode.Idle ∷ []
clear_lines m = event.Mode m ∷ event.State Init Ready ∷ []

-- Removes all processes, objects and waiting errors; empties the ports, which are no longer
-- created. A cold start restores the initial data. Unless the partition is idle, INIT starts.
abbrev pub clears : Kernel → Mode → StartCondition → Step Kernel
clears k m c = record { part = cleared k m c; lines = clear_lines m; actions = clear_actions m }

-- ---- the normal start

abbrev pub enters_normal : Kernel → Step Kernel
enters_normal k = record { part = record k { mode = mode.Normal }; lines = event.Mode mode.Normal ∷ []; actions = [] }

-- the next release point of the partition
abbrev pub next_release_of : At → Kernel → ℕ
next_release_of at k = next_release k.fixed.schedule k.fixed.number at

-- INIT becomes dormant, the mode normal; then the processes that wait for the normal start are
-- started in number order
abbrev pub starts_normally : At → Kernel → Step Kernel
starts_normally at k =
    let i = of_processes k (rests_found k.processes runner.Init (row_of k.processes runner.Init)) in
    let n = enters_normal i.part in
    after i (after n (of_processes n.part (start_all_waiting at (next_release_of at k) n.part.processes)))

-- ---- GET_PARTITION_STATUS

abbrev pub number_of_mode : Mode → ℕ
number_of_mode mode.Idle = 0
number_of_mode mode.ColdStart = 1
number_of_mode mode.WarmStart = 2
number_of_mode mode.Normal = 3

abbrev pub number_of_condition : StartCondition → ℕ
number_of_condition condition.NormalStart = 0
number_of_condition condition.PartitionRestart = 1
number_of_condition condition.HmModuleRestart = 2
number_of_condition condition.HmPartitionRestart = 3

abbrev pub status_of : Kernel → List ℤ
status_of k = map pos (k.fixed.number ∷ k.fixed.period ∷ k.fixed.duration ∷ level_of k.processes.lock ∷ number_of_mode k.mode ∷ number_of_condition k.condition ∷ [])

abbrev pub get_partition_status : Kernel → Runner → Step Kernel
get_partition_status k p = of_processes k (answers k.processes p service.GetPartitionStatus code.NoError (status_of k))

-- ---- SET_PARTITION_MODE

abbrev pub mode_of : ℤ → Option Mode
mode_of (pos zero) = Some mode.Idle
mode_of (pos (suc zero)) = Some mode.ColdStart
mode_of (pos (suc (suc zero))) = Some mode.WarmStart
mode_of (pos (suc (suc (suc zero)))) = Some mode.Normal
mode_of _ = None

abbrev pub is_warm : Mode → Bool
is_warm mode.WarmStart = true
is_warm _ = false

abbrev pub wants : (Mode → Bool) → Option Mode → Bool
wants test None = false
wants test (Some m) = test m

abbrev pub enters_mode : At → Kernel → Option Mode → Step Kernel
enters_mode at k None = nothing k
enters_mode at k (Some mode.Normal) = starts_normally at k
enters_mode at k (Some m) = clears k m condition.PartitionRestart

abbrev pub set_partition_mode : At → Kernel → Runner → ℤ → Step Kernel
set_partition_mode at k p m =
    row (λ c. of_processes k (refuses k.processes p service.SetPartitionMode c))
    ((not (is_some (mode_of m)), code.InvalidParam)
    ∷ (wants is_normal (mode_of m) && is_normal k.mode, code.NoAction)
    ∷ (wants is_warm (mode_of m) && is_cold k.mode, code.InvalidMode)
    ∷ [])
    (after (of_processes k (answers k.processes p service.SetPartitionMode code.NoError [])) (enters_mode at k (mode_of m)))

-- ---- STOP_SELF, and the end of a body

-- A process or the handler becomes dormant; INIT that ends before the normal start leaves the
-- partition idle.
abbrev pub ends_body : Kernel → Runner → Step Kernel
ends_body k runner.Init = clears k mode.Idle condition.PartitionRestart
ends_body k p = of_processes k (stop_self k.processes p)
