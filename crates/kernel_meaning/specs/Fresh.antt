-- A partition before its first start.
use Rattle.std.specs.Prelude.{ℕ, ℤ, List, [], ◌∷◌, Option, None, option_map, map, replicate, Bool, false}
use Rattle.arrayvec.specs.ArrayVec.{ArrayVec}
use Rattle.apex_types.specs.Limits.{MOST_OBJECTS}
use Rattle.apex_types.specs.declared.codes.Mode.TheVariants as mode
use Rattle.apex_types.specs.declared.codes.ProcessState.TheVariants.{Dormant}
use Rattle.apex_types.specs.declared.codes.StartCondition.TheVariants as condition
use Rattle.apex_types.specs.declared.event.Subject.{Subject}
use Rattle.apex_types.specs.declared.event.Subject.TheVariants.{Init, Handler}
use Rattle.apex_types.specs.declared.identity.Priority.{Priority}
use Rattle.apex_types.specs.declared.process.Lock.TheVariants as lock
use Rattle.apex_types.specs.declared.process.ProcessStatus.{ProcessStatus}
use Rattle.apex_types.specs.declared.process.Wait.TheVariants as wait
use Rattle.kernel_meaning.specs.Kernel.{fresh_errors, Fixed, Kernel}
use Rattle.kernel_meaning.specs.Objects.{Objects, Ports}
use Rattle.kernel_meaning.specs.Partition.{World}
use Rattle.kernel_meaning.specs.Processes.{Processes}
use Rattle.kernel_meaning.specs.Queues.{Queues}
use Rattle.kernel_meaning.specs.Times.{ticks}
use Rattle.kernel_meaning.specs.Step.{message}

-- ---- a partition before its first start

-- the record of a runner with a priority, before it is created
abbrev pub fresh_row : Subject → Priority → Option ℕ → Option ℕ → ProcessStatus
fresh_row who priority period capacity = record {
  who = who;
  base_priority = priority;
  period = option_map ticks period;
  capacity = option_map ticks capacity;
  created = false;
  state = Dormant;
  current_priority = priority;
  suspended = false;
  wait = wait.Nothing;
  due = None;
  release = ticks 0;
  deadline = None;
}

abbrev pub init_row : ProcessStatus
init_row = fresh_row Init (record { 0 = 0 }) None None

abbrev pub handler_row : ProcessStatus
handler_row = fresh_row Handler (record { 0 = 0 }) None None

abbrev pub no_message : ProcessStatus → ArrayVec ℤ
no_message r = message []

-- no process waits for an object or a port
abbrev pub fresh_queues : Queues
fresh_queues =
    let none = replicate MOST_OBJECTS [] in
    record { semaphores = none; events = none; buffers = none; blackboards = none; ports = none }

-- no process is created, and none runs or waits
abbrev pub fresh_processes : List ProcessStatus → Processes
fresh_processes rows = record { rows = init_row ∷ handler_row ∷ rows; ready = []; running = None; lock = lock.Free; queues = fresh_queues; handed = map no_message rows }

-- A partition in idle mode with nothing created, of these processes, objects and ports; with or
-- without a handler.
abbrev pub fresh_kernel : Fixed → List ProcessStatus → Objects → Ports → Bool → Kernel
fresh_kernel fixed rows objects ports has_handler = record { fixed = fixed; mode = mode.Idle; condition = condition.NormalStart; processes = fresh_processes rows; objects = objects; ports = ports; errors = fresh_errors has_handler }

abbrev pub no_control_for : {C : Type 0} → ProcessStatus → Option C
no_control_for r = None

abbrev pub fresh_world : {C : Type 0} → Kernel → List ℤ → World C
fresh_world k initial = record { kernel = k; controls = map no_control_for k.processes.rows; words = initial; initial = initial }
