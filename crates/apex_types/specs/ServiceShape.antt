-- The shape of each service, one row per service: its number in this profile, its name in the
-- standard, the kinds of its arguments, the number of its outputs besides its code, and whether it
-- creates. What a service takes, returns and costs follows from its row.
use Rattle.std.specs.Prelude.{ℕ, ◌+◌, Bool, true, false, List, [], ◌∷◌, codes, if◌then◌else◌, ◌-◌, nat_eq, Option, None, slice_get}
use Rattle.std.specs.List.{sum_by, list_any}
use Rattle.apex_types.specs.declared.cost.Costs.{Costs}
use Rattle.apex_types.specs.declared.denotation.ObjectKind.TheVariants as object
use Rattle.apex_types.specs.declared.shape.ArgumentKind.{ArgumentKind}
use Rattle.apex_types.specs.declared.shape.ArgumentKind.TheVariants as argument
use Rattle.apex_types.specs.declared.service.Service.{Service}
use Rattle.apex_types.specs.declared.service.Service.TheVariants as service
use Rattle.apex_types.specs.declared.shape.ServiceClass.{ServiceClass}
use Rattle.apex_types.specs.declared.shape.ServiceClass.TheVariants.{Creation, WithArray, Other}

pub record Shape : Type 0 where
  pub number : ℕ
  pub word : List ℕ
  pub arguments : List ArgumentKind
  pub outputs : ℕ
  pub creates : Bool

abbrev pub row : ℕ → List ℕ → List ArgumentKind → ℕ → Shape
row number word arguments outputs = record { number = number; word = word; arguments = arguments; outputs = outputs; creates = false }

abbrev pub creation : ℕ → List ℕ → List ArgumentKind → ℕ → Shape
creation number word arguments outputs = record { number = number; word = word; arguments = arguments; outputs = outputs; creates = true }

abbrev pub shape : Service → Shape
shape service.GetPartitionStatus = row 1 (codes "GET_PARTITION_STATUS") [] 6
shape service.SetPartitionMode = row 2 (codes "SET_PARTITION_MODE") (argument.Word ∷ []) 0
shape service.GetProcessId = row 3 (codes "GET_PROCESS_ID") (argument.Object object.Process ∷ []) 1
shape service.GetProcessStatus = row 4 (codes "GET_PROCESS_STATUS") (argument.Word ∷ []) 3
shape service.CreateProcess = creation 5 (codes "CREATE_PROCESS") (argument.Object object.Process ∷ []) 1
shape service.SetPriority = row 6 (codes "SET_PRIORITY") (argument.Word ∷ argument.Word ∷ []) 0
shape service.SuspendSelf = row 7 (codes "SUSPEND_SELF") (argument.Word ∷ []) 0
shape service.Suspend = row 8 (codes "SUSPEND") (argument.Word ∷ []) 0
shape service.Resume = row 9 (codes "RESUME") (argument.Word ∷ []) 0
shape service.StopSelf = row 10 (codes "STOP_SELF") [] 0
shape service.Stop = row 11 (codes "STOP") (argument.Word ∷ []) 0
shape service.Start = row 12 (codes "START") (argument.Word ∷ []) 0
shape service.DelayedStart = row 13 (codes "DELAYED_START") (argument.Word ∷ argument.Word ∷ []) 0
shape service.LockPreemption = row 14 (codes "LOCK_PREEMPTION") [] 1
shape service.UnlockPreemption = row 15 (codes "UNLOCK_PREEMPTION") [] 1
shape service.GetMyId = row 16 (codes "GET_MY_ID") [] 1
shape service.TimedWait = row 17 (codes "TIMED_WAIT") (argument.Word ∷ []) 0
shape service.PeriodicWait = row 18 (codes "PERIODIC_WAIT") [] 0
shape service.GetTime = row 19 (codes "GET_TIME") [] 1
shape service.Replenish = row 20 (codes "REPLENISH") (argument.Word ∷ []) 0
shape service.CreateBuffer = creation 21 (codes "CREATE_BUFFER") (argument.Object object.Buffer ∷ []) 1
shape service.SendBuffer = row 22 (codes "SEND_BUFFER") (argument.Word ∷ argument.Array ∷ argument.Word ∷ argument.Word ∷ []) 0
shape service.ReceiveBuffer = row 23 (codes "RECEIVE_BUFFER") (argument.Word ∷ argument.Array ∷ argument.Word ∷ []) 1
shape service.GetBufferId = row 24 (codes "GET_BUFFER_ID") (argument.Object object.Buffer ∷ []) 1
shape service.GetBufferStatus = row 25 (codes "GET_BUFFER_STATUS") (argument.Word ∷ []) 4
shape service.CreateBlackboard = creation 26 (codes "CREATE_BLACKBOARD") (argument.Object object.Blackboard ∷ []) 1
shape service.DisplayBlackboard = row 27 (codes "DISPLAY_BLACKBOARD") (argument.Word ∷ argument.Array ∷ argument.Word ∷ []) 0
shape service.ReadBlackboard = row 28 (codes "READ_BLACKBOARD") (argument.Word ∷ argument.Array ∷ argument.Word ∷ []) 1
shape service.ClearBlackboard = row 29 (codes "CLEAR_BLACKBOARD") (argument.Word ∷ []) 0
shape service.GetBlackboardId = row 30 (codes "GET_BLACKBOARD_ID") (argument.Object object.Blackboard ∷ []) 1
shape service.GetBlackboardStatus = row 31 (codes "GET_BLACKBOARD_STATUS") (argument.Word ∷ []) 3
shape service.CreateSemaphore = creation 32 (codes "CREATE_SEMAPHORE") (argument.Object object.Semaphore ∷ []) 1
shape service.WaitSemaphore = row 33 (codes "WAIT_SEMAPHORE") (argument.Word ∷ argument.Word ∷ []) 0
shape service.SignalSemaphore = row 34 (codes "SIGNAL_SEMAPHORE") (argument.Word ∷ []) 0
shape service.GetSemaphoreId = row 35 (codes "GET_SEMAPHORE_ID") (argument.Object object.Semaphore ∷ []) 1
shape service.GetSemaphoreStatus = row 36 (codes "GET_SEMAPHORE_STATUS") (argument.Word ∷ []) 3
shape service.CreateEvent = creation 37 (codes "CREATE_EVENT") (argument.Object object.Event ∷ []) 1
shape service.SetEvent = row 38 (codes "SET_EVENT") (argument.Word ∷ []) 0
shape service.ResetEvent = row 39 (codes "RESET_EVENT") (argument.Word ∷ []) 0
shape service.WaitEvent = row 40 (codes "WAIT_EVENT") (argument.Word ∷ argument.Word ∷ []) 0
shape service.GetEventId = row 41 (codes "GET_EVENT_ID") (argument.Object object.Event ∷ []) 1
shape service.GetEventStatus = row 42 (codes "GET_EVENT_STATUS") (argument.Word ∷ []) 2
shape service.CreateSamplingPort = creation 43 (codes "CREATE_SAMPLING_PORT") (argument.Object object.Port ∷ []) 1
shape service.WriteSamplingMessage = row 44 (codes "WRITE_SAMPLING_MESSAGE") (argument.Word ∷ argument.Array ∷ argument.Word ∷ []) 0
shape service.ReadSamplingMessage = row 45 (codes "READ_SAMPLING_MESSAGE") (argument.Word ∷ argument.Array ∷ []) 2
shape service.GetSamplingPortId = row 46 (codes "GET_SAMPLING_PORT_ID") (argument.Object object.Port ∷ []) 1
shape service.GetSamplingPortStatus = row 47 (codes "GET_SAMPLING_PORT_STATUS") (argument.Word ∷ []) 4
shape service.CreateQueuingPort = creation 48 (codes "CREATE_QUEUING_PORT") (argument.Object object.Port ∷ []) 1
shape service.SendQueuingMessage = row 49 (codes "SEND_QUEUING_MESSAGE") (argument.Word ∷ argument.Array ∷ argument.Word ∷ argument.Word ∷ []) 0
shape service.ReceiveQueuingMessage = row 50 (codes "RECEIVE_QUEUING_MESSAGE") (argument.Word ∷ argument.Array ∷ argument.Word ∷ []) 1
shape service.GetQueuingPortId = row 51 (codes "GET_QUEUING_PORT_ID") (argument.Object object.Port ∷ []) 1
shape service.GetQueuingPortStatus = row 52 (codes "GET_QUEUING_PORT_STATUS") (argument.Word ∷ []) 5
shape service.ClearQueuingPort = row 53 (codes "CLEAR_QUEUING_PORT") (argument.Word ∷ []) 0
shape service.ReportApplicationMessage = row 54 (codes "REPORT_APPLICATION_MESSAGE") (argument.Array ∷ argument.Word ∷ []) 0
shape service.CreateErrorHandler = creation 55 (codes "CREATE_ERROR_HANDLER") [] 0
shape service.GetErrorStatus = row 56 (codes "GET_ERROR_STATUS") (argument.Array ∷ []) 3
shape service.RaiseApplicationError = row 57 (codes "RAISE_APPLICATION_ERROR") (argument.Word ∷ argument.Array ∷ argument.Word ∷ []) 0

abbrev pub number_of : Service → ℕ
number_of s = (shape s).number

abbrev pub service_word : Service → List ℕ
service_word s = (shape s).word

-- the kinds of the arguments of a service, in order
abbrev pub arguments_of : Service → List ArgumentKind
arguments_of s = (shape s).arguments

-- the number of words that an argument takes: an array takes two, its place and its size
abbrev pub words_of_kind : ArgumentKind → ℕ
words_of_kind argument.Array = 2
words_of_kind _ = 1

abbrev pub argument_words : Service → ℕ
argument_words s = sum_by words_of_kind (arguments_of s)

-- the number of words that a service returns: the code and the outputs; STOP_SELF returns none
abbrev pub answer_words : Service → ℕ
answer_words service.StopSelf = 0
answer_words s = 1 + (shape s).outputs

abbrev pub is_array : ArgumentKind → Bool
is_array argument.Array = true
is_array _ = false

abbrev pub class_of : Service → ServiceClass
class_of s = if (shape s).creates then Creation else if list_any is_array (arguments_of s) then WithArray else Other

-- the cost in ticks of a service of each class
abbrev pub cost_of_class : Costs → ServiceClass → ℕ
cost_of_class costs Creation = costs.create.ticks
cost_of_class costs WithArray = costs.message.ticks
cost_of_class costs Other = costs.service.ticks

abbrev pub cost_of_service : Costs → Service → ℕ
cost_of_service costs s = cost_of_class costs (class_of s)

-- The services in the order of their numbers, and the service of a number.

-- all services, in the order of their numbers
abbrev pub services : List Service
services =
    service.GetPartitionStatus ∷
    service.SetPartitionMode ∷
    service.GetProcessId ∷
    service.GetProcessStatus ∷
    service.CreateProcess ∷
    service.SetPriority ∷
    service.SuspendSelf ∷
    service.Suspend ∷
    service.Resume ∷
    service.StopSelf ∷
    service.Stop ∷
    service.Start ∷
    service.DelayedStart ∷
    service.LockPreemption ∷
    service.UnlockPreemption ∷
    service.GetMyId ∷
    service.TimedWait ∷
    service.PeriodicWait ∷
    service.GetTime ∷
    service.Replenish ∷
    service.CreateBuffer ∷
    service.SendBuffer ∷
    service.ReceiveBuffer ∷
    service.GetBufferId ∷
    service.GetBufferStatus ∷
    service.CreateBlackboard ∷
    service.DisplayBlackboard ∷
    service.ReadBlackboard ∷
    service.ClearBlackboard ∷
    service.GetBlackboardId ∷
    service.GetBlackboardStatus ∷
    service.CreateSemaphore ∷
    service.WaitSemaphore ∷
    service.SignalSemaphore ∷
    service.GetSemaphoreId ∷
    service.GetSemaphoreStatus ∷
    service.CreateEvent ∷
    service.SetEvent ∷
    service.ResetEvent ∷
    service.WaitEvent ∷
    service.GetEventId ∷
    service.GetEventStatus ∷
    service.CreateSamplingPort ∷
    service.WriteSamplingMessage ∷
    service.ReadSamplingMessage ∷
    service.GetSamplingPortId ∷
    service.GetSamplingPortStatus ∷
    service.CreateQueuingPort ∷
    service.SendQueuingMessage ∷
    service.ReceiveQueuingMessage ∷
    service.GetQueuingPortId ∷
    service.GetQueuingPortStatus ∷
    service.ClearQueuingPort ∷
    service.ReportApplicationMessage ∷
    service.CreateErrorHandler ∷
    service.GetErrorStatus ∷
    service.RaiseApplicationError ∷ []

-- the service of a number: they are numbered from 1
abbrev pub service_of : ℕ → Option Service
service_of number = if nat_eq number 0 then None else slice_get services (number - 1)
