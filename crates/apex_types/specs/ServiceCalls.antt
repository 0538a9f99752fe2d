-- The call of a service as the words of its arguments, and the array argument of a call.
use Rattle.std.specs.Prelude.{ℕ, ◌+◌, ℤ, pos, List, get_or, Option, Some, None}
use Rattle.apex_types.specs.declared.service.Service.{Service}
use Rattle.apex_types.specs.declared.service.Service.TheVariants as service
use Rattle.apex_types.specs.declared.service.Call.{Call}
use Rattle.apex_types.specs.declared.service.Call.TheVariants as call
use Rattle.apex_types.specs.declared.service.ObjectCall.{ObjectCall}
use Rattle.apex_types.specs.declared.service.ObjectCall.TheVariants as object
use Rattle.apex_types.specs.declared.service.PortCall.{PortCall}
use Rattle.apex_types.specs.declared.service.PortCall.TheVariants as port
use Rattle.apex_types.specs.declared.service.ArrayPlace.{ArrayPlace}

abbrev pub argument : List ℤ → ℕ → ℤ
argument words i = get_or words i (pos 0)

abbrev pub array_argument : List ℤ → ℕ → ArrayPlace
array_argument words i = record { base = argument words i; size = argument words (i + 1) }

-- the call of a service with these words as its arguments, the first pushed first
abbrev pub call_of : Service → List ℤ → Call
call_of service.GetPartitionStatus words = call.GetPartitionStatus
call_of service.SetPartitionMode words = call.SetPartitionMode (argument words 0)
call_of service.GetProcessId words = call.GetProcessId (argument words 0)
call_of service.GetProcessStatus words = call.GetProcessStatus (argument words 0)
call_of service.CreateProcess words = call.CreateProcess (argument words 0)
call_of service.SetPriority words = call.SetPriority (argument words 0) (argument words 1)
call_of service.SuspendSelf words = call.SuspendSelf (argument words 0)
call_of service.Suspend words = call.Suspend (argument words 0)
call_of service.Resume words = call.Resume (argument words 0)
call_of service.StopSelf words = call.StopSelf
call_of service.Stop words = call.Stop (argument words 0)
call_of service.Start words = call.Start (argument words 0)
call_of service.DelayedStart words = call.DelayedStart (argument words 0) (argument words 1)
call_of service.LockPreemption words = call.LockPreemption
call_of service.UnlockPreemption words = call.UnlockPreemption
call_of service.GetMyId words = call.GetMyId
call_of service.TimedWait words = call.TimedWait (argument words 0)
call_of service.PeriodicWait words = call.PeriodicWait
call_of service.GetTime words = call.GetTime
call_of service.Replenish words = call.Replenish (argument words 0)
call_of service.CreateBuffer words = call.Object (object.CreateBuffer (argument words 0))
call_of service.SendBuffer words = call.Object (object.SendBuffer (argument words 0) (array_argument words 1) (argument words 3) (argument words 4))
call_of service.ReceiveBuffer words = call.Object (object.ReceiveBuffer (argument words 0) (array_argument words 1) (argument words 3))
call_of service.GetBufferId words = call.Object (object.GetBufferId (argument words 0))
call_of service.GetBufferStatus words = call.Object (object.GetBufferStatus (argument words 0))
call_of service.CreateBlackboard words = call.Object (object.CreateBlackboard (argument words 0))
call_of service.DisplayBlackboard words = call.Object (object.DisplayBlackboard (argument words 0) (array_argument words 1) (argument words 3))
call_of service.ReadBlackboard words = call.Object (object.ReadBlackboard (argument words 0) (array_argument words 1) (argument words 3))
call_of service.ClearBlackboard words = call.Object (object.ClearBlackboard (argument words 0))
call_of service.GetBlackboardId words = call.Object (object.GetBlackboardId (argument words 0))
call_of service.GetBlackboardStatus words = call.Object (object.GetBlackboardStatus (argument words 0))
call_of service.CreateSemaphore words = call.Object (object.CreateSemaphore (argument words 0))
call_of service.WaitSemaphore words = call.Object (object.WaitSemaphore (argument words 0) (argument words 1))
call_of service.SignalSemaphore words = call.Object (object.SignalSemaphore (argument words 0))
call_of service.GetSemaphoreId words = call.Object (object.GetSemaphoreId (argument words 0))
call_of service.GetSemaphoreStatus words = call.Object (object.GetSemaphoreStatus (argument words 0))
call_of service.CreateEvent words = call.Object (object.CreateEvent (argument words 0))
call_of service.SetEvent words = call.Object (object.SetEvent (argument words 0))
call_of service.ResetEvent words = call.Object (object.ResetEvent (argument words 0))
call_of service.WaitEvent words = call.Object (object.WaitEvent (argument words 0) (argument words 1))
call_of service.GetEventId words = call.Object (object.GetEventId (argument words 0))
call_of service.GetEventStatus words = call.Object (object.GetEventStatus (argument words 0))
call_of service.CreateSamplingPort words = call.Port (port.CreateSamplingPort (argument words 0))
call_of service.WriteSamplingMessage words = call.Port (port.WriteSamplingMessage (argument words 0) (array_argument words 1) (argument words 3))
call_of service.ReadSamplingMessage words = call.Port (port.ReadSamplingMessage (argument words 0) (array_argument words 1))
call_of service.GetSamplingPortId words = call.Port (port.GetSamplingPortId (argument words 0))
call_of service.GetSamplingPortStatus words = call.Port (port.GetSamplingPortStatus (argument words 0))
call_of service.CreateQueuingPort words = call.Port (port.CreateQueuingPort (argument words 0))
call_of service.SendQueuingMessage words = call.Port (port.SendQueuingMessage (argument words 0) (array_argument words 1) (argument words 3) (argument words 4))
call_of service.ReceiveQueuingMessage words = call.Port (port.ReceiveQueuingMessage (argument words 0) (array_argument words 1) (argument words 3))
call_of service.GetQueuingPortId words = call.Port (port.GetQueuingPortId (argument words 0))
call_of service.GetQueuingPortStatus words = call.Port (port.GetQueuingPortStatus (argument words 0))
call_of service.ClearQueuingPort words = call.Port (port.ClearQueuingPort (argument words 0))
call_of service.ReportApplicationMessage words = call.ReportApplicationMessage (array_argument words 0) (argument words 2)
call_of service.CreateErrorHandler words = call.CreateErrorHandler
call_of service.GetErrorStatus words = call.GetErrorStatus (array_argument words 0)
call_of service.RaiseApplicationError words = call.RaiseApplicationError (argument words 0) (array_argument words 1) (argument words 3)

-- the array argument of a call, if it has one
abbrev pub array_of_object : ObjectCall → Option ArrayPlace
array_of_object (object.SendBuffer _ a _ _) = Some a
array_of_object (object.ReceiveBuffer _ a _) = Some a
array_of_object (object.DisplayBlackboard _ a _) = Some a
array_of_object (object.ReadBlackboard _ a _) = Some a
array_of_object _ = None

abbrev pub array_of_port : PortCall → Option ArrayPlace
array_of_port (port.WriteSamplingMessage _ a _) = Some a
array_of_port (port.ReadSamplingMessage _ a) = Some a
array_of_port (port.SendQueuingMessage _ a _ _) = Some a
array_of_port (port.ReceiveQueuingMessage _ a _) = Some a
array_of_port _ = None

abbrev pub array_of : Call → Option ArrayPlace
array_of (call.Object c) = array_of_object c
array_of (call.Port c) = array_of_port c
array_of (call.ReportApplicationMessage a _) = Some a
array_of (call.GetErrorStatus a) = Some a
array_of (call.RaiseApplicationError _ a _) = Some a
array_of _ = None
