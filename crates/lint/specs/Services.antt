-- What services do, as far as this can be seen just from their names.
use Rattle.std.specs.Prelude.{Bool, true, false, Option, Some, None}
use Rattle.apex_types.specs.declared.denotation.ObjectKind.{ObjectKind}
use Rattle.apex_types.specs.declared.denotation.ObjectKind.TheVariants as object
use Rattle.apex_types.specs.declared.row.PortDirection.{PortDirection}
use Rattle.apex_types.specs.declared.row.PortDirection.TheVariants.{Source, Destination}
use Rattle.apex_types.specs.declared.service.Service.{Service}
use Rattle.apex_types.specs.declared.service.Service.TheVariants as service

-- the kind of what a service creates, where it is declared by name
abbrev pub created_kind : Service → Option ObjectKind
created_kind service.CreateProcess = Some object.Process
created_kind service.CreateBuffer = Some object.Buffer
created_kind service.CreateBlackboard = Some object.Blackboard
created_kind service.CreateSemaphore = Some object.Semaphore
created_kind service.CreateEvent = Some object.Event
created_kind service.CreateSamplingPort = Some object.Port
created_kind service.CreateQueuingPort = Some object.Port
created_kind _ = None

-- the kind of object whose number a service returns: it creates the object, or finds it by its name
abbrev pub numbered_kind : Service → Option ObjectKind
numbered_kind service.GetProcessId = Some object.Process
numbered_kind service.GetBufferId = Some object.Buffer
numbered_kind service.GetBlackboardId = Some object.Blackboard
numbered_kind service.GetSemaphoreId = Some object.Semaphore
numbered_kind service.GetEventId = Some object.Event
numbered_kind service.GetSamplingPortId = Some object.Port
numbered_kind service.GetQueuingPortId = Some object.Port
numbered_kind s = created_kind s

-- the kind of what the message comes from that a service stores in its array
abbrev pub stored_kind : Service → Option ObjectKind
stored_kind service.ReceiveBuffer = Some object.Buffer
stored_kind service.ReadBlackboard = Some object.Blackboard
stored_kind service.ReadSamplingMessage = Some object.Port
stored_kind service.ReceiveQueuingMessage = Some object.Port
stored_kind _ = None

-- the kind of what takes the message that a service sends from its array
abbrev pub sent_kind : Service → Option ObjectKind
sent_kind service.SendBuffer = Some object.Buffer
sent_kind service.DisplayBlackboard = Some object.Blackboard
sent_kind service.WriteSamplingMessage = Some object.Port
sent_kind service.SendQueuingMessage = Some object.Port
sent_kind _ = None

-- the kind of what a process waits for that another process signals or sets, and the kind of what a service signals or sets
abbrev pub awaited_kind : Service → Option ObjectKind
awaited_kind service.WaitSemaphore = Some object.Semaphore
awaited_kind service.WaitEvent = Some object.Event
awaited_kind _ = None

abbrev pub signalled_kind : Service → Option ObjectKind
signalled_kind service.SignalSemaphore = Some object.Semaphore
signalled_kind service.SetEvent = Some object.Event
signalled_kind _ = None

-- its first argument is the number of an object, a port or a process
abbrev pub takes_number : Service → Bool
takes_number service.GetProcessStatus = true
takes_number service.SetPriority = true
takes_number service.Suspend = true
takes_number service.Resume = true
takes_number service.Stop = true
takes_number service.Start = true
takes_number service.DelayedStart = true
takes_number service.SendBuffer = true
takes_number service.ReceiveBuffer = true
takes_number service.GetBufferStatus = true
takes_number service.DisplayBlackboard = true
takes_number service.ReadBlackboard = true
takes_number service.ClearBlackboard = true
takes_number service.GetBlackboardStatus = true
takes_number service.WaitSemaphore = true
takes_number service.SignalSemaphore = true
takes_number service.GetSemaphoreStatus = true
takes_number service.SetEvent = true
takes_number service.ResetEvent = true
takes_number service.WaitEvent = true
takes_number service.GetEventStatus = true
takes_number service.WriteSamplingMessage = true
takes_number service.ReadSamplingMessage = true
takes_number service.GetSamplingPortStatus = true
takes_number service.SendQueuingMessage = true
takes_number service.ReceiveQueuingMessage = true
takes_number service.GetQueuingPortStatus = true
takes_number service.ClearQueuingPort = true
takes_number _ = false

-- it starts the process of a number
abbrev pub is_start : Service → Bool
is_start service.Start = true
is_start service.DelayedStart = true
is_start _ = false

abbrev pub is_set_mode : Service → Bool
is_set_mode service.SetPartitionMode = true
is_set_mode _ = false

abbrev pub is_periodic_wait : Service → Bool
is_periodic_wait service.PeriodicWait = true
is_periodic_wait _ = false

abbrev pub is_handler_creation : Service → Bool
is_handler_creation service.CreateErrorHandler = true
is_handler_creation _ = false

abbrev pub is_error_status : Service → Bool
is_error_status service.GetErrorStatus = true
is_error_status _ = false

-- who asks for it ends, or may end
abbrev pub ends_caller : Service → Bool
ends_caller service.StopSelf = true
ends_caller service.SetPartitionMode = true
ends_caller _ = false

-- the process that asks for it waits, whatever its arguments are
abbrev pub always_waits : Service → Bool
always_waits service.TimedWait = true
always_waits service.PeriodicWait = true
always_waits service.SuspendSelf = true
always_waits _ = false

-- its last argument says how long to wait
abbrev pub has_time_out : Service → Bool
has_time_out service.SendBuffer = true
has_time_out service.ReceiveBuffer = true
has_time_out service.ReadBlackboard = true
has_time_out service.WaitSemaphore = true
has_time_out service.WaitEvent = true
has_time_out service.SendQueuingMessage = true
has_time_out service.ReceiveQueuingMessage = true
has_time_out _ = false

-- whether the ports that a service is for are queuing ports; none for a service that is for no port
abbrev pub port_kind : Service → Option Bool
port_kind service.CreateSamplingPort = Some false
port_kind service.WriteSamplingMessage = Some false
port_kind service.ReadSamplingMessage = Some false
port_kind service.GetSamplingPortId = Some false
port_kind service.GetSamplingPortStatus = Some false
port_kind service.CreateQueuingPort = Some true
port_kind service.SendQueuingMessage = Some true
port_kind service.ReceiveQueuingMessage = Some true
port_kind service.GetQueuingPortId = Some true
port_kind service.GetQueuingPortStatus = Some true
port_kind service.ClearQueuingPort = Some true
port_kind _ = None

-- the direction of the ports that a service is for; none if it is for both
abbrev pub port_direction : Service → Option PortDirection
port_direction service.WriteSamplingMessage = Some Source
port_direction service.SendQueuingMessage = Some Source
port_direction service.ReadSamplingMessage = Some Destination
port_direction service.ReceiveQueuingMessage = Some Destination
port_direction service.ClearQueuingPort = Some Destination
port_direction _ = None
