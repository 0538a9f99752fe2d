-- The dispatch of the services on objects.
use Rattle.std.specs.Prelude.{ℤ, List}
use Rattle.apex_types.specs.declared.codes.Mode.{Mode}
use Rattle.apex_types.specs.declared.identity.At.{At}
use Rattle.apex_types.specs.declared.identity.Runner.{Runner}
use Rattle.apex_types.specs.declared.service.ObjectCall.{ObjectCall}
use Rattle.apex_types.specs.declared.service.ObjectCall.TheVariants as object
use Rattle.kernel_meaning.specs.BlackboardServices.{create_blackboard, display_blackboard, read_blackboard, clear_blackboard, get_blackboard_id, get_blackboard_status}
use Rattle.kernel_meaning.specs.BufferServices.{create_buffer, send_buffer, receive_buffer, get_buffer_id, get_buffer_status}
use Rattle.kernel_meaning.specs.EventServices.{create_event, set_event, reset_event, wait_event, get_event_id, get_event_status}
use Rattle.kernel_meaning.specs.SemaphoreServices.{create_semaphore, wait_semaphore, signal_semaphore, get_semaphore_id, get_semaphore_status}
use Rattle.kernel_meaning.specs.Objects.{Objects}
use Rattle.kernel_meaning.specs.Sharing.{Sharing}
use Rattle.kernel_meaning.specs.Step.{Step}

-- the services on semaphores, events, buffers and blackboards, in a mode
abbrev pub serves_objects : Mode → At → Sharing Objects → Runner → ObjectCall → List ℤ → Step (Sharing Objects)
serves_objects m at b p (object.CreateBuffer name) words = create_buffer m b p name
serves_objects m at b p (object.SendBuffer id array length limit) words = send_buffer at b p id array length limit words
serves_objects m at b p (object.ReceiveBuffer id array limit) words = receive_buffer at b p id array limit
serves_objects m at b p (object.GetBufferId name) words = get_buffer_id b p name
serves_objects m at b p (object.GetBufferStatus id) words = get_buffer_status b p id
serves_objects m at b p (object.CreateBlackboard name) words = create_blackboard m b p name
serves_objects m at b p (object.DisplayBlackboard id array length) words = display_blackboard b p id array length words
serves_objects m at b p (object.ReadBlackboard id array limit) words = read_blackboard at b p id array limit
serves_objects m at b p (object.ClearBlackboard id) words = clear_blackboard b p id
serves_objects m at b p (object.GetBlackboardId name) words = get_blackboard_id b p name
serves_objects m at b p (object.GetBlackboardStatus id) words = get_blackboard_status b p id
serves_objects m at b p (object.CreateSemaphore name) words = create_semaphore m b p name
serves_objects m at b p (object.WaitSemaphore id limit) words = wait_semaphore at b p id limit
serves_objects m at b p (object.SignalSemaphore id) words = signal_semaphore b p id
serves_objects m at b p (object.GetSemaphoreId name) words = get_semaphore_id b p name
serves_objects m at b p (object.GetSemaphoreStatus id) words = get_semaphore_status b p id
serves_objects m at b p (object.CreateEvent name) words = create_event m b p name
serves_objects m at b p (object.SetEvent id) words = set_event b p id
serves_objects m at b p (object.ResetEvent id) words = reset_event b p id
serves_objects m at b p (object.WaitEvent id limit) words = wait_event at b p id limit
serves_objects m at b p (object.GetEventId name) words = get_event_id b p name
serves_objects m at b p (object.GetEventStatus id) words = get_event_status b p id
