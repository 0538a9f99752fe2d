-- Who goes last: among the ready processes of its priority, and in a waiting list.
use Rattle.std.specs.Prelude.{◌≡◌, ◌⊎◌, ℕ, suc, ℤ, pos, Bool, true, false, List, [], ◌∷◌, Option, Some, None, option_map}
use Rattle.std.specs.List.{list_any}
use Rattle.apex_types.specs.declared.codes.Discipline.{Discipline}
use Rattle.apex_types.specs.declared.codes.Discipline.TheVariants as discipline
use Rattle.apex_types.specs.declared.codes.ReturnCode.{ReturnCode}
use Rattle.apex_types.specs.declared.codes.ReturnCode.TheVariants as code
use Rattle.apex_types.specs.declared.event.EventKind.{EventKind}
use Rattle.apex_types.specs.declared.event.EventKind.TheVariants as event
use Rattle.apex_types.specs.declared.identity.ListKey.{ListKey}
use Rattle.apex_types.specs.declared.identity.ListKey.TheVariants as key
use Rattle.apex_types.specs.declared.identity.Priority.{Priority}
use Rattle.apex_types.specs.declared.identity.ProcessIndex.{ProcessIndex}
use Rattle.apex_types.specs.declared.process.Entry.{Entry}
use Rattle.apex_types.specs.declared.service.Call.{Call}
use Rattle.apex_types.specs.declared.service.Call.TheVariants as call
use Rattle.apex_types.specs.declared.service.ObjectCall.TheVariants as object
use Rattle.apex_types.specs.declared.service.PortCall.TheVariants as port
use Rattle.engine_meaning.specs.Engine.{Asks, Calls}

-- no entry has this priority
abbrev pub HaveOtherPriorities : Priority → List Entry → Type 0
HaveOtherPriorities priority [] = Unit {0}
HaveOtherPriorities priority (e ∷ es) = (e.priority ≡ priority → ⊥) × HaveOtherPriorities priority es

-- the process stands in the list, and none of its priority stands behind it
abbrev pub IsLastOfEquals : ProcessIndex → List Entry → Type 0
IsLastOfEquals p [] = ⊥
IsLastOfEquals p (e ∷ es) = ((e.process ≡ p) × HaveOtherPriorities e.priority es) ⊎ IsLastOfEquals p es

-- ---- a service that succeeds

abbrev pub is_no_error : ReturnCode → Bool
is_no_error code.NoError = true
is_no_error _ = false

abbrev pub is_success : EventKind → Bool
is_success (event.Return who service c) = is_no_error c
is_success _ = false

-- a service returns NO_ERROR among these lines
abbrev pub has_success : List EventKind → Bool
has_success lines = list_any is_success lines

-- ---- a waiting list

-- the process stands in the list, and none stands behind it
abbrev pub IsLast : ProcessIndex → List Entry → Type 0
IsLast p [] = ⊥
IsLast p (e ∷ es) = ((e.process ≡ p) × (es ≡ [])) ⊎ IsLast p es

-- first in, first out: behind all; by priority: behind all of its priority
abbrev pub IsLastUnder : Discipline → ProcessIndex → List Entry → Type 0
IsLastUnder discipline.Fifo p es = IsLast p es
IsLastUnder discipline.Priority p es = IsLastOfEquals p es

-- an object or a port has its number one above its place
abbrev pub place_of_object : ℤ → Option ℕ
place_of_object (pos (suc n)) = Some n
place_of_object _ = None

-- the list of the object or port that a call names, if its caller may have to wait there
abbrev pub list_named : Call → Option ListKey
list_named (call.Object (object.SendBuffer id array length limit)) = option_map key.Buffer (place_of_object id)
list_named (call.Object (object.ReceiveBuffer id array limit)) = option_map key.Buffer (place_of_object id)
list_named (call.Object (object.ReadBlackboard id array limit)) = option_map key.Blackboard (place_of_object id)
list_named (call.Object (object.WaitSemaphore id limit)) = option_map key.Semaphore (place_of_object id)
list_named (call.Object (object.WaitEvent id limit)) = option_map key.Event (place_of_object id)
list_named (call.Port (port.SendQueuingMessage id array length limit)) = option_map key.Port (place_of_object id)
list_named (call.Port (port.ReceiveQueuingMessage id array limit)) = option_map key.Port (place_of_object id)
list_named _ = None

abbrev pub list_asked : Asks → Option ListKey
list_asked (Calls c) = list_named c
list_asked _ = None
