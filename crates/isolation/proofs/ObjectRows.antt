-- The services on objects keep the property of the processes that wait at ports.
use Rattle.isolation.proofs.Prelude.{ℕ, ℤ, Bool, List, ◌∷◌, length, Option, Some, None, nat_lt, pos, if◌then◌else◌, ArrayVec, Mode, At, Runner, ProcessStatus, Waiting, PortRow, ArrayPlace, Call, Objects, Sharing, on, Step, message, blocks, first_waiting, waiting}
use Rattle.std.proofs.Common.{[]}
use Rattle.apex_types.specs.declared.codes.ReturnCode.TheVariants as code
use Rattle.apex_types.specs.declared.service.ObjectCall.{ObjectCall}
use Rattle.apex_types.specs.declared.service.ObjectCall.TheVariants as object
use Rattle.kernel_meaning.specs.BlackboardServices as blackboards
use Rattle.kernel_meaning.specs.BufferServices as buffers
use Rattle.kernel_meaning.specs.EventServices as events
use Rattle.kernel_meaning.specs.Objects.{Blackboard, Buffer, Semaphore, ApexEvent}
use Rattle.kernel_meaning.specs.ObjectServices.{serves_objects}
use Rattle.kernel_meaning.specs.SemaphoreServices as semaphores
use Rattle.kernel_meaning.specs.Sharing.{of_processes}
use Rattle.isolation.proofs.Handed.{AsksIn, IsSoundProcesses, either_so, released_sound, released_with_sound, all_released_sound, all_given_sound, blocks_sound}

module _ (rows : List PortRow) where
  -- ---- what is shared
  module _ {O : Type 0} where
    abbrev Sound : Step (Sharing O) → Type 0
    Sound s = IsSoundProcesses rows s.part.processes

    pub either : (b : Bool) (s t : Step (Sharing O)) → Sound s → Sound t → Sound (if b then s else t)
    either b s t h k = either_so (λ (c : Sharing O). IsSoundProcesses rows c.processes) b s t h k

    -- a step for the object found
    on_sound : {X : Type 0} (o : Option (ℕ × X)) (b : Sharing O) (step : ℕ → X → Step (Sharing O)) → IsSoundProcesses rows b.processes → ((place : ℕ) (x : X) → Sound (step place x)) → Sound (on o b step)
    on_sound None b step h k = h
    on_sound (Some f) b step h k = k f.0 f.1

  -- ---- objects
  module _ (b : Sharing Objects) (h : IsSoundProcesses rows b.processes) (p : Runner) where
    abbrev IsKept : Step (Sharing Objects) → Type 0
    IsKept s = IsSoundProcesses rows s.part.processes

    -- a process that waits for an object, which has no condition on its message
    waits_sound : (at : At) (limit : ℤ) (w : Waiting) (m : ArrayVec ℤ) → AsksIn rows w.list m → IsKept (of_processes b (blocks at b.processes p limit w m))
    waits_sound at limit w m good = blocks_sound rows at b.processes p limit w m good h

    -- the first waiting process is released
    signals_sound : (place : ℕ) (x : Semaphore) (o : Option (Runner × ProcessStatus)) → IsKept (semaphores.signals b place x o)
    signals_sound place x None = h
    signals_sound place x (Some f) = released_sound rows b.processes f.0 f.1 code.NoError h

    signals_first_sound : (place : ℕ) (x : Semaphore) → IsKept (semaphores.signals b place x (first_waiting b.processes (semaphores.list place)))
    signals_first_sound place x = signals_sound place x (first_waiting b.processes (semaphores.list place))

    -- the first receiver that waits takes the message
    takes_message_sound : (place : ℕ) (x : Buffer) (m : ArrayVec ℤ) (o : Option (Runner × ProcessStatus)) → IsKept (buffers.takes_message b place x m o)
    takes_message_sound place x m None = h
    takes_message_sound place x m (Some f) = released_with_sound rows b.processes f.0 f.1 code.NoError (pos (length m.items) ∷ []) h

    -- the first sender that waits enters
    admits_sound : (place : ℕ) (x : Buffer) (o : Option (Runner × ProcessStatus)) → IsKept (buffers.admits b place x o)
    admits_sound place x None = h
    admits_sound place x (Some f) = released_sound rows b.processes f.0 f.1 code.NoError h

    receives_sound : (at : At) (array : ArrayPlace) (limit : ℤ) (place : ℕ) (x : Buffer) (ms : List (ArrayVec ℤ)) → IsKept (buffers.receives at b p array limit place x ms)
    receives_sound at array limit place x [] = waits_sound at limit (buffers.receiver place x array) (message []) tt
    receives_sound at array limit place x (m ∷ rest) = admits_sound place (record x { messages = rest }) (first_waiting b.processes (buffers.list place))

    receives_own_sound : (at : At) (array : ArrayPlace) (limit : ℤ) (place : ℕ) (x : Buffer) → IsKept (buffers.receives at b p array limit place x x.messages)
    receives_own_sound at array limit place x = receives_sound at array limit place x x.messages

    reads_sound : (at : At) (array : ArrayPlace) (limit : ℤ) (place : ℕ) (o : Option (ArrayVec ℤ)) → IsKept (blackboards.reads at b p array limit place o)
    reads_sound at array limit place None = waits_sound at limit (blackboards.reader place array) (message []) tt
    reads_sound at array limit place (Some m) = h

    reads_shown_sound : (at : At) (array : ArrayPlace) (limit : ℤ) (place : ℕ) (x : Blackboard) → IsKept (blackboards.reads at b p array limit place x.shown)
    reads_shown_sound at array limit place x = reads_sound at array limit place x.shown

    -- the effects of services on the object found
    takes_sound : (at : At) (limit : ℤ) (place : ℕ) (x : Semaphore) → IsKept (semaphores.takes at b p limit place x)
    takes_sound at limit place x = either (nat_lt 0 x.value) _ _ h (waits_sound at limit (semaphores.waiting_for place x) (message []) tt)

    awaits_sound : (at : At) (limit : ℤ) (place : ℕ) (x : ApexEvent) → IsKept (events.awaits at b p limit place x)
    awaits_sound at limit place x = either x.up _ _ h (waits_sound at limit (events.waiting_for place) (message []) tt)

    sends_sound : (at : At) (limit : ℤ) (m : ArrayVec ℤ) (place : ℕ) (x : Buffer) → IsKept (buffers.sends at b p limit m place x)
    sends_sound at limit m place x = either (buffers.is_full x) _ _ (waits_sound at limit (buffers.sender place x) m tt) (takes_message_sound place x m (first_waiting b.processes (buffers.list place)))

    raises_sound : (place : ℕ) (x : ApexEvent) → IsKept (events.raises b place x)
    raises_sound place x = all_released_sound rows (waiting b.processes (events.list place)) b.processes h

    displays_sound : (m : ArrayVec ℤ) (place : ℕ) (x : Blackboard) → IsKept (blackboards.displays b m place x)
    displays_sound m place x = all_given_sound rows (waiting b.processes (blackboards.list place)) m b.processes h

    -- ---- the services
    wait_semaphore_sound : (at : At) (id limit : ℤ) → IsKept (semaphores.wait_semaphore at b p id limit)
    wait_semaphore_sound at id limit = search (either, on_sound, takes_sound)

    signal_semaphore_sound : (id : ℤ) → IsKept (semaphores.signal_semaphore b p id)
    signal_semaphore_sound id = search (either, on_sound, signals_first_sound)

    set_event_sound : (id : ℤ) → IsKept (events.set_event b p id)
    set_event_sound id = search (either, on_sound, raises_sound)

    wait_event_sound : (at : At) (id limit : ℤ) → IsKept (events.wait_event at b p id limit)
    wait_event_sound at id limit = search (either, on_sound, awaits_sound)

    send_buffer_sound : (at : At) (id : ℤ) (array : ArrayPlace) (size limit : ℤ) (words : List ℤ) → IsKept (buffers.send_buffer at b p id array size limit words)
    send_buffer_sound at id array size limit words = search (either, on_sound, sends_sound)

    receive_buffer_sound : (at : At) (id : ℤ) (array : ArrayPlace) (limit : ℤ) → IsKept (buffers.receive_buffer at b p id array limit)
    receive_buffer_sound at id array limit = search (either, on_sound, receives_own_sound)

    display_blackboard_sound : (id : ℤ) (array : ArrayPlace) (size : ℤ) (words : List ℤ) → IsKept (blackboards.display_blackboard b p id array size words)
    display_blackboard_sound id array size words = search (either, on_sound, displays_sound)

    read_blackboard_sound : (at : At) (id : ℤ) (array : ArrayPlace) (limit : ℤ) → IsKept (blackboards.read_blackboard at b p id array limit)
    read_blackboard_sound at id array limit = search (either, on_sound, reads_shown_sound)

    -- Each service on objects. The last clause is for the services that change no process.
    pub objects_sound : (m : Mode) (at : At) (c : ObjectCall) (words : List ℤ) → IsKept (serves_objects m at b p c words)
    objects_sound m at (object.SendBuffer id array size limit) words = send_buffer_sound at id array size limit words
    objects_sound m at (object.ReceiveBuffer id array limit) words = receive_buffer_sound at id array limit
    objects_sound m at (object.DisplayBlackboard id array size) words = display_blackboard_sound id array size words
    objects_sound m at (object.ReadBlackboard id array limit) words = read_blackboard_sound at id array limit
    objects_sound m at (object.WaitSemaphore id limit) words = wait_semaphore_sound at id limit
    objects_sound m at (object.SignalSemaphore id) words = signal_semaphore_sound id
    objects_sound m at (object.SetEvent id) words = set_event_sound id
    objects_sound m at (object.WaitEvent id limit) words = wait_event_sound at id limit
    objects_sound m at c words = search (either, on_sound)
