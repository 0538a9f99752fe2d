-- The services on objects and on ports, and the messages that arrive and leave, keep the agreement
-- of the waiting lists with the records.
use Rattle.kernel_laws.proofs.Prelude.{◌≡◌, ℕ, ◌<◌, ℤ, Bool, true, List, ◌∷◌, Option, Some, None, refl, nat_lt, if◌then◌else◌, ArrayVec, Mode, At, Runner, Entry, ProcessStatus, ArrayPlace, serves_objects, Objects, Blackboard, Buffer, Semaphore, ApexEvent, Port, Ports, is_full, is_sampling, numbered_in, port_at, row_of, numbered, Sharing, Step, message, blocks, first_waiting, waiting}
use Rattle.std.proofs.Common.{[]}
use Rattle.apex_types.specs.declared.codes.ReturnCode.TheVariants as code
use Rattle.apex_types.specs.declared.identity.Runner.TheVariants as runner
use Rattle.apex_types.specs.declared.limits.TheConstants.{MOST_OBJECTS}
use Rattle.apex_types.specs.declared.process.Waiting.{Waiting}
use Rattle.apex_types.specs.declared.service.ObjectCall.{ObjectCall}
use Rattle.apex_types.specs.declared.service.ObjectCall.TheVariants as object
use Rattle.apex_types.specs.declared.service.PortCall.{PortCall}
use Rattle.apex_types.specs.declared.service.PortCall.TheVariants as port
use Rattle.kernel_meaning.specs.BlackboardServices as blackboards
use Rattle.kernel_meaning.specs.BufferServices as buffers
use Rattle.kernel_meaning.specs.EventServices as events
use Rattle.kernel_meaning.specs.Objects.{blackboard, buffer, event, queuing, semaphore}
use Rattle.kernel_meaning.specs.PortServices as ports
use Rattle.kernel_meaning.specs.SemaphoreServices as semaphores
use Rattle.kernel_meaning.specs.Sharing.{of_processes, on}
use Rattle.kernel_laws.specs.WhoWaits.{is_at_kind}
use Rattle.kernel_laws.proofs.InRange.{AreInRange, IsInRange, PortsAreInRange}
use Rattle.kernel_laws.proofs.OfPorts.{queuing_of}
use Rattle.kernel_laws.proofs.Records.{IsFound, numbered_found, first_waiting_found}
use Rattle.kernel_laws.proofs.Shares.{numbered_is}
use Rattle.kernel_laws.proofs.WaitingCounts.{place_in}
use Rattle.kernel_laws.proofs.WaitSteps.{Hold, all_given_hold, all_released_hold, blocks_holds, gives_holds, released_holds}
use Rattle.kernel_laws.proofs.WaitSteps as steps

-- ---- what is shared

module _ {O : Type 0} where
  abbrev Holds : Type 0 → Step (Sharing O) → Type 0
  Holds few s = Hold few s.part.processes

  pub either : {few : Type 0} (b : Bool) (s t : Step (Sharing O)) → Holds few s → Holds few t → Holds few (if b then s else t)
  either b s t h k = steps.either (λ (c : Sharing O). c.processes) b s t (λ e. h) (λ e. k)

  -- a step for the object found
  on_holds : {few X : Type 0} (o : Option (ℕ × X)) (b : Sharing O) (step : ℕ → X → Step (Sharing O)) → Hold few b.processes → ((place : ℕ) (x : X) → Holds few (step place x)) → Holds few (on o b step)
  on_holds None b step h k = h
  on_holds (Some f) b step h k = k f.0 f.1

  on_found : {few X : Type 0} (o : Option (ℕ × X)) (b : Sharing O) (step : ℕ → X → Step (Sharing O)) → Hold few b.processes → ((f : ℕ × X) → o ≡ Some f → Holds few (step f.0 f.1)) → Holds few (on o b step)
  on_found None b step h k = h
  on_found (Some f) b step h k = k f refl

-- ---- objects

module _ {few : Type 0} (b : Sharing Objects) (h : Hold few b.processes) (range : few → AreInRange b.shared) (p : Runner) where
  abbrev IsKept : Step (Sharing Objects) → Type 0
  IsKept s = Hold few s.part.processes

  waits_hold : (at : At) (limit : ℤ) (w : Waiting) (m : ArrayVec ℤ) → is_at_kind w.list w.service ≡ true → (few → place_in w.list < MOST_OBJECTS) → IsKept (of_processes b (blocks at b.processes p limit w m))
  waits_hold at limit w m fits room = blocks_holds b.processes h at p limit w m fits room

  -- the first waiting process is released
  signals_hold : (place : ℕ) (x : Semaphore) → IsKept (semaphores.signals b place x (first_waiting b.processes (semaphores.list place)))
  signals_hold place x = first (first_waiting b.processes (semaphores.list place)) (first_waiting_found b.processes (semaphores.list place))
    where
      first : (o : Option (Runner × ProcessStatus)) → IsFound b.processes o → IsKept (semaphores.signals b place x o)
      first None found = h
      first (Some f) found = released_holds b.processes h f.0 f.1 f.1 code.NoError (found f refl)

  -- the first receiver that waits takes the message
  takes_message_holds : (place : ℕ) (x : Buffer) (m : ArrayVec ℤ) → IsKept (buffers.takes_message b place x m (first_waiting b.processes (buffers.list place)))
  takes_message_holds place x m = first (first_waiting b.processes (buffers.list place)) (first_waiting_found b.processes (buffers.list place))
    where
      first : (o : Option (Runner × ProcessStatus)) → IsFound b.processes o → IsKept (buffers.takes_message b place x m o)
      first None found = h
      first (Some f) found = gives_holds b.processes h f.0 f.1 m (found f refl)

  -- the first sender that waits enters
  admits_hold : (place : ℕ) (x : Buffer) → IsKept (buffers.admits b place x (first_waiting b.processes (buffers.list place)))
  admits_hold place x = first (first_waiting b.processes (buffers.list place)) (first_waiting_found b.processes (buffers.list place))
    where
      first : (o : Option (Runner × ProcessStatus)) → IsFound b.processes o → IsKept (buffers.admits b place x o)
      first None found = h
      first (Some f) found = released_holds b.processes h f.0 f.1 f.1 code.NoError (found f refl)

  receives_hold : (at : At) (array : ArrayPlace) (limit : ℤ) (place : ℕ) (x : Buffer) (ms : List (ArrayVec ℤ)) → (few → place < MOST_OBJECTS) → IsKept (buffers.receives at b p array limit place x ms)
  receives_hold at array limit place x [] room = waits_hold at limit (buffers.receiver place x array) (message []) refl room
  receives_hold at array limit place x (m ∷ rest) room = admits_hold place (record x { messages = rest })

  reads_hold : (at : At) (array : ArrayPlace) (limit : ℤ) (place : ℕ) (o : Option (ArrayVec ℤ)) → (few → place < MOST_OBJECTS) → IsKept (blackboards.reads at b p array limit place o)
  reads_hold at array limit place None room = waits_hold at limit (blackboards.reader place array) (message []) refl room
  reads_hold at array limit place (Some m) room = h

  -- the effects of services on the object found
  takes_found : (at : At) (limit id : ℤ) (f : ℕ × Semaphore) → semaphore b.shared id ≡ Some f → IsKept (semaphores.takes at b p limit f.0 f.1)
  takes_found at limit id f e =
      either (nat_lt 0 f.1.value) _ _ h (waits_hold at limit (semaphores.waiting_for f.0 f.1) (message []) refl (λ so. let g = range so in numbered_is IsInRange b.shared.semaphores id f g.semaphores e))

  awaits_found : (at : At) (limit id : ℤ) (f : ℕ × ApexEvent) → event b.shared id ≡ Some f → IsKept (events.awaits at b p limit f.0 f.1)
  awaits_found at limit id f e = either f.1.up _ _ h (waits_hold at limit (events.waiting_for f.0) (message []) refl (λ so. let g = range so in numbered_is IsInRange b.shared.events id f g.events e))

  sends_found : (at : At) (limit : ℤ) (m : ArrayVec ℤ) (id : ℤ) (f : ℕ × Buffer) → buffer b.shared id ≡ Some f → IsKept (buffers.sends at b p limit m f.0 f.1)
  sends_found at limit m id f e =
      either (buffers.is_full f.1) _ _ (waits_hold at limit (buffers.sender f.0 f.1) m refl (λ so. let g = range so in numbered_is IsInRange b.shared.buffers id f g.buffers e)) (takes_message_holds f.0 f.1 m)

  receives_found : (at : At) (array : ArrayPlace) (limit id : ℤ) (f : ℕ × Buffer) → buffer b.shared id ≡ Some f → IsKept (buffers.receives at b p array limit f.0 f.1 f.1.messages)
  receives_found at array limit id f e = receives_hold at array limit f.0 f.1 f.1.messages (λ so. let g = range so in numbered_is IsInRange b.shared.buffers id f g.buffers e)

  reads_found : (at : At) (array : ArrayPlace) (limit id : ℤ) (f : ℕ × Blackboard) → blackboard b.shared id ≡ Some f → IsKept (blackboards.reads at b p array limit f.0 f.1.shown)
  reads_found at array limit id f e = reads_hold at array limit f.0 f.1.shown (λ so. let g = range so in numbered_is IsInRange b.shared.blackboards id f g.blackboards e)

  raises_hold : (place : ℕ) (x : ApexEvent) → IsKept (events.raises b place x)
  raises_hold place x = all_released_hold (waiting b.processes (events.list place)) b.processes h

  displays_hold : (m : ArrayVec ℤ) (place : ℕ) (x : Blackboard) → IsKept (blackboards.displays b m place x)
  displays_hold m place x = all_given_hold (waiting b.processes (blackboards.list place)) m b.processes h

  -- ---- the services on objects

  wait_semaphore_holds : (at : At) (id limit : ℤ) → IsKept (semaphores.wait_semaphore at b p id limit)
  wait_semaphore_holds at id limit = search (either, on_found, takes_found)

  signal_semaphore_holds : (id : ℤ) → IsKept (semaphores.signal_semaphore b p id)
  signal_semaphore_holds id = search (either, on_holds, signals_hold)

  set_event_holds : (id : ℤ) → IsKept (events.set_event b p id)
  set_event_holds id = search (either, on_holds, raises_hold)

  wait_event_holds : (at : At) (id limit : ℤ) → IsKept (events.wait_event at b p id limit)
  wait_event_holds at id limit = search (either, on_found, awaits_found)

  send_buffer_holds : (at : At) (id : ℤ) (array : ArrayPlace) (size limit : ℤ) (words : List ℤ) → IsKept (buffers.send_buffer at b p id array size limit words)
  send_buffer_holds at id array size limit words = search (either, on_found, sends_found)

  receive_buffer_holds : (at : At) (id : ℤ) (array : ArrayPlace) (limit : ℤ) → IsKept (buffers.receive_buffer at b p id array limit)
  receive_buffer_holds at id array limit = search (either, on_found, receives_found)

  display_blackboard_holds : (id : ℤ) (array : ArrayPlace) (size : ℤ) (words : List ℤ) → IsKept (blackboards.display_blackboard b p id array size words)
  display_blackboard_holds id array size words = search (either, on_holds, displays_hold)

  read_blackboard_holds : (at : At) (id : ℤ) (array : ArrayPlace) (limit : ℤ) → IsKept (blackboards.read_blackboard at b p id array limit)
  read_blackboard_holds at id array limit = search (either, on_found, reads_found)

  -- Each service on objects. The last clause is for the services that change no process.
  pub objects_hold : (m : Mode) (at : At) (c : ObjectCall) (words : List ℤ) → IsKept (serves_objects m at b p c words)
  objects_hold m at (object.SendBuffer id array size limit) words = send_buffer_holds at id array size limit words
  objects_hold m at (object.ReceiveBuffer id array limit) words = receive_buffer_holds at id array limit
  objects_hold m at (object.DisplayBlackboard id array size) words = display_blackboard_holds id array size words
  objects_hold m at (object.ReadBlackboard id array limit) words = read_blackboard_holds at id array limit
  objects_hold m at (object.WaitSemaphore id limit) words = wait_semaphore_holds at id limit
  objects_hold m at (object.SignalSemaphore id) words = signal_semaphore_holds id
  objects_hold m at (object.SetEvent id) words = set_event_holds id
  objects_hold m at (object.WaitEvent id limit) words = wait_event_holds at id limit
  objects_hold m at c words = search (either, on_holds)

-- ---- ports

module _ {few : Type 0} (b : Sharing Ports) (h : Hold few b.processes) (range : few → PortsAreInRange b.shared) (p : Runner) where
  abbrev IsPortKept : Step (Sharing Ports) → Type 0
  IsPortKept s = Hold few s.part.processes

  waits_at_port_hold : (at : At) (limit : ℤ) (w : Waiting) (m : ArrayVec ℤ) → is_at_kind w.list w.service ≡ true → (few → place_in w.list < MOST_OBJECTS) → IsPortKept (of_processes b (blocks at b.processes p limit w m))
  waits_at_port_hold at limit w m fits room = blocks_holds b.processes h at p limit w m fits room

  found_in_range : (id : ℤ) (f : ℕ × Port) → queuing b.shared id ≡ Some f → few → f.0 < MOST_OBJECTS
  found_in_range id f e so = let g = range so in numbered_is IsInRange b.shared.ports id f g.ports (queuing_of (numbered_in b.shared.ports id) f e)

  reads_sample_holds : (at : At) (array : ArrayPlace) (place : ℕ) (x : Port) (ms : List (ArrayVec ℤ)) → IsPortKept (ports.reads_sample at b p array place x ms)
  reads_sample_holds at array place x [] = h
  reads_sample_holds at array place x (m ∷ rest) = h

  reads_own_sample_holds : (at : At) (array : ArrayPlace) (place : ℕ) (x : Port) → IsPortKept (ports.reads_sample at b p array place x x.messages)
  reads_own_sample_holds at array place x = reads_sample_holds at array place x x.messages

  sends_found_to_port : (at : At) (limit : ℤ) (m : ArrayVec ℤ) (id : ℤ) (f : ℕ × Port) → queuing b.shared id ≡ Some f → IsPortKept (ports.sends at b p limit m f.0 f.1)
  sends_found_to_port at limit m id f e = either (is_full f.1) _ _ (waits_at_port_hold at limit (ports.sender f.0 f.1) m refl (found_in_range id f e)) h

  receives_at_port_hold : (at : At) (array : ArrayPlace) (limit : ℤ) (place : ℕ) (x : Port) (ms : List (ArrayVec ℤ)) → (few → place < MOST_OBJECTS) → IsPortKept (ports.receives at b p array limit place x ms)
  receives_at_port_hold at array limit place x [] room = waits_at_port_hold at limit (ports.receiver place x array) (message []) refl room
  receives_at_port_hold at array limit place x (m ∷ rest) room = h

  receives_found_at_port : (at : At) (array : ArrayPlace) (limit id : ℤ) (f : ℕ × Port) → queuing b.shared id ≡ Some f → IsPortKept (ports.receives at b p array limit f.0 f.1 f.1.messages)
  receives_found_at_port at array limit id f e = receives_at_port_hold at array limit f.0 f.1 f.1.messages (found_in_range id f e)

  read_sampling_holds : (at : At) (id : ℤ) (array : ArrayPlace) → IsPortKept (ports.read_sampling_message at b p id array)
  read_sampling_holds at id array = search (either, on_holds, reads_own_sample_holds)

  send_queuing_holds : (at : At) (id : ℤ) (array : ArrayPlace) (size limit : ℤ) (words : List ℤ) → IsPortKept (ports.send_queuing_message at b p id array size limit words)
  send_queuing_holds at id array size limit words = search (either, on_found, sends_found_to_port) depth 8

  receive_queuing_holds : (at : At) (id : ℤ) (array : ArrayPlace) (limit : ℤ) → IsPortKept (ports.receive_queuing_message at b p id array limit)
  receive_queuing_holds at id array limit = search (either, on_found, receives_found_at_port) depth 8

  -- Each service on ports. The last clause is for the services that change no process.
  pub ports_hold : (m : Mode) (at : At) (c : PortCall) (words : List ℤ) → IsPortKept (ports.serves_ports m at b p c words)
  ports_hold m at (port.ReadSamplingMessage id array) words = read_sampling_holds at id array
  ports_hold m at (port.SendQueuingMessage id array size limit) words = send_queuing_holds at id array size limit words
  ports_hold m at (port.ReceiveQueuingMessage id array limit) words = receive_queuing_holds at id array limit
  ports_hold m at c words = search (either, on_holds)

-- ---- messages that arrive, and senders that enter

module _ {few : Type 0} (b : Sharing Ports) (h : Hold few b.processes) where
  queuing_holds : (place : ℕ) (x : Port) (m : ArrayVec ℤ) → Holds few (ports.arrives_queuing b place x m (first_waiting b.processes (ports.list place)))
  queuing_holds place x m = first (first_waiting b.processes (ports.list place)) (first_waiting_found b.processes (ports.list place))
    where
      first : (o : Option (Runner × ProcessStatus)) → IsFound b.processes o → Holds few (ports.arrives_queuing b place x m o)
      first None found = either (is_full x) _ _ h h
      first (Some f) found = gives_holds b.processes h f.0 f.1 m (found f refl)

  arrives_at_holds : (at : At) (place : ℕ) (m : ArrayVec ℤ) (o : Option Port) → Holds few (ports.arrives_at at b place m o)
  arrives_at_holds at place m None = h
  arrives_at_holds at place m (Some x) = either (is_sampling x) _ _ h (queuing_holds place x m)

  pub arrives_holds : (at : At) (place : ℕ) (m : ArrayVec ℤ) → Holds few (ports.arrives at b place m)
  arrives_holds at place m = arrives_at_holds at place m (port_at b.shared place)

  enters_holds : (place : ℕ) (e : Entry) (o : Option Port) → Holds few (ports.enters_port b place e o)
  enters_holds place e None = h
  enters_holds place e (Some x) = either (is_full x) _ _ h (entered (numbered e.process (row_of b.processes (runner.Process e.process))) (numbered_found b.processes e.process))
    where
      entered : (o : Option (Runner × ProcessStatus)) → IsFound b.processes o → Holds few (ports.enters_found b place x o)
      entered None found = h
      entered (Some f) found = released_holds b.processes h f.0 f.1 f.1 code.NoError (found f refl)

all_enter_hold : {few : Type 0} (es : List Entry) (place : ℕ) (b : Sharing Ports) → Hold few b.processes → Holds few (ports.all_enter es place b)
all_enter_hold [] place b h = h
all_enter_hold (e ∷ es) place b h = all_enter_hold es place _ (enters_holds b h place e (port_at b.shared place))

pub admits_all_hold : {few : Type 0} (b : Sharing Ports) (place : ℕ) → Hold few b.processes → Holds few (ports.admits b place)
admits_all_hold b place h = all_enter_hold (waiting b.processes (ports.list place)) place b h
