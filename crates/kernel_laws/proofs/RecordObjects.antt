-- The services on objects and on ports, and the messages that arrive and leave, keep the agreement
-- of the ready list with the records.
use Rattle.kernel_laws.proofs.Prelude.{ℕ, ℤ, Bool, List, ◌∷◌, Option, Some, None, refl, nat_lt, if◌then◌else◌, ArrayVec, Mode, At, Runner, Entry, ProcessStatus, ArrayPlace, Call, serves_objects, Objects, Blackboard, Buffer, Semaphore, ApexEvent, Port, Ports, is_full, is_sampling, port_at, row_of, numbered, Sharing, Step, message, blocks, first_waiting, waiting, RecordsAgree}
use Rattle.std.proofs.Common.{[]}
use Rattle.apex_types.specs.declared.codes.ReturnCode.TheVariants as code
use Rattle.apex_types.specs.declared.identity.Runner.TheVariants as runner
use Rattle.apex_types.specs.declared.process.Waiting.{Waiting}
use Rattle.apex_types.specs.declared.service.ObjectCall.{ObjectCall}
use Rattle.apex_types.specs.declared.service.ObjectCall.TheVariants as object
use Rattle.apex_types.specs.declared.service.PortCall.{PortCall}
use Rattle.apex_types.specs.declared.service.PortCall.TheVariants as port
use Rattle.kernel_meaning.specs.BlackboardServices as blackboards
use Rattle.kernel_meaning.specs.BufferServices as buffers
use Rattle.kernel_meaning.specs.EventServices as events
use Rattle.kernel_meaning.specs.PortServices as ports
use Rattle.kernel_meaning.specs.SemaphoreServices as semaphores
use Rattle.kernel_meaning.specs.Sharing.{of_processes, on}
use Rattle.kernel_laws.proofs.Records.{IsFound, numbered_found, first_waiting_found, released_agrees, gives_agrees, all_released_agree, all_given_agree, blocks_agrees}
use Rattle.kernel_laws.proofs.Records as records

-- ---- what is shared

module _ {O : Type 0} where
  abbrev pub Agrees : Step (Sharing O) → Type 0
  Agrees s = RecordsAgree s.part.processes

  pub either : (b : Bool) (s t : Step (Sharing O)) → Agrees s → Agrees t → Agrees (if b then s else t)
  either b s t h k = records.either (λ (c : Sharing O). c.processes) b s t (λ e. h) (λ e. k)

  -- a step for the object found
  on_agrees : {X : Type 0} (o : Option (ℕ × X)) (b : Sharing O) (step : ℕ → X → Step (Sharing O)) → RecordsAgree b.processes → ((place : ℕ) (x : X) → Agrees (step place x)) → Agrees (on o b step)
  on_agrees None b step h k = h
  on_agrees (Some f) b step h k = k f.0 f.1

-- ---- objects

module _ (b : Sharing Objects) (h : RecordsAgree b.processes) (p : Runner) where
  abbrev IsKept : Step (Sharing Objects) → Type 0
  IsKept s = RecordsAgree s.part.processes

  waits_agrees : (at : At) (limit : ℤ) (w : Waiting) (m : ArrayVec ℤ) → IsKept (of_processes b (blocks at b.processes p limit w m))
  waits_agrees at limit w m = blocks_agrees at b.processes h p limit w m

  -- the first waiting process is released
  signals_agrees : (place : ℕ) (x : Semaphore) → IsKept (semaphores.signals b place x (first_waiting b.processes (semaphores.list place)))
  signals_agrees place x = first (first_waiting b.processes (semaphores.list place)) (first_waiting_found b.processes (semaphores.list place))
    where
      first : (o : Option (Runner × ProcessStatus)) → IsFound b.processes o → IsKept (semaphores.signals b place x o)
      first None found = h
      first (Some f) found = released_agrees b.processes h f.0 f.1 f.1 code.NoError (found f refl) refl (λ k. k)

  -- the first receiver that waits takes the message
  takes_message_agrees : (place : ℕ) (x : Buffer) (m : ArrayVec ℤ) → IsKept (buffers.takes_message b place x m (first_waiting b.processes (buffers.list place)))
  takes_message_agrees place x m = first (first_waiting b.processes (buffers.list place)) (first_waiting_found b.processes (buffers.list place))
    where
      first : (o : Option (Runner × ProcessStatus)) → IsFound b.processes o → IsKept (buffers.takes_message b place x m o)
      first None found = h
      first (Some f) found = gives_agrees b.processes h f.0 f.1 m (found f refl)

  -- the first sender that waits enters
  admits_agrees : (place : ℕ) (x : Buffer) → IsKept (buffers.admits b place x (first_waiting b.processes (buffers.list place)))
  admits_agrees place x = first (first_waiting b.processes (buffers.list place)) (first_waiting_found b.processes (buffers.list place))
    where
      first : (o : Option (Runner × ProcessStatus)) → IsFound b.processes o → IsKept (buffers.admits b place x o)
      first None found = h
      first (Some f) found = released_agrees b.processes h f.0 f.1 f.1 code.NoError (found f refl) refl (λ k. k)

  receives_agrees : (at : At) (array : ArrayPlace) (limit : ℤ) (place : ℕ) (x : Buffer) (ms : List (ArrayVec ℤ)) → IsKept (buffers.receives at b p array limit place x ms)
  receives_agrees at array limit place x [] = waits_agrees at limit (buffers.receiver place x array) (message [])
  receives_agrees at array limit place x (m ∷ rest) = admits_agrees place (record x { messages = rest })

  receives_own_agrees : (at : At) (array : ArrayPlace) (limit : ℤ) (place : ℕ) (x : Buffer) → IsKept (buffers.receives at b p array limit place x x.messages)
  receives_own_agrees at array limit place x = receives_agrees at array limit place x x.messages

  reads_agrees : (at : At) (array : ArrayPlace) (limit : ℤ) (place : ℕ) (o : Option (ArrayVec ℤ)) → IsKept (blackboards.reads at b p array limit place o)
  reads_agrees at array limit place None = waits_agrees at limit (blackboards.reader place array) (message [])
  reads_agrees at array limit place (Some m) = h

  reads_shown_agrees : (at : At) (array : ArrayPlace) (limit : ℤ) (place : ℕ) (x : Blackboard) → IsKept (blackboards.reads at b p array limit place x.shown)
  reads_shown_agrees at array limit place x = reads_agrees at array limit place x.shown

  -- the effects of services on the object found
  takes_agrees : (at : At) (limit : ℤ) (place : ℕ) (x : Semaphore) → IsKept (semaphores.takes at b p limit place x)
  takes_agrees at limit place x = either (nat_lt 0 x.value) _ _ h (waits_agrees at limit (semaphores.waiting_for place x) (message []))

  awaits_agrees : (at : At) (limit : ℤ) (place : ℕ) (x : ApexEvent) → IsKept (events.awaits at b p limit place x)
  awaits_agrees at limit place x = either x.up _ _ h (waits_agrees at limit (events.waiting_for place) (message []))

  sends_agrees : (at : At) (limit : ℤ) (m : ArrayVec ℤ) (place : ℕ) (x : Buffer) → IsKept (buffers.sends at b p limit m place x)
  sends_agrees at limit m place x = either (buffers.is_full x) _ _ (waits_agrees at limit (buffers.sender place x) m) (takes_message_agrees place x m)

  raises_agrees : (place : ℕ) (x : ApexEvent) → IsKept (events.raises b place x)
  raises_agrees place x = all_released_agree (waiting b.processes (events.list place)) b.processes h

  displays_agrees : (m : ArrayVec ℤ) (place : ℕ) (x : Blackboard) → IsKept (blackboards.displays b m place x)
  displays_agrees m place x = all_given_agree (waiting b.processes (blackboards.list place)) m b.processes h

  -- ---- the services on objects

  wait_semaphore_agrees : (at : At) (id limit : ℤ) → IsKept (semaphores.wait_semaphore at b p id limit)
  wait_semaphore_agrees at id limit = search (either, on_agrees, takes_agrees)

  signal_semaphore_agrees : (id : ℤ) → IsKept (semaphores.signal_semaphore b p id)
  signal_semaphore_agrees id = search (either, on_agrees, signals_agrees)

  set_event_agrees : (id : ℤ) → IsKept (events.set_event b p id)
  set_event_agrees id = search (either, on_agrees, raises_agrees)

  wait_event_agrees : (at : At) (id limit : ℤ) → IsKept (events.wait_event at b p id limit)
  wait_event_agrees at id limit = search (either, on_agrees, awaits_agrees)

  send_buffer_agrees : (at : At) (id : ℤ) (array : ArrayPlace) (size limit : ℤ) (words : List ℤ) → IsKept (buffers.send_buffer at b p id array size limit words)
  send_buffer_agrees at id array size limit words = search (either, on_agrees, sends_agrees)

  receive_buffer_agrees : (at : At) (id : ℤ) (array : ArrayPlace) (limit : ℤ) → IsKept (buffers.receive_buffer at b p id array limit)
  receive_buffer_agrees at id array limit = search (either, on_agrees, receives_own_agrees)

  display_blackboard_agrees : (id : ℤ) (array : ArrayPlace) (size : ℤ) (words : List ℤ) → IsKept (blackboards.display_blackboard b p id array size words)
  display_blackboard_agrees id array size words = search (either, on_agrees, displays_agrees)

  read_blackboard_agrees : (at : At) (id : ℤ) (array : ArrayPlace) (limit : ℤ) → IsKept (blackboards.read_blackboard at b p id array limit)
  read_blackboard_agrees at id array limit = search (either, on_agrees, reads_shown_agrees)

  -- Each service on objects. The last clause is for the services that change no process.
  pub objects_agree : (m : Mode) (at : At) (c : ObjectCall) (words : List ℤ) → IsKept (serves_objects m at b p c words)
  objects_agree m at (object.SendBuffer id array size limit) words = send_buffer_agrees at id array size limit words
  objects_agree m at (object.ReceiveBuffer id array limit) words = receive_buffer_agrees at id array limit
  objects_agree m at (object.DisplayBlackboard id array size) words = display_blackboard_agrees id array size words
  objects_agree m at (object.ReadBlackboard id array limit) words = read_blackboard_agrees at id array limit
  objects_agree m at (object.WaitSemaphore id limit) words = wait_semaphore_agrees at id limit
  objects_agree m at (object.SignalSemaphore id) words = signal_semaphore_agrees id
  objects_agree m at (object.SetEvent id) words = set_event_agrees id
  objects_agree m at (object.WaitEvent id limit) words = wait_event_agrees at id limit
  objects_agree m at c words = search (either, on_agrees)

-- ---- ports

module _ (b : Sharing Ports) (h : RecordsAgree b.processes) (p : Runner) where
  abbrev IsPortKept : Step (Sharing Ports) → Type 0
  IsPortKept s = RecordsAgree s.part.processes

  waits_at_port_agrees : (at : At) (limit : ℤ) (w : Waiting) (m : ArrayVec ℤ) → IsPortKept (of_processes b (blocks at b.processes p limit w m))
  waits_at_port_agrees at limit w m = blocks_agrees at b.processes h p limit w m

  reads_sample_agrees : (at : At) (array : ArrayPlace) (place : ℕ) (x : Port) (ms : List (ArrayVec ℤ)) → IsPortKept (ports.reads_sample at b p array place x ms)
  reads_sample_agrees at array place x [] = h
  reads_sample_agrees at array place x (m ∷ rest) = h

  reads_own_sample_agrees : (at : At) (array : ArrayPlace) (place : ℕ) (x : Port) → IsPortKept (ports.reads_sample at b p array place x x.messages)
  reads_own_sample_agrees at array place x = reads_sample_agrees at array place x x.messages

  sends_to_port_agrees : (at : At) (limit : ℤ) (m : ArrayVec ℤ) (place : ℕ) (x : Port) → IsPortKept (ports.sends at b p limit m place x)
  sends_to_port_agrees at limit m place x = either (is_full x) _ _ (waits_at_port_agrees at limit (ports.sender place x) m) h

  receives_at_port_agrees : (at : At) (array : ArrayPlace) (limit : ℤ) (place : ℕ) (x : Port) (ms : List (ArrayVec ℤ)) → IsPortKept (ports.receives at b p array limit place x ms)
  receives_at_port_agrees at array limit place x [] = waits_at_port_agrees at limit (ports.receiver place x array) (message [])
  receives_at_port_agrees at array limit place x (m ∷ rest) = h

  receives_own_at_port_agrees : (at : At) (array : ArrayPlace) (limit : ℤ) (place : ℕ) (x : Port) → IsPortKept (ports.receives at b p array limit place x x.messages)
  receives_own_at_port_agrees at array limit place x = receives_at_port_agrees at array limit place x x.messages

  read_sampling_agrees : (at : At) (id : ℤ) (array : ArrayPlace) → IsPortKept (ports.read_sampling_message at b p id array)
  read_sampling_agrees at id array = search (either, on_agrees, reads_own_sample_agrees)

  send_queuing_agrees : (at : At) (id : ℤ) (array : ArrayPlace) (size limit : ℤ) (words : List ℤ) → IsPortKept (ports.send_queuing_message at b p id array size limit words)
  send_queuing_agrees at id array size limit words = search (either, on_agrees, sends_to_port_agrees) depth 8

  receive_queuing_agrees : (at : At) (id : ℤ) (array : ArrayPlace) (limit : ℤ) → IsPortKept (ports.receive_queuing_message at b p id array limit)
  receive_queuing_agrees at id array limit = search (either, on_agrees, receives_own_at_port_agrees) depth 8

  -- Each service on ports. The last clause is for the services that change no process.
  pub ports_agree : (m : Mode) (at : At) (c : PortCall) (words : List ℤ) → IsPortKept (ports.serves_ports m at b p c words)
  ports_agree m at (port.ReadSamplingMessage id array) words = read_sampling_agrees at id array
  ports_agree m at (port.SendQueuingMessage id array size limit) words = send_queuing_agrees at id array size limit words
  ports_agree m at (port.ReceiveQueuingMessage id array limit) words = receive_queuing_agrees at id array limit
  ports_agree m at c words = search (either, on_agrees)

-- ---- messages that arrive, and senders that enter

module _ (b : Sharing Ports) (h : RecordsAgree b.processes) where
  queuing_agrees : (place : ℕ) (x : Port) (m : ArrayVec ℤ) → Agrees (ports.arrives_queuing b place x m (first_waiting b.processes (ports.list place)))
  queuing_agrees place x m = first (first_waiting b.processes (ports.list place)) (first_waiting_found b.processes (ports.list place))
    where
      first : (o : Option (Runner × ProcessStatus)) → IsFound b.processes o → Agrees (ports.arrives_queuing b place x m o)
      first None found = either (is_full x) _ _ h h
      first (Some f) found = gives_agrees b.processes h f.0 f.1 m (found f refl)

  arrives_at_agrees : (at : At) (place : ℕ) (m : ArrayVec ℤ) (o : Option Port) → Agrees (ports.arrives_at at b place m o)
  arrives_at_agrees at place m None = h
  arrives_at_agrees at place m (Some x) = either (is_sampling x) _ _ h (queuing_agrees place x m)

  pub arrives_agrees : (at : At) (place : ℕ) (m : ArrayVec ℤ) → Agrees (ports.arrives at b place m)
  arrives_agrees at place m = arrives_at_agrees at place m (port_at b.shared place)

  enters_agrees : (place : ℕ) (e : Entry) (o : Option Port) → Agrees (ports.enters_port b place e o)
  enters_agrees place e None = h
  enters_agrees place e (Some x) = either (is_full x) _ _ h (entered (numbered e.process (row_of b.processes (runner.Process e.process))) (numbered_found b.processes e.process))
    where
      entered : (o : Option (Runner × ProcessStatus)) → IsFound b.processes o → Agrees (ports.enters_found b place x o)
      entered None found = h
      entered (Some f) found = released_agrees b.processes h f.0 f.1 f.1 code.NoError (found f refl) refl (λ k. k)

all_enter_agree : (es : List Entry) (place : ℕ) (b : Sharing Ports) → RecordsAgree b.processes → Agrees (ports.all_enter es place b)
all_enter_agree [] place b h = h
all_enter_agree (e ∷ es) place b h = all_enter_agree es place _ (enters_agrees b h place e (port_at b.shared place))

pub admits_agree : (b : Sharing Ports) (place : ℕ) → RecordsAgree b.processes → Agrees (ports.admits b place)
admits_agree b place h = all_enter_agree (waiting b.processes (ports.list place)) place b h
