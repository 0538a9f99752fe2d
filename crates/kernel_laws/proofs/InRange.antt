-- No step adds an object or a port, and so none without a waiting list.
use Rattle.kernel_laws.proofs.Prelude.{ℕ, zero, suc, ◌+◌, ◌-◌, ◌<◌, ℤ, Bool, true, false, List, ◌∷◌, Option, Some, None, refl, nat_lt, if◌then◌else◌, slice_set, ArrayVec, Mode, At, Runner, Entry, ProcessStatus, ArrayPlace, serves_objects, Objects, Blackboard, Buffer, Semaphore, ApexEvent, Port, Ports, is_full, is_sampling, port_at, row_of, numbered, Sharing, Step, first_waiting, waiting}
use Rattle.std.proofs.Common.{[]}
use Rattle.apex_types.specs.declared.identity.Runner.TheVariants as runner
use Rattle.apex_types.specs.declared.limits.TheConstants.{MOST_OBJECTS}
use Rattle.apex_types.specs.declared.service.ObjectCall.{ObjectCall}
use Rattle.apex_types.specs.declared.service.ObjectCall.TheVariants as object
use Rattle.apex_types.specs.declared.service.PortCall.{PortCall}
use Rattle.apex_types.specs.declared.service.PortCall.TheVariants as port
use Rattle.kernel_meaning.specs.BlackboardServices as blackboards
use Rattle.kernel_meaning.specs.BufferServices as buffers
use Rattle.kernel_meaning.specs.EventServices as events
use Rattle.kernel_meaning.specs.Objects.{cleared_objects, cleared_ports, put_blackboard, put_buffer, put_event, put_port, put_semaphore}
use Rattle.kernel_meaning.specs.PortServices as ports
use Rattle.kernel_meaning.specs.SemaphoreServices as semaphores
use Rattle.kernel_meaning.specs.Sharing.{on}
use Rattle.kernel_laws.specs.Numbers.{EachAt}
use Rattle.kernel_laws.proofs.Shares.{each_map}

-- ---- the objects and the ports that have a waiting list

abbrev pub IsInRange : {X : Type 0} → ℕ → X → Type 0
IsInRange place x = place < MOST_OBJECTS

pub record AreInRange (o : Objects) : Type 0 where
  pub semaphores : EachAt IsInRange o.semaphores
  pub events : EachAt IsInRange o.events
  pub buffers : EachAt IsInRange o.buffers
  pub blackboards : EachAt IsInRange o.blackboards

pub record PortsAreInRange (o : Ports) : Type 0 where
  pub ports : EachAt IsInRange o.ports

-- no item is added where one is replaced
same_places : {X : Type 0} (is : ℕ → Type 0) (xs : List X) (i : ℕ) (y : X) → EachAt (λ place x. is place) xs → EachAt (λ place x. is place) (slice_set xs i y)
same_places is [] i y h place x e = h place x e
same_places is (z ∷ zs) zero y h zero x e = h zero z refl
same_places is (z ∷ zs) zero y h (suc place) x e = h (suc place) x e
same_places is (z ∷ zs) (suc i) y h zero x e = h zero x e
same_places is (z ∷ zs) (suc i) y h (suc place) x e = same_places (λ n. is (suc n)) zs i y (λ n. h (suc n)) place x e

in_range : {X : Type 0} (xs : List X) (i : ℕ) (y : X) → EachAt IsInRange xs → EachAt IsInRange (slice_set xs i y)
in_range xs i y h = same_places (λ place. place < MOST_OBJECTS) xs i y h

pub cleared_in_range : (o : Objects) → AreInRange o → AreInRange (cleared_objects o)
cleared_in_range o h = record {
  semaphores = each_map IsInRange _ (λ place x lt. lt) o.semaphores h.semaphores;
  events = each_map IsInRange _ (λ place x lt. lt) o.events h.events;
  buffers = each_map IsInRange _ (λ place x lt. lt) o.buffers h.buffers;
  blackboards = each_map IsInRange _ (λ place x lt. lt) o.blackboards h.blackboards;
}

pub cleared_ports_in_range : (o : Ports) → PortsAreInRange o → PortsAreInRange (cleared_ports o)
cleared_ports_in_range o h = record { ports = each_map IsInRange _ (λ place x lt. lt) o.ports h.ports }

-- ---- what is shared

module _ {O : Type 0} (Range : O → Type 0) where
  abbrev Within : Step (Sharing O) → Type 0
  Within s = Range s.part.shared

  within_either : (b : Bool) (s t : Step (Sharing O)) → Within s → Within t → Within (if b then s else t)
  within_either true s t h k = h
  within_either false s t h k = k

  within_on : {X : Type 0} (o : Option (ℕ × X)) (b : Sharing O) (step : ℕ → X → Step (Sharing O)) → Range b.shared → ((place : ℕ) (x : X) → Within (step place x)) → Within (on o b step)
  within_on None b step h k = h
  within_on (Some f) b step h k = k f.0 f.1

-- ---- objects

module _ (b : Sharing Objects) (h : AreInRange b.shared) (p : Runner) where
  abbrev IsKept : Step (Sharing Objects) → Type 0
  IsKept s = AreInRange s.part.shared

  either : (c : Bool) (s t : Step (Sharing Objects)) → IsKept s → IsKept t → IsKept (if c then s else t)
  either c s t j k = within_either AreInRange c s t j k

  on_each : {X : Type 0} (o : Option (ℕ × X)) (step : ℕ → X → Step (Sharing Objects)) → ((place : ℕ) (x : X) → IsKept (step place x)) → IsKept (on o b step)
  on_each o step k = within_on AreInRange o b step h k

  semaphore_kept : (place : ℕ) (x : Semaphore) → AreInRange (put_semaphore b.shared place x)
  semaphore_kept place x = record { semaphores = in_range b.shared.semaphores place x h.semaphores; events = h.events; buffers = h.buffers; blackboards = h.blackboards }

  event_kept : (place : ℕ) (x : ApexEvent) → AreInRange (put_event b.shared place x)
  event_kept place x = record { semaphores = h.semaphores; events = in_range b.shared.events place x h.events; buffers = h.buffers; blackboards = h.blackboards }

  buffer_kept : (place : ℕ) (x : Buffer) → AreInRange (put_buffer b.shared place x)
  buffer_kept place x = record { semaphores = h.semaphores; events = h.events; buffers = in_range b.shared.buffers place x h.buffers; blackboards = h.blackboards }

  blackboard_kept : (place : ℕ) (x : Blackboard) → AreInRange (put_blackboard b.shared place x)
  blackboard_kept place x = record { semaphores = h.semaphores; events = h.events; buffers = h.buffers; blackboards = in_range b.shared.blackboards place x h.blackboards }

  signals_kept : (place : ℕ) (x : Semaphore) (o : Option (Runner × ProcessStatus)) → IsKept (semaphores.signals b place x o)
  signals_kept place x None = semaphore_kept place (record x { value = x.value + 1 })
  signals_kept place x (Some f) = h

  takes_kept : (place : ℕ) (x : Buffer) (m : ArrayVec ℤ) (o : Option (Runner × ProcessStatus)) → IsKept (buffers.takes_message b place x m o)
  takes_kept place x m None = buffer_kept place (buffers.with_message x m)
  takes_kept place x m (Some f) = h

  admits_kept : (place : ℕ) (x : Buffer) (o : Option (Runner × ProcessStatus)) → IsKept (buffers.admits b place x o)
  admits_kept place x None = buffer_kept place x
  admits_kept place x (Some f) = buffer_kept place _

  receives_kept : (at : At) (array : ArrayPlace) (limit : ℤ) (place : ℕ) (x : Buffer) (ms : List (ArrayVec ℤ)) → IsKept (buffers.receives at b p array limit place x ms)
  receives_kept at array limit place x [] = h
  receives_kept at array limit place x (m ∷ rest) = admits_kept place (record x { messages = rest }) (first_waiting b.processes (buffers.list place))

  receives_own_kept : (at : At) (array : ArrayPlace) (limit : ℤ) (place : ℕ) (x : Buffer) → IsKept (buffers.receives at b p array limit place x x.messages)
  receives_own_kept at array limit place x = receives_kept at array limit place x x.messages

  reads_kept : (at : At) (array : ArrayPlace) (limit : ℤ) (place : ℕ) (o : Option (ArrayVec ℤ)) → IsKept (blackboards.reads at b p array limit place o)
  reads_kept at array limit place None = h
  reads_kept at array limit place (Some m) = h

  reads_shown_kept : (at : At) (array : ArrayPlace) (limit : ℤ) (place : ℕ) (x : Blackboard) → IsKept (blackboards.reads at b p array limit place x.shown)
  reads_shown_kept at array limit place x = reads_kept at array limit place x.shown

  sends_kept : (at : At) (limit : ℤ) (m : ArrayVec ℤ) (place : ℕ) (x : Buffer) → IsKept (buffers.sends at b p limit m place x)
  sends_kept at limit m place x = either (buffers.is_full x) _ _ h (takes_kept place x m (first_waiting b.processes (buffers.list place)))

  signals_first_kept : (place : ℕ) (x : Semaphore) → IsKept (semaphores.signals b place x (first_waiting b.processes (semaphores.list place)))
  signals_first_kept place x = signals_kept place x (first_waiting b.processes (semaphores.list place))

  takes_value_kept : (at : At) (limit : ℤ) (place : ℕ) (x : Semaphore) → IsKept (semaphores.takes at b p limit place x)
  takes_value_kept at limit place x = either (nat_lt 0 x.value) _ _ (semaphore_kept place (record x { value = x.value - 1 })) h

  awaits_kept : (at : At) (limit : ℤ) (place : ℕ) (x : ApexEvent) → IsKept (events.awaits at b p limit place x)
  awaits_kept at limit place x = either x.up _ _ h h

  raises_kept : (place : ℕ) (x : ApexEvent) → IsKept (events.raises b place x)
  raises_kept place x = event_kept place (record x { up = true })

  lowers_kept : (place : ℕ) (x : ApexEvent) → IsKept (events.sets b false place x)
  lowers_kept place x = event_kept place (record x { up = false })

  displays_kept : (m : ArrayVec ℤ) (place : ℕ) (x : Blackboard) → IsKept (blackboards.displays b m place x)
  displays_kept m place x = blackboard_kept place (record x { shown = Some m })

  shows_kept : (place : ℕ) (x : Blackboard) → IsKept (blackboards.shows b None place x)
  shows_kept place x = blackboard_kept place (record x { shown = None })

  creates_semaphore_kept : (place : ℕ) (x : Semaphore) → IsKept (semaphores.creates b place x)
  creates_semaphore_kept place x = semaphore_kept place (record x { created = true })

  creates_event_kept : (place : ℕ) (x : ApexEvent) → IsKept (events.creates b place x)
  creates_event_kept place x = event_kept place (record x { created = true })

  creates_buffer_kept : (place : ℕ) (x : Buffer) → IsKept (buffers.creates b place x)
  creates_buffer_kept place x = buffer_kept place (record x { created = true })

  creates_blackboard_kept : (place : ℕ) (x : Blackboard) → IsKept (blackboards.creates b place x)
  creates_blackboard_kept place x = blackboard_kept place (record x { created = true })

  -- Each service on objects. The last clause is for the services that change no object.
  pub objects_in_range : (m : Mode) (at : At) (c : ObjectCall) (words : List ℤ) → IsKept (serves_objects m at b p c words)
  objects_in_range m at (object.CreateBuffer name) words = search (either, on_each, creates_buffer_kept)
  objects_in_range m at (object.SendBuffer id array size limit) words = search (either, on_each, sends_kept)
  objects_in_range m at (object.ReceiveBuffer id array limit) words = search (either, on_each, receives_own_kept)
  objects_in_range m at (object.CreateBlackboard name) words = search (either, on_each, creates_blackboard_kept)
  objects_in_range m at (object.DisplayBlackboard id array size) words = search (either, on_each, displays_kept)
  objects_in_range m at (object.ReadBlackboard id array limit) words = search (either, on_each, reads_shown_kept)
  objects_in_range m at (object.ClearBlackboard id) words = search (either, on_each, shows_kept)
  objects_in_range m at (object.CreateSemaphore name) words = search (either, on_each, creates_semaphore_kept)
  objects_in_range m at (object.WaitSemaphore id limit) words = search (either, on_each, takes_value_kept)
  objects_in_range m at (object.SignalSemaphore id) words = search (either, on_each, signals_first_kept)
  objects_in_range m at (object.CreateEvent name) words = search (either, on_each, creates_event_kept)
  objects_in_range m at (object.SetEvent id) words = search (either, on_each, raises_kept)
  objects_in_range m at (object.ResetEvent id) words = search (either, on_each, lowers_kept)
  objects_in_range m at (object.WaitEvent id limit) words = search (either, on_each, awaits_kept)
  objects_in_range m at c words = search (either, on_each)

-- ---- ports

pub port_kept : (o : Ports) → PortsAreInRange o → (place : ℕ) (x : Port) → PortsAreInRange (put_port o place x)
port_kept o h place x = record { ports = in_range o.ports place x h.ports }

module _ (b : Sharing Ports) (h : PortsAreInRange b.shared) (p : Runner) where
  abbrev IsPortKept : Step (Sharing Ports) → Type 0
  IsPortKept s = PortsAreInRange s.part.shared

  either_port : (c : Bool) (s t : Step (Sharing Ports)) → IsPortKept s → IsPortKept t → IsPortKept (if c then s else t)
  either_port c s t j k = within_either PortsAreInRange c s t j k

  on_port : {X : Type 0} (o : Option (ℕ × X)) (step : ℕ → X → Step (Sharing Ports)) → ((place : ℕ) (x : X) → IsPortKept (step place x)) → IsPortKept (on o b step)
  on_port o step k = within_on PortsAreInRange o b step h k

  creates_port_kept : (place : ℕ) (x : Port) → IsPortKept (ports.creates b place x)
  creates_port_kept place x = port_kept b.shared h place (record x { created = true })

  writes_kept : (m : ArrayVec ℤ) (place : ℕ) (x : Port) → IsPortKept (ports.writes_sample b p m place x)
  writes_kept m place x = port_kept b.shared h place _

  reads_sample_kept : (at : At) (array : ArrayPlace) (place : ℕ) (x : Port) (ms : List (ArrayVec ℤ)) → IsPortKept (ports.reads_sample at b p array place x ms)
  reads_sample_kept at array place x [] = h
  reads_sample_kept at array place x (m ∷ rest) = port_kept b.shared h place _

  reads_own_sample_kept : (at : At) (array : ArrayPlace) (place : ℕ) (x : Port) → IsPortKept (ports.reads_sample at b p array place x x.messages)
  reads_own_sample_kept at array place x = reads_sample_kept at array place x x.messages

  sends_to_port_kept : (at : At) (limit : ℤ) (m : ArrayVec ℤ) (place : ℕ) (x : Port) → IsPortKept (ports.sends at b p limit m place x)
  sends_to_port_kept at limit m place x = either_port (is_full x) _ _ h (port_kept b.shared h place _)

  receives_at_port_kept : (at : At) (array : ArrayPlace) (limit : ℤ) (place : ℕ) (x : Port) (ms : List (ArrayVec ℤ)) → IsPortKept (ports.receives at b p array limit place x ms)
  receives_at_port_kept at array limit place x [] = h
  receives_at_port_kept at array limit place x (m ∷ rest) = port_kept b.shared h place _

  receives_own_at_port_kept : (at : At) (array : ArrayPlace) (limit : ℤ) (place : ℕ) (x : Port) → IsPortKept (ports.receives at b p array limit place x x.messages)
  receives_own_at_port_kept at array limit place x = receives_at_port_kept at array limit place x x.messages

  clears_port_kept : (place : ℕ) (x : Port) → IsPortKept (ports.clears_port b p place x)
  clears_port_kept place x = port_kept b.shared h place _

  -- Each service on ports. The last clause is for the services that change no port.
  pub ports_in_range : (m : Mode) (at : At) (c : PortCall) (words : List ℤ) → IsPortKept (ports.serves_ports m at b p c words)
  ports_in_range m at (port.CreateSamplingPort name) words = search (either_port, on_port, creates_port_kept)
  ports_in_range m at (port.WriteSamplingMessage id array size) words = search (either_port, on_port, writes_kept)
  ports_in_range m at (port.ReadSamplingMessage id array) words = search (either_port, on_port, reads_own_sample_kept)
  ports_in_range m at (port.CreateQueuingPort name) words = search (either_port, on_port, creates_port_kept)
  ports_in_range m at (port.SendQueuingMessage id array size limit) words = search (either_port, on_port, sends_to_port_kept) depth 8
  ports_in_range m at (port.ReceiveQueuingMessage id array limit) words = search (either_port, on_port, receives_own_at_port_kept) depth 8
  ports_in_range m at (port.ClearQueuingPort id) words = search (either_port, on_port, clears_port_kept)
  ports_in_range m at c words = search (either_port, on_port)

-- ---- messages that arrive and leave, and senders that enter

module _ (b : Sharing Ports) (h : PortsAreInRange b.shared) where
  queuing_in_range : (place : ℕ) (x : Port) (m : ArrayVec ℤ) (o : Option (Runner × ProcessStatus)) → PortsAreInRange (ports.arrives_queuing b place x m o).part.shared
  queuing_in_range place x m None = within_either PortsAreInRange (is_full x) _ _ (port_kept b.shared h place _) (port_kept b.shared h place _)
  queuing_in_range place x m (Some f) = h

  arrives_at_in_range : (at : At) (place : ℕ) (m : ArrayVec ℤ) (o : Option Port) → PortsAreInRange (ports.arrives_at at b place m o).part.shared
  arrives_at_in_range at place m None = h
  arrives_at_in_range at place m (Some x) = within_either PortsAreInRange (is_sampling x) _ _ (port_kept b.shared h place _) (queuing_in_range place x m (first_waiting b.processes (ports.list place)))

  pub arrives_in_range : (at : At) (place : ℕ) (m : ArrayVec ℤ) → PortsAreInRange (ports.arrives at b place m).part.shared
  arrives_in_range at place m = arrives_at_in_range at place m (port_at b.shared place)

  found_in_range : (place : ℕ) (x : Port) (o : Option (Runner × ProcessStatus)) → PortsAreInRange (ports.enters_found b place x o).part.shared
  found_in_range place x None = h
  found_in_range place x (Some f) = port_kept b.shared h place _

  enters_in_range : (place : ℕ) (e : Entry) (o : Option Port) → PortsAreInRange (ports.enters_port b place e o).part.shared
  enters_in_range place e None = h
  enters_in_range place e (Some x) = within_either PortsAreInRange (is_full x) _ _ h (found_in_range place x (numbered e.process (row_of b.processes (runner.Process e.process))))

all_enter_in_range : (es : List Entry) (place : ℕ) (b : Sharing Ports) → PortsAreInRange b.shared → PortsAreInRange (ports.all_enter es place b).part.shared
all_enter_in_range [] place b h = h
all_enter_in_range (e ∷ es) place b h = all_enter_in_range es place _ (enters_in_range b h place e (port_at b.shared place))

pub admits_in_range : (b : Sharing Ports) (place : ℕ) → PortsAreInRange b.shared → PortsAreInRange (ports.admits b place).part.shared
admits_in_range b place h = all_enter_in_range (waiting b.processes (ports.list place)) place b h

pub leaves_in_range : (o : Ports) (place : ℕ) → PortsAreInRange o → PortsAreInRange (ports.leaves o place).part
leaves_in_range o place h = by_port (port_at o place)
  where
    by_first : (x : Port) (ms : List (ArrayVec ℤ)) → PortsAreInRange (ports.leaves_first o place x ms).part
    by_first x [] = h
    by_first x (m ∷ rest) = port_kept o h place _

    by_port : (k : Option Port) → PortsAreInRange (ports.leaves_of o place k).part
    by_port None = h
    by_port (Some x) = by_first x x.messages
