-- Who waits: the waiting lists of a partition and the records of its processes agree. A record says
-- in which service its process waits, and so at what kind of object; only the lists say at which
-- object of this kind.
use Rattle.std.specs.Prelude.{◌≡◌, ℕ, ◌<◌, ◌≤◌, Bool, true, false, List, Option, Some, None, is_some, length, slice_get}
use Rattle.apex_types.specs.declared.codes.ProcessState.TheVariants.{Waiting}
use Rattle.apex_types.specs.declared.identity.ListKey.{ListKey}
use Rattle.apex_types.specs.declared.identity.ListKey.TheVariants as key
use Rattle.apex_types.specs.declared.identity.ProcessIndex.{ProcessIndex}
use Rattle.apex_types.specs.Limits.{MOST_OBJECTS}
use Rattle.apex_types.specs.declared.process.ProcessStatus.{ProcessStatus}
use Rattle.apex_types.specs.declared.process.Wait.{Wait}
use Rattle.apex_types.specs.declared.process.Wait.TheVariants as wait
use Rattle.apex_types.specs.declared.service.Service.{Service}
use Rattle.apex_types.specs.declared.service.Service.TheVariants as service
use Rattle.kernel_laws.specs.Agreement.{record_at}
use Rattle.kernel_laws.specs.Ready.{times_listed}
use Rattle.kernel_meaning.specs.Kernel.{Kernel}
use Rattle.kernel_meaning.specs.Partition.{Member}
use Rattle.kernel_meaning.specs.Queues.{Queues, list_at}
use Rattle.module_meaning.specs.Module.{Module}
use Rattle.module_meaning.specs.Table.{at_number}

-- ---- the services in which a process may have to wait at an object or a port

abbrev pub is_at_semaphore : Service → Bool
is_at_semaphore service.WaitSemaphore = true
is_at_semaphore _ = false

abbrev pub is_at_event : Service → Bool
is_at_event service.WaitEvent = true
is_at_event _ = false

abbrev pub is_at_buffer : Service → Bool
is_at_buffer service.SendBuffer = true
is_at_buffer service.ReceiveBuffer = true
is_at_buffer _ = false

abbrev pub is_at_blackboard : Service → Bool
is_at_blackboard service.ReadBlackboard = true
is_at_blackboard _ = false

abbrev pub is_at_port : Service → Bool
is_at_port service.SendQueuingMessage = true
is_at_port service.ReceiveQueuingMessage = true
is_at_port _ = false

-- whether it is a service on objects of the kind that the list belongs to
abbrev pub is_at_kind : ListKey → Service → Bool
is_at_kind (key.Semaphore place) v = is_at_semaphore v
is_at_kind (key.Event place) v = is_at_event v
is_at_kind (key.Buffer place) v = is_at_buffer v
is_at_kind (key.Blackboard place) v = is_at_blackboard v
is_at_kind (key.Port place) v = is_at_port v

-- ---- the records that wait

abbrev pub is_wait_in : ListKey → Wait → Bool
is_wait_in list (wait.Object v array) = is_at_kind list v
is_wait_in list _ = false

-- a record that is WAITING, in a service on an object of the list's kind
abbrev pub WaitsIn : ListKey → Option ProcessStatus → Type 0
WaitsIn list None = ⊥
WaitsIn list (Some r) = (r.state ≡ Waiting) × (is_wait_in list r.wait ≡ true)

abbrev pub is_at_object : Wait → Bool
is_at_object (wait.Object v array) = true
is_at_object _ = false

-- a record that waits for an object or a port
abbrev pub waits_for_object : Option ProcessStatus → Bool
waits_for_object None = false
waits_for_object (Some r) = is_at_object r.wait

abbrev pub WaitsForObject : Option ProcessStatus → Type 0
WaitsForObject o = waits_for_object o ≡ true

-- ---- the processes that stand in a list

-- a process stands in the waiting list of an object or a port
abbrev pub Stands : Queues → ListKey → ProcessIndex → Type 0
Stands queues list p = 0 < times_listed p.0 (list_at queues list)

-- whether there is such a list
abbrev pub has_list : Queues → ListKey → Bool
has_list queues (key.Semaphore place) = is_some (slice_get queues.semaphores place)
has_list queues (key.Event place) = is_some (slice_get queues.events place)
has_list queues (key.Buffer place) = is_some (slice_get queues.buffers place)
has_list queues (key.Blackboard place) = is_some (slice_get queues.blackboards place)
has_list queues (key.Port place) = is_some (slice_get queues.ports place)

-- Whoever stands in a waiting list has a record that waits at an object of its kind. It stands in no
-- other list, and in this one once.
pub record AreWaiting (rows : List ProcessStatus) (queues : Queues) : Type 0 where
  pub waits : (list : ListKey) (p : ProcessIndex) → Stands queues list p → WaitsIn list (record_at rows p)
  pub alone : (list other : ListKey) (p : ProcessIndex) → Stands queues list p → Stands queues other p → list ≡ other
  pub once : (list : ListKey) (p : ProcessIndex) → times_listed p.0 (list_at queues list) ≤ 1

-- Whoever has a record that waits for an object or a port stands in a waiting list.
abbrev pub AreListed : List ProcessStatus → Queues → Type 0
AreListed rows queues = (p : ProcessIndex) → WaitsForObject (record_at rows p) → (list : ListKey) × Stands queues list p

-- ---- in a run

-- no more ports, and no more objects of a kind, than a partition has waiting lists for them
pub record HasFewObjects (k : Kernel) : Type 0 where
  pub semaphores : length k.objects.semaphores ≤ MOST_OBJECTS
  pub events : length k.objects.events ≤ MOST_OBJECTS
  pub buffers : length k.objects.buffers ≤ MOST_OBJECTS
  pub blackboards : length k.objects.blackboards ≤ MOST_OBJECTS
  pub ports : length k.ports.ports ≤ MOST_OBJECTS

abbrev pub HasFewAt : {C : Type 0} → Option (Member C) → Type 0
HasFewAt None = ⊥
HasFewAt (Some x) = HasFewObjects x.world.kernel

-- Whoever stands in a waiting list of a partition waits there, by its record. If the partition with
-- this number has few objects and ports from its first start on, whoever waits for one stands in a
-- list.
pub record HoldsWaiting {C : Type 0} (m : Module C) (number : ℕ) (x : Member C) : Type 0 where
  pub waiting : AreWaiting x.world.kernel.processes.rows x.world.kernel.processes.queues
  pub listed : HasFewAt (at_number m.members number) → AreListed x.world.kernel.processes.rows x.world.kernel.processes.queues
