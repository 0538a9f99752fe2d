-- The numbers of a partition, by which its ready list and its waiting lists are in order, and how a
-- step continues them. The state of a partition stores no number: its lists have their order.
use Rattle.std.specs.Prelude.{◌≡◌, ℕ, suc, ◌+◌, ℤ, pos, bytes_eq, List, [], ◌∷◌, ◌++◌, filter_map, map, Option, Some, None, option_map, if◌then◌else◌, slice_get}
use Rattle.apex_types.specs.declared.codes.Discipline.{Discipline}
use Rattle.apex_types.specs.declared.codes.Discipline.TheVariants as discipline
use Rattle.apex_types.specs.declared.codes.ProcessState.{ProcessState}
use Rattle.apex_types.specs.declared.codes.ProcessState.TheVariants.{Ready}
use Rattle.apex_types.specs.declared.event.EventKind.{EventKind}
use Rattle.apex_types.specs.declared.event.EventKind.TheVariants as event
use Rattle.apex_types.specs.declared.event.Subject.{Subject}
use Rattle.apex_types.specs.declared.event.Subject.TheVariants.{Init, Handler, Process}
use Rattle.apex_types.specs.declared.identity.ListKey.{ListKey}
use Rattle.apex_types.specs.declared.identity.ListKey.TheVariants as key
use Rattle.apex_types.specs.declared.identity.Runner.{Runner}
use Rattle.apex_types.specs.declared.identity.Runner.TheVariants as runner
use Rattle.apex_types.specs.declared.process.Entry.{Entry}
use Rattle.apex_types.specs.declared.process.ProcessStatus.{ProcessStatus}
use Rattle.apex_types.specs.declared.service.Call.{Call}
use Rattle.apex_types.specs.declared.service.Call.TheVariants as call
use Rattle.apex_types.specs.declared.service.ObjectCall.TheVariants as object
use Rattle.apex_types.specs.declared.service.PortCall.TheVariants as port
use Rattle.kernel_laws.specs.Choice.{IsNumbered, takes}
use Rattle.engine_meaning.specs.Engine.{Asks, Calls}
use Rattle.kernel_meaning.specs.Objects.{Objects}
use Rattle.kernel_meaning.specs.Objects.{Ports, discipline_of}
use Rattle.kernel_meaning.specs.Queues.{Queues}
use Rattle.kernel_laws.specs.WaitingOrder.{AreQueues}

-- The ready number and the waiting number of each process, by its place from 0, and the next number: no number was
-- given yet from it on.
pub record Numbers : Type 0 where
  pub ready : ℕ → ℕ
  pub waiting : ℕ → ℕ
  pub next : ℕ

-- before the first start
abbrev pub first_numbers : Numbers
first_numbers = record { ready = λ p. 0; waiting = λ p. 0; next = 0 }

-- ---- numbers are taken

-- the runner that takes a number, and why
pub data Taking : Type 0 where
  BecomesReady : (p : ℕ) → Taking
  GoesLast : (p : ℕ) → Taking
  BeginsToWait : (p : ℕ) → Taking

-- the taker gets the next number, and all others keep theirs
abbrev pub take_one : Taking → Numbers → Numbers
take_one (BecomesReady p) n = record { ready = takes n.ready p n.next; waiting = n.waiting; next = n.next + 1 }
take_one (GoesLast p) n = record { ready = takes n.ready p n.next; waiting = n.waiting; next = n.next + 1 }
take_one (BeginsToWait p) n = record { ready = n.ready; waiting = takes n.waiting p n.next; next = n.next + 1 }

-- each in turn
abbrev pub take_all : List Taking → Numbers → Numbers
take_all [] n = n
take_all (t ∷ ts) n = take_all ts (take_one t n)

-- those at these places become ready, in this order
abbrev pub become_ready : List ℕ → List Taking
become_ready places = map BecomesReady places

-- ---- lists that have the order of numbers

-- the ready list and the waiting lists have the order of these numbers
pub record IsInOrder (disciplines : ListKey → Discipline) (n : Numbers) (list : List Entry) (lists : Queues) : Type 0 where
  pub ready : IsNumbered n.ready n.next list
  pub queues : AreQueues disciplines n.waiting n.next lists

-- ---- the names of the processes

-- the subjects of the records, if the processes have these names in the order of the source
abbrev pub subjects : List (List ℕ) → List Subject
subjects names = Init ∷ Handler ∷ map Process names

abbrev pub AreNamed : List (List ℕ) → List ProcessStatus → Type 0
AreNamed names rows = map (λ r. r.who) rows ≡ subjects names

-- the place of the first process with a name
abbrev pub place_of_name : List (List ℕ) → List ℕ → Option ℕ
place_of_name [] name = None
place_of_name (n ∷ ns) name = if bytes_eq n name then Some 0 else option_map suc (place_of_name ns name)

-- ---- the contents of the lines

-- the process that a line calls ready, by its name
abbrev pub called_ready : ProcessState → Subject → List (List ℕ)
called_ready Ready (Process name) = name ∷ []
called_ready _ _ = []

abbrev pub ready_line : EventKind → List (List ℕ)
ready_line (event.State who state) = called_ready state who
ready_line _ = []

-- the processes that lines call ready, in their order
abbrev pub ready_lines : List EventKind → List (List ℕ)
ready_lines [] = []
ready_lines (l ∷ ls) = ready_line l ++ ready_lines ls

-- their places
abbrev pub places_called : List (List ℕ) → List EventKind → List ℕ
places_called names lines = filter_map (place_of_name names) (ready_lines lines)

-- ---- the processes that may take a number though no line calls them ready

-- one process may go last, and one may begin to wait in a list
pub record May : Type 0 where
  pub go_last : Option ℕ
  pub begin_to_wait : Option ℕ

abbrev pub nobody : May
nobody = record { go_last = None; begin_to_wait = None }

abbrev pub only_last : Option ℕ → May
only_last p = record { go_last = p; begin_to_wait = None }

-- the place of a process
abbrev pub itself : Runner → Option ℕ
itself (runner.Process p) = Some p.0
itself _ = None

-- the place of the process with a number
abbrev pub process_of : ℤ → Option ℕ
process_of (pos (suc n)) = Some n
process_of _ = None

-- a call of p lets go last the process that SET_PRIORITY names, or the caller of TIMED_WAIT
abbrev pub goes_last_by : Runner → Call → Option ℕ
goes_last_by p (call.SetPriority id v) = process_of id
goes_last_by p (call.TimedWait delay) = itself p
goes_last_by p _ = None

-- a call of p makes p wait in the list of an object or a port, if the service may do so
abbrev pub waits_by : Runner → Call → Option ℕ
waits_by p (call.Object (object.SendBuffer id array length limit)) = itself p
waits_by p (call.Object (object.ReceiveBuffer id array limit)) = itself p
waits_by p (call.Object (object.ReadBlackboard id array limit)) = itself p
waits_by p (call.Object (object.WaitSemaphore id limit)) = itself p
waits_by p (call.Object (object.WaitEvent id limit)) = itself p
waits_by p (call.Port (port.SendQueuingMessage id array length limit)) = itself p
waits_by p (call.Port (port.ReceiveQueuingMessage id array limit)) = itself p
waits_by p _ = None

abbrev pub may_by : Runner → Call → May
may_by p c = record { go_last = goes_last_by p c; begin_to_wait = waits_by p c }

abbrev pub may_asked : Runner → Asks → May
may_asked p (Calls c) = may_by p c
may_asked p _ = nobody

-- ---- the disciplines of the waiting lists

-- each item has the property at its place
abbrev pub EachAt : {X : Type 0} → (ℕ → X → Type 0) → List X → Type 0
EachAt is xs = (place : ℕ) (x : _) → slice_get xs place ≡ Some x → is place x

-- the waiting list of each object has its discipline
pub record HaveDisciplines (disciplines : ListKey → Discipline) (o : Objects) : Type 0 where
  pub semaphores : EachAt (λ place x. x.row.discipline ≡ disciplines (key.Semaphore place)) o.semaphores
  pub events : EachAt (λ place x. discipline.Fifo ≡ disciplines (key.Event place)) o.events
  pub buffers : EachAt (λ place x. x.row.discipline ≡ disciplines (key.Buffer place)) o.buffers
  pub blackboards : EachAt (λ place x. discipline.Fifo ≡ disciplines (key.Blackboard place)) o.blackboards

-- the waiting list of each port has its discipline
abbrev pub PortsHaveDisciplines : (ListKey → Discipline) → Ports → Type 0
PortsHaveDisciplines disciplines o = EachAt (λ place x. discipline_of x.row.kind ≡ disciplines (key.Port place)) o.ports
