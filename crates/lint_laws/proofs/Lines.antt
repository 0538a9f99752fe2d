-- The lines of the kernel's steps: only the normal start says that the mode becomes NORMAL.
use Rattle.std.proofs.Common.{◌≡◌, ℕ, zero, suc, ℤ, pos, negsuc, Bool, true, false, List, [], ◌∷◌, ◌++◌, length, Option, Some, None, refl}
use Rattle.std.specs.Prelude.{◌+◌, if◌then◌else◌}
use Rattle.arrayvec.specs.ArrayVec.{ArrayVec}
use Rattle.apex_types.specs.declared.codes.Mode.{Mode}
use Rattle.apex_types.specs.declared.codes.ProcessState.{ProcessState}
use Rattle.apex_types.specs.declared.codes.ProcessState.TheVariants.{Dormant, Ready, Running, Waiting}
use Rattle.apex_types.specs.declared.codes.ReturnCode.{ReturnCode}
use Rattle.apex_types.specs.declared.codes.ReturnCode.TheVariants as code
use Rattle.apex_types.specs.declared.event.EventKind.{EventKind}
use Rattle.apex_types.specs.declared.event.EventKind.TheVariants as event
use Rattle.apex_types.specs.declared.event.Subject.{Subject}
use Rattle.apex_types.specs.declared.identity.At.{At}
use Rattle.apex_types.specs.declared.identity.Runner.{Runner}
use Rattle.apex_types.specs.declared.identity.Runner.TheVariants as runner
use Rattle.apex_types.specs.declared.identity.Ticks.{Ticks}
use Rattle.apex_types.specs.declared.process.Due.{Due}
use Rattle.apex_types.specs.declared.process.Entry.{Entry}
use Rattle.apex_types.specs.declared.process.ProcessStatus.{ProcessStatus}
use Rattle.apex_types.specs.declared.process.Wait.{Wait}
use Rattle.apex_types.specs.declared.process.Wait.TheVariants as wait
use Rattle.apex_types.specs.declared.process.Waiting.{Waiting as Place}
use Rattle.apex_types.specs.declared.service.ArrayPlace.{ArrayPlace}
use Rattle.apex_types.specs.declared.service.ObjectCall.{ObjectCall}
use Rattle.apex_types.specs.declared.service.ObjectCall.TheVariants as object
use Rattle.apex_types.specs.declared.service.PortCall.{PortCall}
use Rattle.apex_types.specs.declared.service.PortCall.TheVariants as port
use Rattle.apex_types.specs.declared.service.Service.TheVariants as service
use Rattle.kernel_meaning.specs.BlackboardServices as blackboards
use Rattle.kernel_meaning.specs.BufferServices as buffers
use Rattle.kernel_meaning.specs.EventServices as events
use Rattle.kernel_meaning.specs.PortServices as ports
use Rattle.kernel_meaning.specs.SemaphoreServices as semaphores
use Rattle.kernel_meaning.specs.ObjectServices.{serves_objects}
use Rattle.kernel_meaning.specs.Objects.{Objects, Port, Ports, ApexEvent, Blackboard, Buffer, Semaphore, port_at}
use Rattle.kernel_meaning.specs.Processes.{Processes, row_of, numbered, on, waiting_lines, wakes, waits, rests_found, answers_wait, released_with, no_longer_waits, zeros_of_wait, is_normal}
use Rattle.kernel_meaning.specs.ProcessServices.{get_process_id, get_process_status, create_process, set_priority, suspend_self, suspends_self, suspend, resume, resumes_from, stop, start, delayed_start, lock_preemption, unlock_preemption, get_my_id, timed_wait, delays, yields, waits_until, periodic_wait, waits_periodically, waits_for_period, replenish, replenishes}
use Rattle.kernel_meaning.specs.Sharing as sharing
use Rattle.kernel_meaning.specs.Sharing.{Sharing, blocks, waits_at, first_waiting, waiting, gives, gives_found, gives_all, releases_found, releases_all, fills, writes, array_of_wait}
use Rattle.kernel_meaning.specs.Step.{Step, after}
use Rattle.kernel_meaning.specs.Times.{starts_in_normal, starts}

-- ---- lines

abbrev pub says_normal : EventKind → Bool
says_normal (event.Mode m) = is_normal m
says_normal _ = false

abbrev pub AreSilent : List EventKind → Type 0
AreSilent [] = Unit {0}
AreSilent (k ∷ ks) = (says_normal k ≡ false) × AreSilent ks

abbrev pub Silent : {P : Type 0} → Step P → Type 0
Silent s = AreSilent s.lines

pub both : (a b : List EventKind) → AreSilent a → AreSilent b → AreSilent (a ++ b)
both [] b h k = k
both (x ∷ a) b h k = (h.0, both a b h.1 k)

module _ {P : Type 0} where
  pub either : (b : Bool) (s t : Step P) → Silent s → Silent t → Silent (if b then s else t)
  either true s t h k = h
  either false s t h k = k

  pub in_turn : (s t : Step P) → Silent s → Silent t → Silent (after s t)
  in_turn s t h k = both s.lines t.lines h k

-- ---- changes of one process

waiting_silent : (who : Subject) (state : ProcessState) → AreSilent (waiting_lines who state)
waiting_silent who Dormant = (refl, tt)
waiting_silent who Ready = (refl, tt)
waiting_silent who Running = (refl, tt)
waiting_silent who Waiting = tt

module _ (s : Processes) where
  pub wakes_silent : (p : Runner) (r : ProcessStatus) → Silent (wakes s p r)
  wakes_silent p r = either r.suspended _ _ tt (refl, tt)

  waits_silent : (p : Runner) (r : ProcessStatus) (reason : Wait) (due : Option Due) → Silent (waits s p r reason due)
  waits_silent p r reason due = waiting_silent r.who r.state

  pub rests_silent : (p : Runner) (o : Option ProcessStatus) → Silent (rests_found s p o)
  rests_silent p None = tt
  rests_silent p (Some r) = (refl, tt)

  wait_silent : (p : Runner) (r : ProcessStatus) (c : ReturnCode) (outputs : List ℤ) (w : Wait) → Silent (answers_wait s p r c outputs w)
  wait_silent p r c outputs wait.Nothing = tt
  wait_silent p r c outputs (wait.NormalStart delay) = tt
  wait_silent p r c outputs wait.FirstRelease = tt
  wait_silent p r c outputs (wait.Service v) = (refl, tt)
  wait_silent p r c outputs (wait.Object v array) = (refl, tt)

pub released_with_silent : (s : Processes) (p : Runner) (r : ProcessStatus) (c : ReturnCode) (outputs : List ℤ) → Silent (released_with s p r c outputs)
released_with_silent s p r c outputs = in_turn (answers_wait s p r c outputs r.wait) (wakes (no_longer_waits s p) p r) (wait_silent s p r c outputs r.wait) (wakes_silent (no_longer_waits s p) p r)

module _ (s : Processes) where
  on_silent : (o : Option (Runner × ProcessStatus)) (step : Runner → ProcessStatus → Step Processes) → ((q : Runner) (r : ProcessStatus) → Silent (step q r)) → Silent (on o s step)
  on_silent None step h = tt
  on_silent (Some f) step h = h f.0 f.1

  waits_at_silent : (at : At) (p : Runner) (limit : ℤ) (w : Place) (m : ArrayVec ℤ) (o : Option ProcessStatus) → Silent (waits_at at s p limit w m o)
  waits_at_silent at p limit w m None = tt
  waits_at_silent at p limit w m (Some r) = waiting_silent r.who r.state

  blocks_silent : (at : At) (p : Runner) (limit : ℤ) (w : Place) (m : ArrayVec ℤ) → Silent (blocks at s p limit w m)
  blocks_silent at p limit w m = search (either, waits_at_silent)

  releases_found_silent : (o : Option (Runner × ProcessStatus)) → Silent (releases_found s o)
  releases_found_silent None = tt
  releases_found_silent (Some f) = released_with_silent s f.0 f.1 code.NoError (zeros_of_wait f.1.wait)

  gives_silent : (p : Runner) (r : ProcessStatus) (m : ArrayVec ℤ) → Silent (gives s p r m)
  gives_silent p r m = released_with_silent s p r code.NoError (pos (length m.items) ∷ [])

  gives_found_silent : (o : Option (Runner × ProcessStatus)) (m : ArrayVec ℤ) → Silent (gives_found s o m)
  gives_found_silent None m = tt
  gives_found_silent (Some f) m = gives_silent f.0 f.1 m

releases_silent : (es : List Entry) (s : Processes) → Silent (releases_all es s)
releases_silent [] s = tt
releases_silent (e ∷ es) s = let t = releases_found s (numbered e.process (row_of s (runner.Process e.process))) in in_turn t (releases_all es t.part) (releases_found_silent s (numbered e.process (row_of s (runner.Process e.process)))) (releases_silent es t.part)

gives_all_silent : (es : List Entry) (m : ArrayVec ℤ) (s : Processes) → Silent (gives_all es m s)
gives_all_silent [] m s = tt
gives_all_silent (e ∷ es) m s = let t = gives_found s (numbered e.process (row_of s (runner.Process e.process))) m in in_turn t (gives_all es m t.part) (gives_found_silent s (numbered e.process (row_of s (runner.Process e.process))) m) (gives_all_silent es m t.part)

-- ---- the services on processes and on time

module _ (s : Processes) (p : Runner) where
  suspends_self_silent : (at : At) (limit : ℤ) (o : Option ProcessStatus) → Silent (suspends_self at s p limit o)
  suspends_self_silent at limit None = tt
  suspends_self_silent at limit (Some r) = waiting_silent r.who r.state

  resumes_from_silent : (q : Runner) (r : ProcessStatus) (w : Wait) → Silent (resumes_from s q r w)
  resumes_from_silent q r wait.Nothing = wakes_silent s q r
  resumes_from_silent q r (wait.Service service.SuspendSelf) = released_with_silent s q r code.NoError (zeros_of_wait r.wait)
  resumes_from_silent q r _ = tt

  in_normal_silent : (at : At) (next : ℕ) (q : Runner) (delay : Ticks) (r : ProcessStatus) → Silent (starts_in_normal at next s q delay r)
  in_normal_silent at next q delay r = search (either, waiting_silent, wakes_silent)

  starts_silent : (m : Mode) (at : At) (next : ℕ) (q : Runner) (delay : Ticks) (r : ProcessStatus) → Silent (starts m at next s q delay r)
  starts_silent m at next q delay r = either (is_normal m) _ _ (in_normal_silent at next q delay (record r { current_priority = r.base_priority })) (waiting_silent r.who r.state)

  yields_silent : (o : Option ProcessStatus) → Silent (yields s p o)
  yields_silent None = tt
  yields_silent (Some r) = tt

  until_silent : (o : Option ProcessStatus) (tick : ℕ) → Silent (waits_until s p o tick)
  until_silent None tick = tt
  until_silent (Some r) tick = waiting_silent r.who r.state

  delays_silent : (at : At) (delay : ℤ) → Silent (delays at s p delay)
  delays_silent at (negsuc n) = tt
  delays_silent at (pos zero) = (refl, yields_silent (row_of s p))
  delays_silent at (pos (suc n)) = until_silent (row_of s p) (at.now.0 + suc n)

  for_period_silent : (r : ProcessStatus) (o : Option Ticks) → Silent (waits_for_period s p r o)
  for_period_silent r None = tt
  for_period_silent r (Some period) = waiting_silent r.who r.state

  periodically_silent : (o : Option ProcessStatus) → Silent (waits_periodically s p o)
  periodically_silent None = tt
  periodically_silent (Some r) = for_period_silent r r.period

  replenishes_silent : (at : At) (budget : ℤ) (o : Option ProcessStatus) → Silent (replenishes at s p budget o)
  replenishes_silent at budget None = tt
  replenishes_silent at budget (Some r) = tt

  pub my_id_silent : (o : Option ℕ) → Silent (get_my_id s p o)
  my_id_silent None = (refl, tt)
  my_id_silent (Some n) = (refl, tt)

  pub get_process_id_silent : (name : ℤ) → Silent (get_process_id s p name)
  get_process_id_silent name = search (either)

  pub get_process_status_silent : (id : ℤ) → Silent (get_process_status s p id)
  get_process_status_silent id = search (either, on_silent) depth 9

  pub create_process_silent : (m : Mode) (name : ℤ) → Silent (create_process m s p name)
  create_process_silent m name = search (either, on_silent) depth 9

  pub set_priority_silent : (id v : ℤ) → Silent (set_priority s p id v)
  set_priority_silent id v = search (either, on_silent) depth 9

  pub suspend_self_silent : (at : At) (limit : ℤ) → Silent (suspend_self at s p limit)
  suspend_self_silent at limit = search (either, suspends_self_silent) depth 9

  pub suspend_silent : (id : ℤ) → Silent (suspend s p id)
  suspend_silent id = search (either, on_silent, waiting_silent) depth 9

  pub resume_silent : (id : ℤ) → Silent (resume s p id)
  resume_silent id = search (either, on_silent, resumes_from_silent) depth 9

  pub stop_silent : (id : ℤ) → Silent (stop s p id)
  stop_silent id = search (either, on_silent) depth 9

  pub start_silent : (m : Mode) (at : At) (next : ℕ) (id : ℤ) → Silent (start m at next s p id)
  start_silent m at next id = search (either, on_silent, starts_silent) depth 9

  pub delayed_start_silent : (m : Mode) (at : At) (next : ℕ) (id delay : ℤ) → Silent (delayed_start m at next s p id delay)
  delayed_start_silent m at next id delay = search (either, on_silent, starts_silent) depth 9

  pub lock_silent : (m : Mode) → Silent (lock_preemption m s p)
  lock_silent m = search (either)

  pub unlock_silent : (m : Mode) → Silent (unlock_preemption m s p)
  unlock_silent m = search (either)

  pub timed_wait_silent : (at : At) (delay : ℤ) → Silent (timed_wait at s p delay)
  timed_wait_silent at delay = search (either, delays_silent) depth 9

  pub periodic_wait_silent : Silent (periodic_wait s p)
  periodic_wait_silent = search (either, periodically_silent) depth 9

  pub replenish_silent : (m : Mode) (at : At) (budget : ℤ) → Silent (replenish m at s p budget)
  replenish_silent m at budget = search (either, replenishes_silent) depth 9

-- ---- the services on objects

module _ {O : Type 0} (b : Sharing O) where
  found_silent : {X : Type 0} (o : Option (ℕ × X)) (step : ℕ → X → Step (Sharing O)) → ((place : ℕ) (x : X) → Silent (step place x)) → Silent (sharing.on o b step)
  found_silent None step h = tt
  found_silent (Some f) step h = h f.0 f.1

module _ (b : Sharing Objects) (p : Runner) where
  takes_silent : (at : At) (limit : ℤ) (place : ℕ) (x : Semaphore) → Silent (semaphores.takes at b p limit place x)
  takes_silent at limit place x = search (either, blocks_silent)

  signals_silent : (place : ℕ) (x : Semaphore) (o : Option (Runner × ProcessStatus)) → Silent (semaphores.signals b place x o)
  signals_silent place x None = tt
  signals_silent place x (Some f) = released_with_silent b.processes f.0 f.1 code.NoError (zeros_of_wait f.1.wait)

  awaits_silent : (at : At) (limit : ℤ) (place : ℕ) (x : ApexEvent) → Silent (events.awaits at b p limit place x)
  awaits_silent at limit place x = search (either, blocks_silent)

  raises_silent : (place : ℕ) (x : ApexEvent) → Silent (events.raises b place x)
  raises_silent place x = releases_silent (waiting b.processes (events.list place)) b.processes

  takes_message_silent : (place : ℕ) (x : Buffer) (m : ArrayVec ℤ) (o : Option (Runner × ProcessStatus)) → Silent (buffers.takes_message b place x m o)
  takes_message_silent place x m None = tt
  takes_message_silent place x m (Some f) = gives_silent b.processes f.0 f.1 m

  sends_silent : (at : At) (limit : ℤ) (m : ArrayVec ℤ) (place : ℕ) (x : Buffer) → Silent (buffers.sends at b p limit m place x)
  sends_silent at limit m place x = search (either, blocks_silent, takes_message_silent)

  admits_silent : (place : ℕ) (x : Buffer) (o : Option (Runner × ProcessStatus)) → Silent (buffers.admits b place x o)
  admits_silent place x None = tt
  admits_silent place x (Some f) = released_with_silent b.processes f.0 f.1 code.NoError (zeros_of_wait f.1.wait)

  receives_silent : (at : At) (array : ArrayPlace) (limit : ℤ) (place : ℕ) (x : Buffer) (ms : List (ArrayVec ℤ)) → Silent (buffers.receives at b p array limit place x ms)
  receives_silent at array limit place x [] = blocks_silent b.processes at p limit _ _
  receives_silent at array limit place x (m ∷ rest) = (refl, admits_silent place (record x { messages = rest }) (first_waiting b.processes (buffers.list place)))

  displays_silent : (m : ArrayVec ℤ) (place : ℕ) (x : Blackboard) → Silent (blackboards.displays b m place x)
  displays_silent m place x = gives_all_silent (waiting b.processes (blackboards.list place)) m b.processes

  reads_silent : (at : At) (array : ArrayPlace) (limit : ℤ) (place : ℕ) (o : Option (ArrayVec ℤ)) → Silent (blackboards.reads at b p array limit place o)
  reads_silent at array limit place None = blocks_silent b.processes at p limit _ _
  reads_silent at array limit place (Some m) = (refl, tt)

  pub objects_silent : (m : Mode) (at : At) (c : ObjectCall) (words : List ℤ) → Silent (serves_objects m at b p c words)
  objects_silent m at (object.SendBuffer id array size limit) words = search (either, found_silent, sends_silent) depth 9
  objects_silent m at (object.ReceiveBuffer id array limit) words = search (either, found_silent, receives_silent) depth 9
  objects_silent m at (object.DisplayBlackboard id array size) words = search (either, found_silent, displays_silent) depth 9
  objects_silent m at (object.ReadBlackboard id array limit) words = search (either, found_silent, reads_silent) depth 9
  objects_silent m at (object.WaitSemaphore id limit) words = search (either, found_silent, takes_silent) depth 9
  objects_silent m at (object.SignalSemaphore id) words = search (either, found_silent, signals_silent) depth 9
  objects_silent m at (object.SetEvent id) words = search (either, found_silent, raises_silent) depth 9
  objects_silent m at (object.WaitEvent id limit) words = search (either, found_silent, awaits_silent) depth 9
  objects_silent m at c words = search (either, found_silent) depth 9

-- ---- the services on ports, and messages

module _ (b : Sharing Ports) (p : Runner) where
  sample_silent : (at : At) (array : ArrayPlace) (place : ℕ) (x : Port) (ms : List (ArrayVec ℤ)) → Silent (ports.reads_sample at b p array place x ms)
  sample_silent at array place x [] = (refl, tt)
  sample_silent at array place x (m ∷ rest) = (refl, tt)

  sends_port_silent : (at : At) (limit : ℤ) (m : ArrayVec ℤ) (place : ℕ) (x : Port) → Silent (ports.sends at b p limit m place x)
  sends_port_silent at limit m place x = search (either, blocks_silent)

  receives_port_silent : (at : At) (array : ArrayPlace) (limit : ℤ) (place : ℕ) (x : Port) (ms : List (ArrayVec ℤ)) → Silent (ports.receives at b p array limit place x ms)
  receives_port_silent at array limit place x [] = blocks_silent b.processes at p limit _ _
  receives_port_silent at array limit place x (m ∷ rest) = (refl, tt)

  pub ports_silent : (m : Mode) (at : At) (c : PortCall) (words : List ℤ) → Silent (ports.serves_ports m at b p c words)
  ports_silent m at (port.ReadSamplingMessage id array) words = search (either, found_silent, sample_silent) depth 9
  ports_silent m at (port.SendQueuingMessage id array size limit) words = search (either, found_silent, sends_port_silent) depth 9
  ports_silent m at (port.ReceiveQueuingMessage id array limit) words = search (either, found_silent, receives_port_silent) depth 9
  ports_silent m at c words = search (either, found_silent) depth 9

module _ (b : Sharing Ports) where
  queuing_silent : (place : ℕ) (x : Port) (m : ArrayVec ℤ) (o : Option (Runner × ProcessStatus)) → Silent (ports.arrives_queuing b place x m o)
  queuing_silent place x m None = search (either)
  queuing_silent place x m (Some f) = (refl, gives_silent b.processes f.0 f.1 m)

  pub arrives_silent : (at : At) (place : ℕ) (m : ArrayVec ℤ) (o : Option Port) → Silent (ports.arrives_at at b place m o)
  arrives_silent at place m None = tt
  arrives_silent at place m (Some x) = search (either, queuing_silent)

  entered_silent : (place : ℕ) (x : Port) (o : Option (Runner × ProcessStatus)) → Silent (ports.enters_found b place x o)
  entered_silent place x None = tt
  entered_silent place x (Some f) = released_with_silent b.processes f.0 f.1 code.NoError (zeros_of_wait f.1.wait)

  enters_silent : (place : ℕ) (e : Entry) (o : Option Port) → Silent (ports.enters_port b place e o)
  enters_silent place e None = tt
  enters_silent place e (Some x) = search (either, entered_silent)

pub enter_silent : (es : List Entry) (place : ℕ) (b : Sharing Ports) → Silent (ports.all_enter es place b)
enter_silent [] place b = tt
enter_silent (e ∷ es) place b = let s = ports.enters_port b place e (port_at b.shared place) in in_turn s (ports.all_enter es place s.part) (enters_silent b place e (port_at b.shared place)) (enter_silent es place s.part)

pub leaves_silent : (o : Ports) (place : ℕ) (p : Option Port) → Silent (ports.leaves_of o place p)
leaves_silent o place None = tt
leaves_silent o place (Some x) = by_first x.messages
  where
    by_first : (ms : List (ArrayVec ℤ)) → Silent (ports.leaves_first o place x ms)
    by_first [] = tt
    by_first (m ∷ rest) = (refl, tt)
