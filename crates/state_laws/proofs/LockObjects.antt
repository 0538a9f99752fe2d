-- Whoever holds the preemption lock by the lines holds it in the kernel: waits, the services on objects and on ports, and messages.
use Rattle.std.proofs.Common.{◌≡◌, ℕ, ℤ, pos, Bool, true, false, List, [], ◌∷◌, length, Option, Some, None, refl, sym, subst}
use Rattle.std.specs.Prelude.{if◌then◌else◌}
use Rattle.std.proofs.lemmas.Option.{none-some}
use Rattle.arrayvec.specs.ArrayVec.{ArrayVec}
use Rattle.apex_types.specs.declared.codes.Mode.{Mode}
use Rattle.apex_types.specs.declared.codes.ReturnCode.{ReturnCode}
use Rattle.apex_types.specs.declared.codes.ReturnCode.TheVariants as code
use Rattle.apex_types.specs.declared.identity.At.{At}
use Rattle.apex_types.specs.declared.identity.Runner.{Runner}
use Rattle.apex_types.specs.declared.identity.Runner.TheVariants as runner
use Rattle.apex_types.specs.declared.process.Entry.{Entry}
use Rattle.apex_types.specs.declared.process.ProcessStatus.{ProcessStatus}
use Rattle.apex_types.specs.declared.process.Waiting.{Waiting as Place}
use Rattle.apex_types.specs.declared.service.ArrayPlace.{ArrayPlace}
use Rattle.apex_types.specs.declared.service.ObjectCall.{ObjectCall}
use Rattle.apex_types.specs.declared.service.ObjectCall.TheVariants as object
use Rattle.apex_types.specs.declared.service.PortCall.{PortCall}
use Rattle.apex_types.specs.declared.service.PortCall.TheVariants as port
use Rattle.apex_types.specs.declared.service.Service.{Service}
use Rattle.engine_meaning.specs.Operators.{is_zero}
use Rattle.kernel_laws.proofs.Records.{IsFound, numbered_found}
use Rattle.kernel_meaning.specs.BlackboardServices as blackboards
use Rattle.kernel_meaning.specs.BufferServices as buffers
use Rattle.kernel_meaning.specs.EventServices as events
use Rattle.kernel_meaning.specs.PortServices as ports
use Rattle.kernel_meaning.specs.SemaphoreServices as semaphores
use Rattle.kernel_meaning.specs.ObjectServices.{serves_objects}
use Rattle.kernel_meaning.specs.Objects.{Objects, Port, Ports, ApexEvent, Blackboard, Buffer, Semaphore, port_at, is_full, is_sampling}
use Rattle.kernel_meaning.specs.Processes.{Processes, row_of, numbered, subject, zeros_of_wait, is_busy}
use Rattle.kernel_meaning.specs.Sharing as sharing
use Rattle.kernel_meaning.specs.Sharing.{Sharing, of_processes, blocks, enters, waits_at, found_first, first_waiting, waiting, gives, gives_found, gives_all, releases_found, releases_all}
use Rattle.kernel_meaning.specs.Step.{Step, nothing, after, message}
use Rattle.state_laws.specs.Locks.{Held}
use Rattle.state_laws.proofs.LockSteps.{FitsIn, LockGoes, all_lock, is_on_lock, lock_here, lock_in_turn, lock_either, lock_waits, lock_answers, lock_released, others_leave}
use Rattle.state_laws.proofs.Objects.{of_shared}

-- ---- what is found

pub first_found : (s : Processes) (es : List Entry) → IsFound s (found_first s es)
first_found s [] f e = absurd (none-some f e)
first_found s (x ∷ xs) f e = numbered_found s x.process f e

-- ---- releases

module _ (o : Option Held) (s : Processes) (h : FitsIn o s) where
  lock_releases_found : (f : Option (Runner × ProcessStatus)) → IsFound s f → LockGoes o (releases_found s f)
  lock_releases_found None found = lock_here o s h
  lock_releases_found (Some f) found = lock_released o s h f.0 f.1 code.NoError (zeros_of_wait f.1.wait) (found f refl)

  pub lock_gives : (p : Runner) (r : ProcessStatus) (m : ArrayVec ℤ) → row_of s p ≡ Some r → LockGoes o (gives s p r m)
  lock_gives p r m there = let k = lock_released o s h p r code.NoError (pos (length m.items) ∷ []) there in record { fits = k.fits }

  lock_gives_found : (f : Option (Runner × ProcessStatus)) (m : ArrayVec ℤ) → IsFound s f → LockGoes o (gives_found s f m)
  lock_gives_found None m found = lock_here o s h
  lock_gives_found (Some f) m found = lock_gives f.0 f.1 m (found f refl)

  -- a caller that has to wait
  pub lock_blocks : (at : At) (p : Runner) (limit : ℤ) (w : Place) (m : ArrayVec ℤ) → is_on_lock w.service ≡ false → LockGoes o (blocks at s p limit w m)
  lock_blocks at p limit w m free =
      lock_either o (is_zero limit) _ _ (lock_answers o s h p w.service _ _ free) (lock_either o (is_busy s p) _ _ (lock_answers o s h p w.service _ _ free) (found p (row_of s p) refl))
    where
      found : (q : Runner) (y : Option ProcessStatus) → row_of s q ≡ y → LockGoes o (waits_at at s q limit w m y)
      found q None e = lock_here o s h
      found runner.Init (Some r) e = lock_waits o s h runner.Init r r _ _ e refl free
      found runner.Handler (Some r) e = lock_waits o s h runner.Handler r r _ _ e refl free
      found (runner.Process i) (Some r) e = lock_waits o (enters s (runner.Process i) w m r) h (runner.Process i) r r _ _ e refl free

pub lock_releases : (es : List Entry) (o : Option Held) (s : Processes) → FitsIn o s → LockGoes o (releases_all es s)
lock_releases [] o s h = lock_here o s h
lock_releases (e ∷ es) o s h =
    let u = releases_found s (numbered e.process (row_of s (runner.Process e.process))) in
    let one = lock_releases_found o s h (numbered e.process (row_of s (runner.Process e.process))) (numbered_found s e.process) in
    lock_in_turn o u (releases_all es u.part) one (lock_releases es (all_lock o u.lines) u.part one.fits)

pub lock_gives_all : (es : List Entry) (m : ArrayVec ℤ) (o : Option Held) (s : Processes) → FitsIn o s → LockGoes o (gives_all es m s)
lock_gives_all [] m o s h = lock_here o s h
lock_gives_all (e ∷ es) m o s h =
    let u = gives_found s (numbered e.process (row_of s (runner.Process e.process))) m in
    let one = lock_gives_found o s h (numbered e.process (row_of s (runner.Process e.process))) m (numbered_found s e.process) in
    lock_in_turn o u (gives_all es m u.part) one (lock_gives_all es m (all_lock o u.lines) u.part one.fits)

-- ---- the services

module _ (o : Option Held) where
  -- the step of the processes in it
  abbrev pub Shares : {O : Type 0} → Step (Sharing O) → Type 0
  Shares u = LockGoes o (of_shared u)

  either_shared : {O : Type 0} (b : Bool) (u v : Step (Sharing O)) → Shares u → Shares v → Shares (if b then u else v)
  either_shared true u v h k = h
  either_shared false u v h k = k

  module _ {O : Type 0} (b : Sharing O) (h : FitsIn o b.processes) where
    told : (p : Runner) (v : Service) (c : ReturnCode) (outputs : List ℤ) → is_on_lock v ≡ false → Shares (sharing.answers b p v c outputs)
    told p v c outputs free = let k = lock_answers o b.processes h p v c outputs free in record { fits = k.fits }

    told_then : (p : Runner) (v : Service) (c : ReturnCode) (outputs : List ℤ) (u : Step (Sharing O)) → is_on_lock v ≡ false → Shares u → Shares (after (sharing.answers b p v c outputs) u)
    told_then p v c outputs u free k = record { fits = subst (λ (x : Option Held). FitsIn (all_lock x u.lines) u.part.processes) (sym (others_leave (subject b.processes p) v c o free)) k.fits }

    changed : (x : O) → Shares (sharing.becomes b x)
    changed x = record { fits = h }

    on_shared : {X : Type 0} (f : Option (ℕ × X)) (step : ℕ → X → Step (Sharing O)) → ((place : ℕ) (x : X) → Shares (step place x)) → Shares (sharing.on f b step)
    on_shared None step k = record { fits = h }
    on_shared (Some f) step k = k f.0 f.1

  -- ---- objects

  module _ (b : Sharing Objects) (h : FitsIn o b.processes) (p : Runner) where
    waits : (at : At) (limit : ℤ) (v : Place) (m : ArrayVec ℤ) → is_on_lock v.service ≡ false → Shares (of_processes b (blocks at b.processes p limit v m))
    waits at limit v m free = let k = lock_blocks o b.processes h at p limit v m free in record { fits = k.fits }

    signals : (place : ℕ) (x : Semaphore) → Shares (semaphores.signals b place x (first_waiting b.processes (semaphores.list place)))
    signals place x = first (first_waiting b.processes (semaphores.list place)) (first_found b.processes (waiting b.processes (semaphores.list place)))
      where
        first : (f : Option (Runner × ProcessStatus)) → IsFound b.processes f → Shares (semaphores.signals b place x f)
        first None found = record { fits = h }
        first (Some f) found = let k = lock_released o b.processes h f.0 f.1 code.NoError (zeros_of_wait f.1.wait) (found f refl) in record { fits = k.fits }

    takes_message : (place : ℕ) (x : Buffer) (m : ArrayVec ℤ) → Shares (buffers.takes_message b place x m (first_waiting b.processes (buffers.list place)))
    takes_message place x m = first (first_waiting b.processes (buffers.list place)) (first_found b.processes (waiting b.processes (buffers.list place)))
      where
        first : (f : Option (Runner × ProcessStatus)) → IsFound b.processes f → Shares (buffers.takes_message b place x m f)
        first None found = record { fits = h }
        first (Some f) found = let k = lock_gives o b.processes h f.0 f.1 m (found f refl) in record { fits = k.fits }

    admits : (place : ℕ) (x : Buffer) → Shares (buffers.admits b place x (first_waiting b.processes (buffers.list place)))
    admits place x = first (first_waiting b.processes (buffers.list place)) (first_found b.processes (waiting b.processes (buffers.list place)))
      where
        first : (f : Option (Runner × ProcessStatus)) → IsFound b.processes f → Shares (buffers.admits b place x f)
        first None found = record { fits = h }
        first (Some f) found = let k = lock_released o b.processes h f.0 f.1 code.NoError (zeros_of_wait f.1.wait) (found f refl) in record { fits = k.fits }

    receives : (at : At) (array : ArrayPlace) (limit : ℤ) (place : ℕ) (x : Buffer) (ms : List (ArrayVec ℤ)) → Shares (buffers.receives at b p array limit place x ms)
    receives at array limit place x [] = waits at limit (buffers.receiver place x array) (message []) refl
    receives at array limit place x (m ∷ rest) = let k = admits place (record x { messages = rest }) in record { fits = k.fits }

    receives_own : (at : At) (array : ArrayPlace) (limit : ℤ) (place : ℕ) (x : Buffer) → Shares (buffers.receives at b p array limit place x x.messages)
    receives_own at array limit place x = receives at array limit place x x.messages

    reads_board : (at : At) (array : ArrayPlace) (limit : ℤ) (place : ℕ) (m : Option (ArrayVec ℤ)) → Shares (blackboards.reads at b p array limit place m)
    reads_board at array limit place None = waits at limit (blackboards.reader place array) (message []) refl
    reads_board at array limit place (Some m) = record { fits = h }

    reads_shown : (at : At) (array : ArrayPlace) (limit : ℤ) (place : ℕ) (x : Blackboard) → Shares (blackboards.reads at b p array limit place x.shown)
    reads_shown at array limit place x = reads_board at array limit place x.shown

    takes : (at : At) (limit : ℤ) (place : ℕ) (x : Semaphore) → Shares (semaphores.takes at b p limit place x)
    takes at limit place x = search (either_shared, waits, told_then b h, changed b h)

    awaits : (at : At) (limit : ℤ) (place : ℕ) (x : ApexEvent) → Shares (events.awaits at b p limit place x)
    awaits at limit place x = either_shared x.up _ _ (told b h p _ _ _ refl) (waits at limit (events.waiting_for place) (message []) refl)

    sends : (at : At) (limit : ℤ) (m : ArrayVec ℤ) (place : ℕ) (x : Buffer) → Shares (buffers.sends at b p limit m place x)
    sends at limit m place x = search (either_shared, waits, told_then b h, takes_message)

    raises : (place : ℕ) (x : ApexEvent) → Shares (events.raises b place x)
    raises place x = let k = lock_releases (waiting b.processes (events.list place)) o b.processes h in record { fits = k.fits }

    displays : (m : ArrayVec ℤ) (place : ℕ) (x : Blackboard) → Shares (blackboards.displays b m place x)
    displays m place x = let k = lock_gives_all (waiting b.processes (blackboards.list place)) m o b.processes h in record { fits = k.fits }

    pub lock_objects : (m : Mode) (at : At) (c : ObjectCall) (words : List ℤ) → Shares (serves_objects m at b p c words)
    lock_objects m at (object.SendBuffer id array size limit) words = search (either_shared, told b h, on_shared b h, sends) depth 9
    lock_objects m at (object.ReceiveBuffer id array limit) words = search (either_shared, told b h, on_shared b h, receives_own) depth 9
    lock_objects m at (object.DisplayBlackboard id array size) words = search (either_shared, told b h, told_then b h, on_shared b h, displays) depth 9
    lock_objects m at (object.ReadBlackboard id array limit) words = search (either_shared, told b h, on_shared b h, reads_shown) depth 9
    lock_objects m at (object.WaitSemaphore id limit) words = search (either_shared, told b h, on_shared b h, takes) depth 9
    lock_objects m at (object.SignalSemaphore id) words = search (either_shared, told b h, told_then b h, on_shared b h, signals) depth 9
    lock_objects m at (object.SetEvent id) words = search (either_shared, told b h, told_then b h, on_shared b h, raises) depth 9
    lock_objects m at (object.WaitEvent id limit) words = search (either_shared, told b h, on_shared b h, awaits) depth 9
    lock_objects m at c words = search (either_shared, told b h, told_then b h, on_shared b h, changed b h) depth 9

  -- ---- ports

  module _ (b : Sharing Ports) (h : FitsIn o b.processes) where
    module _ (p : Runner) where
      waits_at_port : (at : At) (limit : ℤ) (v : Place) (m : ArrayVec ℤ) → is_on_lock v.service ≡ false → Shares (of_processes b (blocks at b.processes p limit v m))
      waits_at_port at limit v m free = let k = lock_blocks o b.processes h at p limit v m free in record { fits = k.fits }

      reads_sample : (at : At) (array : ArrayPlace) (place : ℕ) (x : Port) (ms : List (ArrayVec ℤ)) → Shares (ports.reads_sample at b p array place x ms)
      reads_sample at array place x [] = told b h p _ _ _ refl
      reads_sample at array place x (m ∷ rest) = record { fits = h }

      reads_own_sample : (at : At) (array : ArrayPlace) (place : ℕ) (x : Port) → Shares (ports.reads_sample at b p array place x x.messages)
      reads_own_sample at array place x = reads_sample at array place x x.messages

      sends_to_port : (at : At) (limit : ℤ) (m : ArrayVec ℤ) (place : ℕ) (x : Port) → Shares (ports.sends at b p limit m place x)
      sends_to_port at limit m place x = search (either_shared, waits_at_port, told_then b h, changed b h)

      receives_at_port : (at : At) (array : ArrayPlace) (limit : ℤ) (place : ℕ) (x : Port) (ms : List (ArrayVec ℤ)) → Shares (ports.receives at b p array limit place x ms)
      receives_at_port at array limit place x [] = waits_at_port at limit (ports.receiver place x array) (message []) refl
      receives_at_port at array limit place x (m ∷ rest) = record { fits = h }

      receives_own_at_port : (at : At) (array : ArrayPlace) (limit : ℤ) (place : ℕ) (x : Port) → Shares (ports.receives at b p array limit place x x.messages)
      receives_own_at_port at array limit place x = receives_at_port at array limit place x x.messages

      pub lock_ports : (m : Mode) (at : At) (c : PortCall) (words : List ℤ) → Shares (ports.serves_ports m at b p c words)
      lock_ports m at (port.ReadSamplingMessage id array) words = search (either_shared, told b h, on_shared b h, reads_own_sample) depth 9
      lock_ports m at (port.SendQueuingMessage id array size limit) words = search (either_shared, told b h, on_shared b h, sends_to_port) depth 9
      lock_ports m at (port.ReceiveQueuingMessage id array limit) words = search (either_shared, told b h, on_shared b h, receives_own_at_port) depth 9
      lock_ports m at c words = search (either_shared, told b h, told_then b h, on_shared b h, changed b h) depth 9

    -- ---- messages that arrive, and senders that enter

    lock_queuing : (place : ℕ) (x : Port) (m : ArrayVec ℤ) → Shares (ports.arrives_queuing b place x m (first_waiting b.processes (ports.list place)))
    lock_queuing place x m = first (first_waiting b.processes (ports.list place)) (first_found b.processes (waiting b.processes (ports.list place)))
      where
        first : (f : Option (Runner × ProcessStatus)) → IsFound b.processes f → Shares (ports.arrives_queuing b place x m f)
        first None found = either_shared (is_full x) _ _ (record { fits = h }) (record { fits = h })
        first (Some f) found = let k = lock_gives o b.processes h f.0 f.1 m (found f refl) in record { fits = k.fits }

    lock_arrives_at : (at : At) (place : ℕ) (m : ArrayVec ℤ) (x : Option Port) → Shares (ports.arrives_at at b place m x)
    lock_arrives_at at place m None = record { fits = h }
    lock_arrives_at at place m (Some x) = either_shared (is_sampling x) (ports.arrives_sampling at b place x m) _ (record { fits = h }) (lock_queuing place x m)

    pub lock_arrives : (at : At) (place : ℕ) (m : ArrayVec ℤ) → Shares (ports.arrives at b place m)
    lock_arrives at place m = lock_arrives_at at place m (port_at b.shared place)

    lock_enters : (place : ℕ) (e : Entry) (x : Option Port) → Shares (ports.enters_port b place e x)
    lock_enters place e None = record { fits = h }
    lock_enters place e (Some x) = either_shared (is_full x) (nothing b) _ (record { fits = h }) (entered (numbered e.process (row_of b.processes (runner.Process e.process))) (numbered_found b.processes e.process))
      where
        entered : (f : Option (Runner × ProcessStatus)) → IsFound b.processes f → Shares (ports.enters_found b place x f)
        entered None found = record { fits = h }
        entered (Some f) found = let k = lock_released o b.processes h f.0 f.1 code.NoError (zeros_of_wait f.1.wait) (found f refl) in record { fits = k.fits }

all_enter : (es : List Entry) (place : ℕ) (o : Option Held) (b : Sharing Ports) → FitsIn o b.processes → Shares o (ports.all_enter es place b)
all_enter [] place o b h = record { fits = h }
all_enter (e ∷ es) place o b h =
    let u = ports.enters_port b place e (port_at b.shared place) in
    let k = lock_enters o b h place e (port_at b.shared place) in
    let rest = all_enter es place (all_lock o u.lines) u.part k.fits in
    let both = lock_in_turn o (of_shared u) (of_shared (ports.all_enter es place u.part)) k rest in
    record { fits = both.fits }

pub lock_admits : (o : Option Held) (b : Sharing Ports) (place : ℕ) → FitsIn o b.processes → Shares o (ports.admits b place)
lock_admits o b place h = all_enter (waiting b.processes (ports.list place)) place o b h
