-- The services on objects and on ports, and messages, do not touch a process that is not created.
use Rattle.std.proofs.Common.{◌≢◌, ℕ, ℤ, Bool, true, false, List, [], ◌∷◌, Option, Some, None, refl}
use Rattle.std.specs.Prelude.{if◌then◌else◌}
use Rattle.arrayvec.specs.ArrayVec.{ArrayVec}
use Rattle.apex_types.specs.declared.codes.Mode.{Mode}
use Rattle.apex_types.specs.declared.codes.ReturnCode.{ReturnCode}
use Rattle.apex_types.specs.declared.codes.ReturnCode.TheVariants as code
use Rattle.apex_types.specs.declared.identity.At.{At}
use Rattle.apex_types.specs.declared.identity.Runner.{Runner}
use Rattle.apex_types.specs.declared.identity.Runner.TheVariants as runner
use Rattle.apex_types.specs.declared.process.Entry.{Entry}
use Rattle.apex_types.specs.declared.process.ProcessStatus.{ProcessStatus}
use Rattle.apex_types.specs.declared.process.Waiting.{Waiting as Place}
use Rattle.apex_types.specs.declared.service.ArrayPlace.{ArrayPlace}
use Rattle.apex_types.specs.declared.service.ObjectCall.{ObjectCall}
use Rattle.apex_types.specs.declared.service.ObjectCall.TheVariants as object
use Rattle.apex_types.specs.declared.service.PortCall.{PortCall}
use Rattle.apex_types.specs.declared.service.PortCall.TheVariants as port
use Rattle.apex_types.specs.declared.service.Service.{Service}
use Rattle.kernel_meaning.specs.BlackboardServices as blackboards
use Rattle.kernel_meaning.specs.BufferServices as buffers
use Rattle.kernel_meaning.specs.EventServices as events
use Rattle.kernel_meaning.specs.PortServices as ports
use Rattle.kernel_meaning.specs.SemaphoreServices as semaphores
use Rattle.kernel_meaning.specs.ObjectServices.{serves_objects}
use Rattle.kernel_meaning.specs.Objects.{Objects, Port, Ports, ApexEvent, Blackboard, Buffer, Semaphore, port_at, is_full, is_sampling}
use Rattle.kernel_meaning.specs.Processes.{row_of, numbered, zeros_of_wait}
use Rattle.kernel_meaning.specs.Sharing as sharing
use Rattle.kernel_meaning.specs.Sharing.{Sharing, of_processes, blocks, first_waiting, waiting}
use Rattle.kernel_meaning.specs.Step.{Step, nothing, after, lifted, message}
use Rattle.lint_laws.proofs.Sleeping.{IsOther, IsAbsent, FindsOther, Sleeps, Keeps, both_other, released_with_keeps, gives_keeps, entry_finds, first_finds, releases_keep, gives_all_keep, blocks_keep, absent_at}

module _ (q : ℕ) (name : List ℕ) where
  abbrev pub Shares : {O : Type 0} → Step (Sharing O) → Type 0
  Shares t = Keeps q name (lifted (λ (x : Sharing _). x.processes) t)

  either_shared : {O : Type 0} (b : Bool) (t u : Step (Sharing O)) → Shares t → Shares u → Shares (if b then t else u)
  either_shared true t u h k = h
  either_shared false t u h k = k

  module _ {O : Type 0} (b : Sharing O) (h : Sleeps q name b.processes) where
    told : (p : Runner) (v : Service) (c : ReturnCode) (outputs : List ℤ) → Shares (sharing.answers b p v c outputs)
    told p v c outputs = record { part = h; lines = (tt, tt) }

    told_then : (p : Runner) (v : Service) (c : ReturnCode) (outputs : List ℤ) (t : Step (Sharing O)) → Shares t → Shares (after (sharing.answers b p v c outputs) t)
    told_then p v c outputs t k = record { part = k.part; lines = (tt, k.lines) }

    changed : (o : O) → Shares (sharing.becomes b o)
    changed o = record { part = h; lines = tt }

    filled : (o : Option ArrayPlace) (m : ArrayVec ℤ) → Shares (sharing.fills b o m)
    filled o m = record { part = h; lines = tt }

    filled_then : (o : Option ArrayPlace) (m : ArrayVec ℤ) (t : Step (Sharing O)) → Shares t → Shares (after (sharing.fills b o m) t)
    filled_then o m t k = record { part = k.part; lines = k.lines }

    on_shared : {X : Type 0} (o : Option (ℕ × X)) (step : ℕ → X → Step (Sharing O)) → ((place : ℕ) (x : X) → Shares (step place x)) → Shares (sharing.on o b step)
    on_shared None step k = record { part = h; lines = tt }
    on_shared (Some f) step k = k f.0 f.1

  -- ---- objects

  module _ (b : Sharing Objects) (h : Sleeps q name b.processes) (p : Runner) (other : IsOther q name p) where
    waits : (at : At) (limit : ℤ) (w : Place) (m : ArrayVec ℤ) → Shares (of_processes b (blocks at b.processes p limit w m))
    waits at limit w m = let k = blocks_keep q name at b.processes h p limit w m other in record { part = k.part; lines = k.lines }

    signals : (place : ℕ) (x : Semaphore) → Shares (semaphores.signals b place x (first_waiting b.processes (semaphores.list place)))
    signals place x = first (first_waiting b.processes (semaphores.list place)) (first_finds q name b.processes h (semaphores.list place))
      where
        first : (o : Option (Runner × ProcessStatus)) → FindsOther q name b.processes o → Shares (semaphores.signals b place x o)
        first None found = record { part = h; lines = tt }
        first (Some f) found = let g = found f refl in let k = released_with_keeps q name b.processes h f.0 f.1 f.1 code.NoError (zeros_of_wait f.1.wait) g.0 g.1 refl in record { part = k.part; lines = k.lines }

    takes_message : (place : ℕ) (x : Buffer) (m : ArrayVec ℤ) → Shares (buffers.takes_message b place x m (first_waiting b.processes (buffers.list place)))
    takes_message place x m = first (first_waiting b.processes (buffers.list place)) (first_finds q name b.processes h (buffers.list place))
      where
        first : (o : Option (Runner × ProcessStatus)) → FindsOther q name b.processes o → Shares (buffers.takes_message b place x m o)
        first None found = record { part = h; lines = tt }
        first (Some f) found = let g = found f refl in let k = gives_keeps q name b.processes h f.0 f.1 m g.0 g.1 in record { part = k.part; lines = k.lines }

    admits : (place : ℕ) (x : Buffer) → Shares (buffers.admits b place x (first_waiting b.processes (buffers.list place)))
    admits place x = first (first_waiting b.processes (buffers.list place)) (first_finds q name b.processes h (buffers.list place))
      where
        first : (o : Option (Runner × ProcessStatus)) → FindsOther q name b.processes o → Shares (buffers.admits b place x o)
        first None found = record { part = h; lines = tt }
        first (Some f) found = let g = found f refl in let k = released_with_keeps q name b.processes h f.0 f.1 f.1 code.NoError (zeros_of_wait f.1.wait) g.0 g.1 refl in record { part = k.part; lines = k.lines }

    receives : (at : At) (array : ArrayPlace) (limit : ℤ) (place : ℕ) (x : Buffer) (ms : List (ArrayVec ℤ)) → Shares (buffers.receives at b p array limit place x ms)
    receives at array limit place x [] = waits at limit (buffers.receiver place x array) (message [])
    receives at array limit place x (m ∷ rest) = let k = admits place (record x { messages = rest }) in record { part = k.part; lines = (tt, k.lines) }

    receives_own : (at : At) (array : ArrayPlace) (limit : ℤ) (place : ℕ) (x : Buffer) → Shares (buffers.receives at b p array limit place x x.messages)
    receives_own at array limit place x = receives at array limit place x x.messages

    reads : (at : At) (array : ArrayPlace) (limit : ℤ) (place : ℕ) (o : Option (ArrayVec ℤ)) → Shares (blackboards.reads at b p array limit place o)
    reads at array limit place None = waits at limit (blackboards.reader place array) (message [])
    reads at array limit place (Some m) = record { part = h; lines = (tt, tt) }

    reads_shown : (at : At) (array : ArrayPlace) (limit : ℤ) (place : ℕ) (x : Blackboard) → Shares (blackboards.reads at b p array limit place x.shown)
    reads_shown at array limit place x = reads at array limit place x.shown

    takes : (at : At) (limit : ℤ) (place : ℕ) (x : Semaphore) → Shares (semaphores.takes at b p limit place x)
    takes at limit place x = search (either_shared, waits, told_then b h, changed b h)

    awaits : (at : At) (limit : ℤ) (place : ℕ) (x : ApexEvent) → Shares (events.awaits at b p limit place x)
    awaits at limit place x = either_shared x.up _ _ (told b h p _ _ _) (waits at limit (events.waiting_for place) (message []))

    sends : (at : At) (limit : ℤ) (m : ArrayVec ℤ) (place : ℕ) (x : Buffer) → Shares (buffers.sends at b p limit m place x)
    sends at limit m place x = search (either_shared, waits, told_then b h, takes_message)

    raises : (place : ℕ) (x : ApexEvent) → Shares (events.raises b place x)
    raises place x = let k = releases_keep q name (waiting b.processes (events.list place)) b.processes (absent_at q name b.processes.queues (events.list place) h.queues) h in record { part = k.part; lines = k.lines }

    displays : (m : ArrayVec ℤ) (place : ℕ) (x : Blackboard) → Shares (blackboards.displays b m place x)
    displays m place x = let k = gives_all_keep q name (waiting b.processes (blackboards.list place)) m b.processes (absent_at q name b.processes.queues (blackboards.list place) h.queues) h in record { part = k.part; lines = k.lines }

    pub objects_keep : (m : Mode) (at : At) (c : ObjectCall) (words : List ℤ) → Shares (serves_objects m at b p c words)
    objects_keep m at (object.SendBuffer id array size limit) words = search (either_shared, told b h, on_shared b h, sends) depth 9
    objects_keep m at (object.ReceiveBuffer id array limit) words = search (either_shared, told b h, on_shared b h, receives_own) depth 9
    objects_keep m at (object.DisplayBlackboard id array size) words = search (either_shared, told b h, told_then b h, on_shared b h, displays) depth 9
    objects_keep m at (object.ReadBlackboard id array limit) words = search (either_shared, told b h, on_shared b h, reads_shown) depth 9
    objects_keep m at (object.WaitSemaphore id limit) words = search (either_shared, told b h, on_shared b h, takes) depth 9
    objects_keep m at (object.SignalSemaphore id) words = search (either_shared, told b h, told_then b h, on_shared b h, signals) depth 9
    objects_keep m at (object.SetEvent id) words = search (either_shared, told b h, told_then b h, on_shared b h, raises) depth 9
    objects_keep m at (object.WaitEvent id limit) words = search (either_shared, told b h, on_shared b h, awaits) depth 9
    objects_keep m at c words = search (either_shared, told b h, told_then b h, on_shared b h, changed b h) depth 9

  -- ---- ports

  module _ (b : Sharing Ports) (h : Sleeps q name b.processes) (p : Runner) (other : IsOther q name p) where
    waits_at_port : (at : At) (limit : ℤ) (w : Place) (m : ArrayVec ℤ) → Shares (of_processes b (blocks at b.processes p limit w m))
    waits_at_port at limit w m = let k = blocks_keep q name at b.processes h p limit w m other in record { part = k.part; lines = k.lines }

    reads_sample : (at : At) (array : ArrayPlace) (place : ℕ) (x : Port) (ms : List (ArrayVec ℤ)) → Shares (ports.reads_sample at b p array place x ms)
    reads_sample at array place x [] = told b h p _ _ _
    reads_sample at array place x (m ∷ rest) = record { part = h; lines = (tt, tt) }

    reads_own_sample : (at : At) (array : ArrayPlace) (place : ℕ) (x : Port) → Shares (ports.reads_sample at b p array place x x.messages)
    reads_own_sample at array place x = reads_sample at array place x x.messages

    sends_to_port : (at : At) (limit : ℤ) (m : ArrayVec ℤ) (place : ℕ) (x : Port) → Shares (ports.sends at b p limit m place x)
    sends_to_port at limit m place x = search (either_shared, waits_at_port, told_then b h, changed b h)

    receives_at_port : (at : At) (array : ArrayPlace) (limit : ℤ) (place : ℕ) (x : Port) (ms : List (ArrayVec ℤ)) → Shares (ports.receives at b p array limit place x ms)
    receives_at_port at array limit place x [] = waits_at_port at limit (ports.receiver place x array) (message [])
    receives_at_port at array limit place x (m ∷ rest) = record { part = h; lines = (tt, tt) }

    receives_own_at_port : (at : At) (array : ArrayPlace) (limit : ℤ) (place : ℕ) (x : Port) → Shares (ports.receives at b p array limit place x x.messages)
    receives_own_at_port at array limit place x = receives_at_port at array limit place x x.messages

    pub ports_keep : (m : Mode) (at : At) (c : PortCall) (words : List ℤ) → Shares (ports.serves_ports m at b p c words)
    ports_keep m at (port.ReadSamplingMessage id array) words = search (either_shared, told b h, on_shared b h, reads_own_sample) depth 9
    ports_keep m at (port.SendQueuingMessage id array size limit) words = search (either_shared, told b h, on_shared b h, sends_to_port) depth 9
    ports_keep m at (port.ReceiveQueuingMessage id array limit) words = search (either_shared, told b h, on_shared b h, receives_own_at_port) depth 9
    ports_keep m at c words = search (either_shared, told b h, told_then b h, on_shared b h, changed b h) depth 9

  -- ---- messages that arrive, and senders that enter

  module _ (b : Sharing Ports) (h : Sleeps q name b.processes) where
    queuing_keeps : (place : ℕ) (x : Port) (m : ArrayVec ℤ) → Shares (ports.arrives_queuing b place x m (first_waiting b.processes (ports.list place)))
    queuing_keeps place x m = first (first_waiting b.processes (ports.list place)) (first_finds q name b.processes h (ports.list place))
      where
        first : (o : Option (Runner × ProcessStatus)) → FindsOther q name b.processes o → Shares (ports.arrives_queuing b place x m o)
        first None found = either_shared (is_full x) _ _ (record { part = h; lines = (tt, tt) }) (record { part = h; lines = (tt, tt) })
        first (Some f) found = let g = found f refl in let k = gives_keeps q name b.processes h f.0 f.1 m g.0 g.1 in record { part = k.part; lines = (tt, k.lines) }

    arrives_at_keeps : (at : At) (place : ℕ) (m : ArrayVec ℤ) (o : Option Port) → Shares (ports.arrives_at at b place m o)
    arrives_at_keeps at place m None = record { part = h; lines = tt }
    arrives_at_keeps at place m (Some x) = either_shared (is_sampling x) (ports.arrives_sampling at b place x m) _ (record { part = h; lines = (tt, tt) }) (queuing_keeps place x m)

    pub arrives_keeps : (at : At) (place : ℕ) (m : ArrayVec ℤ) → Shares (ports.arrives at b place m)
    arrives_keeps at place m = arrives_at_keeps at place m (port_at b.shared place)

    enters_keeps : (place : ℕ) (e : Entry) (o : Option Port) → e.process.0 ≢ q → Shares (ports.enters_port b place e o)
    enters_keeps place e None apart = record { part = h; lines = tt }
    enters_keeps place e (Some x) apart = either_shared (is_full x) (nothing b) _ (record { part = h; lines = tt }) (entered (numbered e.process (row_of b.processes (runner.Process e.process))) (entry_finds q name b.processes e.process apart))
      where
        entered : (o : Option (Runner × ProcessStatus)) → FindsOther q name b.processes o → Shares (ports.enters_found b place x o)
        entered None found = record { part = h; lines = tt }
        entered (Some f) found = let g = found f refl in let k = released_with_keeps q name b.processes h f.0 f.1 f.1 code.NoError (zeros_of_wait f.1.wait) g.0 g.1 refl in record { part = k.part; lines = k.lines }

  all_enter_keep : (es : List Entry) (place : ℕ) (b : Sharing Ports) → IsAbsent q name es → Sleeps q name b.processes → Shares (ports.all_enter es place b)
  all_enter_keep [] place b g h = record { part = h; lines = tt }
  all_enter_keep (e ∷ es) place b g h =
      let s = ports.enters_port b place e (port_at b.shared place) in
      let k = enters_keeps b h place e (port_at b.shared place) g.0 in
      let rest = all_enter_keep es place s.part g.1 k.part in
      record { part = rest.part; lines = both_other q name s.lines (ports.all_enter es place s.part).lines k.lines rest.lines }

  pub admits_keep : (b : Sharing Ports) (place : ℕ) → Sleeps q name b.processes → Shares (ports.admits b place)
  admits_keep b place h = all_enter_keep (waiting b.processes (ports.list place)) place b (absent_at q name b.processes.queues (ports.list place) h.queues) h
