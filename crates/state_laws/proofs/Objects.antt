-- The lines of the services on objects and on ports, and of messages, agree with them.
use Rattle.std.proofs.Common.{◌≡◌, ℕ, ℤ, Bool, true, false, List, [], ◌∷◌, Option, Some, None, refl}
use Rattle.std.specs.Prelude.{if◌then◌else◌}
use Rattle.arrayvec.specs.ArrayVec.{ArrayVec}
use Rattle.apex_types.specs.declared.codes.Mode.{Mode}
use Rattle.apex_types.specs.declared.codes.ReturnCode.{ReturnCode}
use Rattle.apex_types.specs.declared.codes.ReturnCode.TheVariants as code
use Rattle.apex_types.specs.declared.identity.At.{At}
use Rattle.apex_types.specs.declared.identity.Runner.{Runner}
use Rattle.apex_types.specs.declared.identity.Runner.TheVariants as runner
use Rattle.apex_types.specs.declared.process.Entry.{Entry}
use Rattle.apex_types.specs.declared.process.ProcessStatus.{ProcessStatus}
use Rattle.apex_types.specs.declared.process.Waiting.{Waiting as Place}
use Rattle.apex_types.specs.declared.service.ArrayPlace.{ArrayPlace}
use Rattle.apex_types.specs.declared.service.ObjectCall.{ObjectCall}
use Rattle.apex_types.specs.declared.service.ObjectCall.TheVariants as object
use Rattle.apex_types.specs.declared.service.PortCall.{PortCall}
use Rattle.apex_types.specs.declared.service.PortCall.TheVariants as port
use Rattle.apex_types.specs.declared.service.Service.{Service}
use Rattle.kernel_laws.specs.WhoWaits.{AreWaiting}
use Rattle.kernel_meaning.specs.BlackboardServices as blackboards
use Rattle.kernel_meaning.specs.BufferServices as buffers
use Rattle.kernel_meaning.specs.EventServices as events
use Rattle.kernel_meaning.specs.PortServices as ports
use Rattle.kernel_meaning.specs.SemaphoreServices as semaphores
use Rattle.kernel_meaning.specs.ObjectServices.{serves_objects}
use Rattle.kernel_meaning.specs.Objects.{Objects, Port, Ports, ApexEvent, Blackboard, Buffer, Semaphore, port_at, is_full, is_sampling}
use Rattle.kernel_meaning.specs.Processes.{Processes, row_of, numbered, zeros_of_wait}
use Rattle.kernel_meaning.specs.Sharing as sharing
use Rattle.kernel_meaning.specs.Sharing.{Sharing, of_processes, blocks, first_waiting, waiting, gives, gives_all, releases_all}
use Rattle.kernel_meaning.specs.Step.{Step, nothing, after, lifted, message}
use Rattle.state_laws.specs.Told.{Told, worker_by_lines}
use Rattle.state_laws.proofs.Agreement.{reads, Agrees, Goes, runs_and_worked, works, in_turn}
use Rattle.state_laws.proofs.Changes.{StaysOut, released_with_goes}
use Rattle.state_laws.proofs.Waiting.{FindsOut, AreOut, out_later, entry_out, first_out, waiting_out, released_stays, gives_goes, blocks_goes, releases_go, all_given_go}

-- the step of the processes in it
abbrev pub of_shared : {O : Type 0} → Step (Sharing O) → Step Processes
of_shared u = lifted (λ (x : Sharing _). x.processes) u

module _ (tick : ℕ) (t : Told) where
  -- the same spends the tick
  abbrev pub Shares : {O : Type 0} → Step (Sharing O) → Type 0
  Shares u = Goes (worker_by_lines tick) tick t (of_shared u)

  either_shared : {O : Type 0} (b : Bool) (u v : Step (Sharing O)) → Shares u → Shares v → Shares (if b then u else v)
  either_shared true u v h k = h
  either_shared false u v h k = k

  module _ {O : Type 0} (b : Sharing O) (h : Agrees t b.processes) where
    told : (p : Runner) (v : Service) (c : ReturnCode) (outputs : List ℤ) → Shares (sharing.answers b p v c outputs)
    told p v c outputs = record { agrees = h; mode = refl; same = refl }

    told_then : (p : Runner) (v : Service) (c : ReturnCode) (outputs : List ℤ) (u : Step (Sharing O)) → Shares u → Shares (after (sharing.answers b p v c outputs) u)
    told_then p v c outputs u k = record { agrees = k.agrees; mode = k.mode; same = k.same }

    changed : (o : O) → Shares (sharing.becomes b o)
    changed o = record { agrees = h; mode = refl; same = refl }

    on_shared : {X : Type 0} (o : Option (ℕ × X)) (step : ℕ → X → Step (Sharing O)) → ((place : ℕ) (x : X) → Shares (step place x)) → Shares (sharing.on o b step)
    on_shared None step k = record { agrees = h; mode = refl; same = refl }
    on_shared (Some f) step k = k f.0 f.1

  -- ---- objects

  module _ (b : Sharing Objects) (h : Agrees t b.processes) (w : AreWaiting b.processes.rows b.processes.queues) (p : Runner) where
    waits : (at : At) (limit : ℤ) (v : Place) (m : ArrayVec ℤ) → Shares (of_processes b (blocks at b.processes p limit v m))
    waits at limit v m = let k = blocks_goes tick t b.processes h at p limit v m in record { agrees = k.agrees; mode = k.mode; same = k.same }

    signals : (place : ℕ) (x : Semaphore) → Shares (semaphores.signals b place x (first_waiting b.processes (semaphores.list place)))
    signals place x = first (first_waiting b.processes (semaphores.list place)) (first_out b.processes _ (waiting_out t b.processes h w (semaphores.list place)))
      where
        first : (o : Option (Runner × ProcessStatus)) → FindsOut b.processes o → Shares (semaphores.signals b place x o)
        first None found = record { agrees = h; mode = refl; same = refl }
        first (Some f) found =
            let g = found f refl in
            let k = works tick t _ (released_with_goes tick t b.processes h f.0 f.1 f.1 code.NoError (zeros_of_wait f.1.wait) g.1 refl refl g.0) in
            record { agrees = k.agrees; mode = k.mode; same = k.same }

    takes_message : (place : ℕ) (x : Buffer) (m : ArrayVec ℤ) → Shares (buffers.takes_message b place x m (first_waiting b.processes (buffers.list place)))
    takes_message place x m = first (first_waiting b.processes (buffers.list place)) (first_out b.processes _ (waiting_out t b.processes h w (buffers.list place)))
      where
        first : (o : Option (Runner × ProcessStatus)) → FindsOut b.processes o → Shares (buffers.takes_message b place x m o)
        first None found = record { agrees = h; mode = refl; same = refl }
        first (Some f) found =
            let g = found f refl in
            let k = works tick t _ (gives_goes tick t b.processes h f.0 f.1 m g.1 g.0) in
            record { agrees = k.agrees; mode = k.mode; same = k.same }

    admits : (place : ℕ) (x : Buffer) → Shares (buffers.admits b place x (first_waiting b.processes (buffers.list place)))
    admits place x = first (first_waiting b.processes (buffers.list place)) (first_out b.processes _ (waiting_out t b.processes h w (buffers.list place)))
      where
        first : (o : Option (Runner × ProcessStatus)) → FindsOut b.processes o → Shares (buffers.admits b place x o)
        first None found = record { agrees = h; mode = refl; same = refl }
        first (Some f) found =
            let g = found f refl in
            let k = works tick t _ (released_with_goes tick t b.processes h f.0 f.1 f.1 code.NoError (zeros_of_wait f.1.wait) g.1 refl refl g.0) in
            record { agrees = k.agrees; mode = k.mode; same = k.same }

    receives : (at : At) (array : ArrayPlace) (limit : ℤ) (place : ℕ) (x : Buffer) (ms : List (ArrayVec ℤ)) → Shares (buffers.receives at b p array limit place x ms)
    receives at array limit place x [] = waits at limit (buffers.receiver place x array) (message [])
    receives at array limit place x (m ∷ rest) = let k = admits place (record x { messages = rest }) in record { agrees = k.agrees; mode = k.mode; same = k.same }

    receives_own : (at : At) (array : ArrayPlace) (limit : ℤ) (place : ℕ) (x : Buffer) → Shares (buffers.receives at b p array limit place x x.messages)
    receives_own at array limit place x = receives at array limit place x x.messages

    reads_board : (at : At) (array : ArrayPlace) (limit : ℤ) (place : ℕ) (o : Option (ArrayVec ℤ)) → Shares (blackboards.reads at b p array limit place o)
    reads_board at array limit place None = waits at limit (blackboards.reader place array) (message [])
    reads_board at array limit place (Some m) = record { agrees = h; mode = refl; same = refl }

    reads_shown : (at : At) (array : ArrayPlace) (limit : ℤ) (place : ℕ) (x : Blackboard) → Shares (blackboards.reads at b p array limit place x.shown)
    reads_shown at array limit place x = reads_board at array limit place x.shown

    takes : (at : At) (limit : ℤ) (place : ℕ) (x : Semaphore) → Shares (semaphores.takes at b p limit place x)
    takes at limit place x = search (either_shared, waits, told_then b h, changed b h)

    awaits : (at : At) (limit : ℤ) (place : ℕ) (x : ApexEvent) → Shares (events.awaits at b p limit place x)
    awaits at limit place x = either_shared x.up _ _ (told b h p _ _ _) (waits at limit (events.waiting_for place) (message []))

    sends : (at : At) (limit : ℤ) (m : ArrayVec ℤ) (place : ℕ) (x : Buffer) → Shares (buffers.sends at b p limit m place x)
    sends at limit m place x = search (either_shared, waits, told_then b h, takes_message)

    raises : (place : ℕ) (x : ApexEvent) → Shares (events.raises b place x)
    raises place x =
        let es = waiting b.processes (events.list place) in
        let k = works tick t (releases_all es b.processes) (releases_go tick es t b.processes h (waiting_out t b.processes h w (events.list place))) in
        record { agrees = k.agrees; mode = k.mode; same = k.same }

    displays : (m : ArrayVec ℤ) (place : ℕ) (x : Blackboard) → Shares (blackboards.displays b m place x)
    displays m place x =
        let es = waiting b.processes (blackboards.list place) in
        let k = works tick t (gives_all es m b.processes) (all_given_go tick es m t b.processes h (waiting_out t b.processes h w (blackboards.list place))) in
        record { agrees = k.agrees; mode = k.mode; same = k.same }

    pub objects_go : (m : Mode) (at : At) (c : ObjectCall) (words : List ℤ) → Shares (serves_objects m at b p c words)
    objects_go m at (object.SendBuffer id array size limit) words = search (either_shared, told b h, on_shared b h, sends) depth 9
    objects_go m at (object.ReceiveBuffer id array limit) words = search (either_shared, told b h, on_shared b h, receives_own) depth 9
    objects_go m at (object.DisplayBlackboard id array size) words = search (either_shared, told b h, told_then b h, on_shared b h, displays) depth 9
    objects_go m at (object.ReadBlackboard id array limit) words = search (either_shared, told b h, on_shared b h, reads_shown) depth 9
    objects_go m at (object.WaitSemaphore id limit) words = search (either_shared, told b h, on_shared b h, takes) depth 9
    objects_go m at (object.SignalSemaphore id) words = search (either_shared, told b h, told_then b h, on_shared b h, signals) depth 9
    objects_go m at (object.SetEvent id) words = search (either_shared, told b h, told_then b h, on_shared b h, raises) depth 9
    objects_go m at (object.WaitEvent id limit) words = search (either_shared, told b h, on_shared b h, awaits) depth 9
    objects_go m at c words = search (either_shared, told b h, told_then b h, on_shared b h, changed b h) depth 9

  -- ---- ports

  module _ (b : Sharing Ports) (h : Agrees t b.processes) (p : Runner) where
    waits_at_port : (at : At) (limit : ℤ) (v : Place) (m : ArrayVec ℤ) → Shares (of_processes b (blocks at b.processes p limit v m))
    waits_at_port at limit v m = let k = blocks_goes tick t b.processes h at p limit v m in record { agrees = k.agrees; mode = k.mode; same = k.same }

    reads_sample : (at : At) (array : ArrayPlace) (place : ℕ) (x : Port) (ms : List (ArrayVec ℤ)) → Shares (ports.reads_sample at b p array place x ms)
    reads_sample at array place x [] = told b h p _ _ _
    reads_sample at array place x (m ∷ rest) = record { agrees = h; mode = refl; same = refl }

    reads_own_sample : (at : At) (array : ArrayPlace) (place : ℕ) (x : Port) → Shares (ports.reads_sample at b p array place x x.messages)
    reads_own_sample at array place x = reads_sample at array place x x.messages

    sends_to_port : (at : At) (limit : ℤ) (m : ArrayVec ℤ) (place : ℕ) (x : Port) → Shares (ports.sends at b p limit m place x)
    sends_to_port at limit m place x = search (either_shared, waits_at_port, told_then b h, changed b h)

    receives_at_port : (at : At) (array : ArrayPlace) (limit : ℤ) (place : ℕ) (x : Port) (ms : List (ArrayVec ℤ)) → Shares (ports.receives at b p array limit place x ms)
    receives_at_port at array limit place x [] = waits_at_port at limit (ports.receiver place x array) (message [])
    receives_at_port at array limit place x (m ∷ rest) = record { agrees = h; mode = refl; same = refl }

    receives_own_at_port : (at : At) (array : ArrayPlace) (limit : ℤ) (place : ℕ) (x : Port) → Shares (ports.receives at b p array limit place x x.messages)
    receives_own_at_port at array limit place x = receives_at_port at array limit place x x.messages

    pub ports_go : (m : Mode) (at : At) (c : PortCall) (words : List ℤ) → Shares (ports.serves_ports m at b p c words)
    ports_go m at (port.ReadSamplingMessage id array) words = search (either_shared, told b h, on_shared b h, reads_own_sample) depth 9
    ports_go m at (port.SendQueuingMessage id array size limit) words = search (either_shared, told b h, on_shared b h, sends_to_port) depth 9
    ports_go m at (port.ReceiveQueuingMessage id array limit) words = search (either_shared, told b h, on_shared b h, receives_own_at_port) depth 9
    ports_go m at c words = search (either_shared, told b h, told_then b h, on_shared b h, changed b h) depth 9

-- ---- messages that arrive, and senders that enter

module _ (tick : ℕ) (t : Told) where
  -- the same runs, and the same worked last
  abbrev pub Brings : {O : Type 0} → Step (Sharing O) → Type 0
  Brings u = Goes runs_and_worked tick t (of_shared u)

  either_brings : {O : Type 0} (b : Bool) (u v : Step (Sharing O)) → Brings u → Brings v → Brings (if b then u else v)
  either_brings true u v h k = h
  either_brings false u v h k = k

  module _ (b : Sharing Ports) (h : Agrees t b.processes) where
    module _ (w : AreWaiting b.processes.rows b.processes.queues) where
      queuing_goes : (place : ℕ) (x : Port) (m : ArrayVec ℤ) → Brings (ports.arrives_queuing b place x m (first_waiting b.processes (ports.list place)))
      queuing_goes place x m = first (first_waiting b.processes (ports.list place)) (first_out b.processes _ (waiting_out t b.processes h w (ports.list place)))
        where
          first : (o : Option (Runner × ProcessStatus)) → FindsOut b.processes o → Brings (ports.arrives_queuing b place x m o)
          first None found = either_brings (is_full x) _ _ (record { agrees = h; mode = refl; same = refl }) (record { agrees = h; mode = refl; same = refl })
          first (Some f) found = let g = found f refl in let k = gives_goes tick t b.processes h f.0 f.1 m g.1 g.0 in record { agrees = k.agrees; mode = k.mode; same = k.same }

      arrives_at_goes : (at : At) (place : ℕ) (m : ArrayVec ℤ) (o : Option Port) → Brings (ports.arrives_at at b place m o)
      arrives_at_goes at place m None = record { agrees = h; mode = refl; same = refl }
      arrives_at_goes at place m (Some x) = either_brings (is_sampling x) (ports.arrives_sampling at b place x m) _ (record { agrees = h; mode = refl; same = refl }) (queuing_goes place x m)

      pub arrives_goes : (at : At) (place : ℕ) (m : ArrayVec ℤ) → Brings (ports.arrives at b place m)
      arrives_goes at place m = arrives_at_goes at place m (port_at b.shared place)

    enters_goes : (place : ℕ) (e : Entry) (o : Option Port) → AreOut b.processes (e ∷ []) → Brings (ports.enters_port b place e o)
    enters_goes place e None out = record { agrees = h; mode = refl; same = refl }
    enters_goes place e (Some x) out =
        either_brings (is_full x) (nothing b) _ (record { agrees = h; mode = refl; same = refl }) (entered (numbered e.process (row_of b.processes (runner.Process e.process))) (entry_out b.processes e.process out.0))
      where
        entered : (o : Option (Runner × ProcessStatus)) → FindsOut b.processes o → Brings (ports.enters_found b place x o)
        entered None found = record { agrees = h; mode = refl; same = refl }
        entered (Some f) found =
            let g = found f refl in
            let k = released_with_goes tick t b.processes h f.0 f.1 f.1 code.NoError (zeros_of_wait f.1.wait) g.1 refl refl g.0 in
            record { agrees = k.agrees; mode = k.mode; same = k.same }

-- who did not run still does not
enters_stays : (b : Sharing Ports) (place : ℕ) (e : Entry) (o : Option Port) → StaysOut b.processes (ports.enters_port b place e o).part.processes
enters_stays b place e None q n = n
enters_stays b place e (Some x) q n = by_test (is_full x)
  where
    entered : (o : Option (Runner × ProcessStatus)) → StaysOut b.processes (ports.enters_found b place x o).part.processes
    entered None r k = k
    entered (Some f) r k = released_stays b.processes f.0 f.1 code.NoError (zeros_of_wait f.1.wait) r k

    by_test : (c : Bool) → (if c then nothing b else ports.enters_found b place x (numbered e.process (row_of b.processes (runner.Process e.process)))).part.processes.running ≡ Some q → ⊥
    by_test true = n
    by_test false = entered (numbered e.process (row_of b.processes (runner.Process e.process))) q n

all_enter_go : (tick : ℕ) (es : List Entry) (place : ℕ) (t : Told) (b : Sharing Ports) → Agrees t b.processes → AreOut b.processes es → Brings tick t (ports.all_enter es place b)
all_enter_go tick [] place t b h out = record { agrees = h; mode = refl; same = refl }
all_enter_go tick (e ∷ es) place t b h out =
    let u = ports.enters_port b place e (port_at b.shared place) in
    let k = enters_goes tick t b h place e (port_at b.shared place) (out.0, tt) in
    let rest = all_enter_go tick es place (reads tick t u.lines) u.part k.agrees (out_later b.processes u.part.processes (enters_stays b place e (port_at b.shared place)) es out.1) in
    let both = in_turn runs_and_worked tick t (of_shared u) (of_shared (ports.all_enter es place u.part)) k rest in
    record { agrees = both.agrees; mode = both.mode; same = both.same }

pub admits_goes : (tick : ℕ) (t : Told) (b : Sharing Ports) (place : ℕ) → Agrees t b.processes → AreWaiting b.processes.rows b.processes.queues → Brings tick t (ports.admits b place)
admits_goes tick t b place h w = all_enter_go tick (waiting b.processes (ports.list place)) place t b h (waiting_out t b.processes h w (ports.list place))
