-- A caller that begins to wait takes a number for it, and no other does.
use Rattle.kernel_laws.proofs.Prelude.{◌≡◌, ℕ, ◌-◌, ℤ, Bool, true, false, List, ◌∷◌, length, Option, Some, None, refl, sym, subst, none-some, nat_lt, if◌then◌else◌, pos, ArrayVec, place_of, Waiting, Discipline, Mode, ReturnCode, At, ListKey, ProcessIndex, Runner, Due, Place, ProcessStatus, ArrayPlace, Service, serves_objects, Objects, Blackboard, Buffer, Semaphore, ApexEvent, Port, Ports, discipline_of, is_full, BeginsToWait, Follows, Goes, HaveDisciplines, IsInOrder, May, PortsHaveDisciplines, nobody, take_one, Processes, row_of, entry, is_busy, is_zero, joins, waits, Sharing, Step, message, blocks, enters, first_waiting, time_out, waits_at, zeros_of_wait, record_at}
use Rattle.std.proofs.Common.{[], ap, ◌∙◌}
use Rattle.std.specs.Prelude.{slice_set}
use Rattle.apex_types.specs.declared.codes.Discipline.TheVariants as discipline
use Rattle.apex_types.specs.declared.codes.ReturnCode.TheVariants as code
use Rattle.apex_types.specs.declared.identity.Runner.TheVariants as runner
use Rattle.apex_types.specs.declared.process.Wait.TheVariants as wait
use Rattle.apex_types.specs.declared.service.Call.TheVariants as call
use Rattle.apex_types.specs.declared.service.ObjectCall.{ObjectCall}
use Rattle.apex_types.specs.declared.service.ObjectCall.TheVariants as object
use Rattle.apex_types.specs.declared.service.PortCall.{PortCall}
use Rattle.apex_types.specs.declared.service.PortCall.TheVariants as port
use Rattle.apex_types.specs.declared.service.Service.TheVariants as service
use Rattle.kernel_meaning.specs.BlackboardServices as blackboards
use Rattle.kernel_meaning.specs.BufferServices as buffers
use Rattle.kernel_meaning.specs.EventServices as events
use Rattle.kernel_meaning.specs.Objects.{blackboard, buffer, event, queuing, semaphore}
use Rattle.kernel_meaning.specs.PortServices as ports
use Rattle.kernel_meaning.specs.Processes.{refuses as refuses_alone}
use Rattle.kernel_meaning.specs.SemaphoreServices as semaphores
use Rattle.kernel_meaning.specs.Sharing.{answers, of_processes, on, refuses}
use Rattle.kernel_meaning.specs.Step.{nothing}
use Rattle.kernel_laws.specs.Numbers.{Taking, waits_by}
use Rattle.kernel_laws.specs.WhoWaits.{WaitsForObject}
use Rattle.kernel_laws.proofs.ExactTakings.{IsExact, exact_alone, none_ready, not_waiting}
use Rattle.kernel_laws.proofs.LastTakings.{all_may}
use Rattle.kernel_laws.proofs.NumberSteps.{Named, nothing_goes, refuse_goes, row_is_of, waiting_told, waits_goes}
use Rattle.kernel_laws.proofs.OfBlackboards as of_blackboards
use Rattle.kernel_laws.proofs.OfBuffers as of_buffers
use Rattle.kernel_laws.proofs.OfEvents as of_events
use Rattle.kernel_laws.proofs.OfPorts as of_ports
use Rattle.kernel_laws.proofs.OfSemaphores as of_semaphores
use Rattle.kernel_laws.proofs.Places.{get_set_same}
use Rattle.kernel_laws.proofs.Primitives.{in_order_enters}
use Rattle.kernel_laws.proofs.Records.{IsFound, first_waiting_found}
use Rattle.kernel_laws.proofs.Shares.{Shares, IsSet, after_shares, answers_shares, fills_shares, nothing_shares, refuses_shares}
use Rattle.kernel_laws.proofs.WaitSteps.{released_idle}

-- who may go last, and who may begin to wait
abbrev pub only_waits : ProcessIndex → May
only_waits q = record { go_last = None; begin_to_wait = Some q.0 }

-- ---- a caller that has to wait

module _ (d : ListKey → Discipline) (names : List (List ℕ)) where
  -- a step that continues the numbers, in which this process takes a number exactly if it waits for an object then
  record Begun (q : ProcessIndex) (s : Processes) (t : Step Processes) : Type 0 where
    pub goes : Goes d names (only_waits q) s t
    pub exact : IsExact (only_waits q) t.lines t.part goes.takings

  -- the takings beside those that become ready
  abbrev others : ℕ → Bool → List Taking
  others q b = if b then BeginsToWait q ∷ [] else []

  quiet : (q : ProcessIndex) (s : Processes) (t : Step Processes) → Goes d names nobody s t → (WaitsForObject (record_at t.part.rows q) → ⊥) → Begun q s t
  quiet q s t g idle = record {
    goes = record { takings = g.takings; follows = g.follows; named = g.named; told = g.told; allowed = all_may (only_waits q) g.takings g.allowed };
    exact = exact_alone (only_waits q) t.lines t.part g.takings (ap (others q.0) (sym (not_waiting (record_at t.part.rows q) idle))) g.allowed;
  }

  either_begun : (q : ProcessIndex) (s : Processes) (b : Bool) (t u : Step Processes) → Begun q s t → Begun q s u → Begun q s (if b then t else u)
  either_begun q s true t u h k = h
  either_begun q s false t u h k = k

  module _ (s : Processes) (h : Named d names s) (q : ProcessIndex) (idle : WaitsForObject (record_at s.rows q) → ⊥) where
    waits_begun : (w : Place) (m : ArrayVec ℤ) (r : ProcessStatus) (due : Option Due) → w.discipline ≡ d w.list → row_of s (runner.Process q) ≡ Some r
        → Begun q s (waits (enters s (runner.Process q) w m r) (runner.Process q) r (wait.Object w.service w.array) due)
    waits_begun w m r due same there = record {
      goes = record {
        takings = BeginsToWait q.0 ∷ g.takings;
        follows = λ n o. g.follows (take_one (BeginsToWait q.0) n) (joined n o);
        named = g.named;
        told = g.told;
        allowed = (refl, all_may (only_waits q) g.takings g.allowed);
      };
      exact = ([], ap (λ (ts : List Taking). BeginsToWait q.0 ∷ ts) none ∙ ap (others q.0) (sym waits_now));
    }
      where
        x : ProcessStatus
        x = record r { state = Waiting; wait = wait.Object w.service w.array; due = due }

        t : Processes
        t = enters s (runner.Process q) w m r

        g : Goes d names nobody t (waits t (runner.Process q) r (wait.Object w.service w.array) due)
        g = waits_goes d names nobody t (runner.Process q) r (wait.Object w.service w.array) due h (row_is_of d names s (runner.Process q) r h there)

        waits_now : WaitsForObject (record_at (slice_set s.rows (place_of (runner.Process q)) x) q)
        waits_now = subst WaitsForObject (sym (get_set_same s.rows (place_of (runner.Process q)) r x there)) refl

        none : g.takings ≡ []
        none = none_ready names g.takings g.allowed (g.told ∙ sym (waiting_told r.who r.state))

        joined : Follows d (BeginsToWait q.0 ∷ []) s t
        joined n o =
            subst (λ (c : Discipline). IsInOrder d (take_one (BeginsToWait q.0) n) s.ready (joins w.list c (entry q r.current_priority) s.queues)) (sym same)
            (in_order_enters d n w.list (entry q r.current_priority) s.ready s.queues o)

    blocks_begun : (at : At) (limit : ℤ) (w : Place) (m : ArrayVec ℤ) → w.discipline ≡ d w.list → Begun q s (blocks at s (runner.Process q) limit w m)
    blocks_begun at limit w m same =
        either_begun q s (is_zero limit) _ _ (quiet q s (refuses_alone s (runner.Process q) w.service code.NotAvailable) (refuse_goes d names nobody s (runner.Process q) w.service h code.NotAvailable) idle)
        (either_begun q s (is_busy s (runner.Process q)) _ _
        (quiet q s (refuses_alone s (runner.Process q) w.service code.InvalidMode) (refuse_goes d names nobody s (runner.Process q) w.service h code.InvalidMode) idle)
        (found (row_of s (runner.Process q)) refl))
      where
        found : (o : Option ProcessStatus) → row_of s (runner.Process q) ≡ o → Begun q s (waits_at at s (runner.Process q) limit w m o)
        found None e = quiet q s (nothing s) (nothing_goes d names nobody s h) idle
        found (Some r) e = waits_begun w m r (time_out at limit) same e

  -- ---- what is shared

  module _ (O : Type 0) (Fit : O → Type 0) where
    pub record Begins (q : ProcessIndex) (b : Sharing O) (t : Step (Sharing O)) : Type 0 where
      pub shares : Shares d names O Fit (only_waits q) b t
      pub exact : IsExact (only_waits q) t.lines t.part.processes shares.goes.takings

    nobody_begins : (q : ProcessIndex) (b : Sharing O) (t : Step (Sharing O)) → Shares d names O Fit nobody b t → (WaitsForObject (record_at t.part.processes.rows q) → ⊥) → Begins q b t
    nobody_begins q b t g idle = record {
      shares = record {
        goes = record { takings = g.goes.takings; follows = g.goes.follows; named = g.goes.named; told = g.goes.told; allowed = all_may (only_waits q) g.goes.takings g.goes.allowed };
        fit = g.fit;
      };
      exact = exact_alone (only_waits q) t.lines t.part.processes g.goes.takings (ap (others q.0) (sym (not_waiting (record_at t.part.processes.rows q) idle))) g.goes.allowed;
    }

    waits_begins : (b : Sharing O) (h : IsSet d names O Fit b) (q : ProcessIndex) → (WaitsForObject (record_at b.processes.rows q) → ⊥) → (at : At) (limit : ℤ) (w : Place) (m : ArrayVec ℤ) → w.discipline ≡ d w.list
        → Begins q b (of_processes b (blocks at b.processes (runner.Process q) limit w m))
    waits_begins b h q idle at limit w m same =
        let g = blocks_begun b.processes h.named q idle at limit w m same in
        record { shares = record { goes = g.goes; fit = h.fit }; exact = g.exact }

    either_begins : (q : ProcessIndex) (b : Sharing O) (c : Bool) (t u : Step (Sharing O)) → Begins q b t → Begins q b u → Begins q b (if c then t else u)
    either_begins q b true t u h k = h
    either_begins q b false t u h k = k

    on_begins : {X : Type 0} (b : Sharing O) (h : IsSet d names O Fit b) (q : ProcessIndex) → (WaitsForObject (record_at b.processes.rows q) → ⊥) → (o : Option (ℕ × X)) (step : ℕ → X → Step (Sharing O))
        → ((f : ℕ × X) → o ≡ Some f → Begins q b (step f.0 f.1)) → Begins q b (on o b step)
    on_begins b h q idle None step k = nobody_begins q b (nothing b) (nothing_shares d names O Fit nobody b h) idle
    on_begins b h q idle (Some f) step k = k f refl

  -- ---- objects

  module _ (b : Sharing Objects) (h : IsSet d names Objects (HaveDisciplines d) b) (q : ProcessIndex) (idle : WaitsForObject (record_at b.processes.rows q) → ⊥) where
    abbrev IsBegun : Step (Sharing Objects) → Type 0
    IsBegun t = Begins Objects (HaveDisciplines d) q b t

    abbrev Quietly : Step (Sharing Objects) → Type 0
    Quietly t = Shares d names Objects (HaveDisciplines d) nobody b t

    either : (c : Bool) (t u : Step (Sharing Objects)) → IsBegun t → IsBegun u → IsBegun (if c then t else u)
    either c t u j k = either_begins Objects (HaveDisciplines d) q b c t u j k

    on_found : {X : Type 0} (o : Option (ℕ × X)) (step : ℕ → X → Step (Sharing Objects)) → ((f : ℕ × X) → o ≡ Some f → IsBegun (step f.0 f.1)) → IsBegun (on o b step)
    on_found o step k = on_begins Objects (HaveDisciplines d) b h q idle o step k

    refused : (v : Service) (c : ReturnCode) → IsBegun (refuses b (runner.Process q) v c)
    refused v c = nobody_begins Objects (HaveDisciplines d) q b _ (refuses_shares d names Objects (HaveDisciplines d) nobody b (runner.Process q) v h c) idle

    waits_for : (at : At) (limit : ℤ) (w : Place) (m : ArrayVec ℤ) → w.discipline ≡ d w.list → IsBegun (of_processes b (blocks at b.processes (runner.Process q) limit w m))
    waits_for at limit w m same = waits_begins Objects (HaveDisciplines d) b h q idle at limit w m same

    answered : (v : Service) (outputs : List ℤ) → Quietly (answers b (runner.Process q) v code.NoError outputs)
    answered v outputs = answers_shares d names Objects (HaveDisciplines d) nobody b (runner.Process q) v code.NoError outputs h

    takes_found : (at : At) (limit id : ℤ) (f : ℕ × Semaphore) → semaphore b.shared id ≡ Some f → IsBegun (semaphores.takes at b (runner.Process q) limit f.0 f.1)
    takes_found at limit id f e =
        let fits = of_semaphores.found_fits d names b id f h e in
        either (nat_lt 0 f.1.value) _ _
        (nobody_begins Objects (HaveDisciplines d) q b _
        (after_shares d names Objects (HaveDisciplines d) nobody b _ _ (answered service.WaitSemaphore []) (λ k. of_semaphores.puts d names nobody b f.0 (record f.1 { value = f.1.value - 1 }) k fits)) idle)
        (waits_for at limit (semaphores.waiting_for f.0 f.1) (message []) fits)

    awaits_found : (at : At) (limit id : ℤ) (f : ℕ × ApexEvent) → event b.shared id ≡ Some f → IsBegun (events.awaits at b (runner.Process q) limit f.0 f.1)
    awaits_found at limit id f e =
        either f.1.up _ _ (nobody_begins Objects (HaveDisciplines d) q b _ (answered service.WaitEvent []) idle)
        (waits_for at limit (events.waiting_for f.0) (message []) (of_events.found_fits d names b id f h e))

    -- after a message has been given, or a sender has entered, the caller does not wait
    taken_idle : (place : ℕ) (x : Buffer) (m : ArrayVec ℤ) (o : Option (Runner × ProcessStatus)) → IsFound b.processes o → WaitsForObject (record_at (buffers.takes_message b place x m o).part.processes.rows q) → ⊥
    taken_idle place x m None found = idle
    taken_idle place x m (Some f) found = released_idle b.processes q idle f.0 f.1 code.NoError (pos (length m.items) ∷ []) (found f refl)

    admitted_idle : (place : ℕ) (x : Buffer) (o : Option (Runner × ProcessStatus)) → IsFound b.processes o → WaitsForObject (record_at (buffers.admits b place x o).part.processes.rows q) → ⊥
    admitted_idle place x None found = idle
    admitted_idle place x (Some f) found = released_idle b.processes q idle f.0 f.1 code.NoError (zeros_of_wait f.1.wait) (found f refl)

    sends_found : (at : At) (limit : ℤ) (m : ArrayVec ℤ) (id : ℤ) (f : ℕ × Buffer) → buffer b.shared id ≡ Some f → IsBegun (buffers.sends at b (runner.Process q) limit m f.0 f.1)
    sends_found at limit m id f e =
        let fits = of_buffers.found_fits d names b id f h e in
        let first = first_waiting b.processes (buffers.list f.0) in
        either (buffers.is_full f.1) _ _ (waits_for at limit (buffers.sender f.0 f.1) m fits)
        (nobody_begins Objects (HaveDisciplines d) q b _
        (after_shares d names Objects (HaveDisciplines d) nobody b _ _ (answered service.SendBuffer []) (λ k. of_buffers.message_shares d names nobody b f.0 f.1 m k fits first refl))
        (taken_idle f.0 f.1 m first (first_waiting_found b.processes (buffers.list f.0))))

    receives_from : (at : At) (array : ArrayPlace) (limit : ℤ) (place : ℕ) (x : Buffer) (ms : List (ArrayVec ℤ)) → x.row.discipline ≡ d (buffers.list place) → IsBegun (buffers.receives at b (runner.Process q) array limit place x ms)
    receives_from at array limit place x [] fits = waits_for at limit (buffers.receiver place x array) (message []) fits
    receives_from at array limit place x (m ∷ rest) fits =
        let first = first_waiting b.processes (buffers.list place) in
        let left : Buffer = record x { messages = rest } in
        nobody_begins Objects (HaveDisciplines d) q b _
        (after_shares d names Objects (HaveDisciplines d) nobody b _ _ (answered service.ReceiveBuffer (pos (length m.items) ∷ []))
        (λ k. after_shares d names Objects (HaveDisciplines d) nobody b _ _ (fills_shares d names Objects (HaveDisciplines d) nobody b (Some array) m k)
        (λ g. of_buffers.admits_shares d names nobody b place left g fits first refl)))
        (admitted_idle place left first (first_waiting_found b.processes (buffers.list place)))

    receives_found : (at : At) (array : ArrayPlace) (limit id : ℤ) (f : ℕ × Buffer) → buffer b.shared id ≡ Some f → IsBegun (buffers.receives at b (runner.Process q) array limit f.0 f.1 f.1.messages)
    receives_found at array limit id f e = receives_from at array limit f.0 f.1 f.1.messages (of_buffers.found_fits d names b id f h e)

    reads_from : (at : At) (array : ArrayPlace) (limit : ℤ) (place : ℕ) (o : Option (ArrayVec ℤ)) → discipline.Fifo ≡ d (blackboards.list place) → IsBegun (blackboards.reads at b (runner.Process q) array limit place o)
    reads_from at array limit place None fits = waits_for at limit (blackboards.reader place array) (message []) fits
    reads_from at array limit place (Some m) fits =
        nobody_begins Objects (HaveDisciplines d) q b _
        (after_shares d names Objects (HaveDisciplines d) nobody b _ _ (answered service.ReadBlackboard (pos (length m.items) ∷ []))
        (λ k. fills_shares d names Objects (HaveDisciplines d) nobody b (Some array) m k)) idle

    reads_found : (at : At) (array : ArrayPlace) (limit id : ℤ) (f : ℕ × Blackboard) → blackboard b.shared id ≡ Some f → IsBegun (blackboards.reads at b (runner.Process q) array limit f.0 f.1.shown)
    reads_found at array limit id f e = reads_from at array limit f.0 f.1.shown (of_blackboards.found_fits d names b id f h e)

    pub objects_begin : (m : Mode) (at : At) (c : ObjectCall) (words : List ℤ) → waits_by (runner.Process q) (call.Object c) ≡ Some q.0 → IsBegun (serves_objects m at b (runner.Process q) c words)
    objects_begin m at (object.SendBuffer id array size limit) words own = search (either, on_found, sends_found, refused)
    objects_begin m at (object.ReceiveBuffer id array limit) words own = search (either, on_found, receives_found, refused)
    objects_begin m at (object.ReadBlackboard id array limit) words own = search (either, on_found, reads_found, refused)
    objects_begin m at (object.WaitSemaphore id limit) words own = search (either, on_found, takes_found, refused)
    objects_begin m at (object.WaitEvent id limit) words own = search (either, on_found, awaits_found, refused)
    objects_begin m at _ words own = absurd (none-some q.0 own)

  -- ---- ports

  module _ (b : Sharing Ports) (h : IsSet d names Ports (PortsHaveDisciplines d) b) (q : ProcessIndex) (idle : WaitsForObject (record_at b.processes.rows q) → ⊥) where
    abbrev IsBegunAtPort : Step (Sharing Ports) → Type 0
    IsBegunAtPort t = Begins Ports (PortsHaveDisciplines d) q b t

    either_port : (c : Bool) (t u : Step (Sharing Ports)) → IsBegunAtPort t → IsBegunAtPort u → IsBegunAtPort (if c then t else u)
    either_port c t u j k = either_begins Ports (PortsHaveDisciplines d) q b c t u j k

    on_port : {X : Type 0} (o : Option (ℕ × X)) (step : ℕ → X → Step (Sharing Ports)) → ((f : ℕ × X) → o ≡ Some f → IsBegunAtPort (step f.0 f.1)) → IsBegunAtPort (on o b step)
    on_port o step k = on_begins Ports (PortsHaveDisciplines d) b h q idle o step k

    refused_at_port : (v : Service) (c : ReturnCode) → IsBegunAtPort (refuses b (runner.Process q) v c)
    refused_at_port v c = nobody_begins Ports (PortsHaveDisciplines d) q b _ (refuses_shares d names Ports (PortsHaveDisciplines d) nobody b (runner.Process q) v h c) idle

    waits_at_port : (at : At) (limit : ℤ) (w : Place) (m : ArrayVec ℤ) → w.discipline ≡ d w.list → IsBegunAtPort (of_processes b (blocks at b.processes (runner.Process q) limit w m))
    waits_at_port at limit w m same = waits_begins Ports (PortsHaveDisciplines d) b h q idle at limit w m same

    sends_to_port : (at : At) (limit : ℤ) (m : ArrayVec ℤ) (id : ℤ) (f : ℕ × Port) → queuing b.shared id ≡ Some f → IsBegunAtPort (ports.sends at b (runner.Process q) limit m f.0 f.1)
    sends_to_port at limit m id f e =
        let fits = of_ports.queuing_fits d names b id f h e in
        either_port (is_full f.1) _ _ (waits_at_port at limit (ports.sender f.0 f.1) m fits)
        (nobody_begins Ports (PortsHaveDisciplines d) q b _
        (after_shares d names Ports (PortsHaveDisciplines d) nobody b _ _
        (answers_shares d names Ports (PortsHaveDisciplines d) nobody b (runner.Process q) service.SendQueuingMessage code.NoError [] h) (λ k. of_ports.puts d names nobody b f.0 _ k fits)) idle)

    receives_from_port : (at : At) (array : ArrayPlace) (limit : ℤ) (place : ℕ) (x : Port) (ms : List (ArrayVec ℤ)) → discipline_of x.row.kind ≡ d (ports.list place)
        → IsBegunAtPort (ports.receives at b (runner.Process q) array limit place x ms)
    receives_from_port at array limit place x [] fits = waits_at_port at limit (ports.receiver place x array) (message []) fits
    receives_from_port at array limit place x (m ∷ rest) fits =
        nobody_begins Ports (PortsHaveDisciplines d) q b _
        (after_shares d names Ports (PortsHaveDisciplines d) nobody b _ _
        (answers_shares d names Ports (PortsHaveDisciplines d) nobody b (runner.Process q) service.ReceiveQueuingMessage (ports.code_of_receive x.overflowed) (pos (length m.items) ∷ []) h)
        (λ k. after_shares d names Ports (PortsHaveDisciplines d) nobody b _ _ (fills_shares d names Ports (PortsHaveDisciplines d) nobody b (Some array) m k)
        (λ g. of_ports.puts d names nobody b place (record x { messages = rest; overflowed = false }) g fits))) idle

    receives_at_port : (at : At) (array : ArrayPlace) (limit id : ℤ) (f : ℕ × Port) → queuing b.shared id ≡ Some f → IsBegunAtPort (ports.receives at b (runner.Process q) array limit f.0 f.1 f.1.messages)
    receives_at_port at array limit id f e = receives_from_port at array limit f.0 f.1 f.1.messages (of_ports.queuing_fits d names b id f h e)

    pub ports_begin : (m : Mode) (at : At) (c : PortCall) (words : List ℤ) → waits_by (runner.Process q) (call.Port c) ≡ Some q.0 → IsBegunAtPort (ports.serves_ports m at b (runner.Process q) c words)
    ports_begin m at (port.SendQueuingMessage id array size limit) words own = search (either_port, on_port, sends_to_port, refused_at_port) depth 8
    ports_begin m at (port.ReceiveQueuingMessage id array limit) words own = search (either_port, on_port, receives_at_port, refused_at_port) depth 8
    ports_begin m at _ words own = absurd (none-some q.0 own)
