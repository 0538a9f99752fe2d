-- A caller that begins to wait is the last in the list that its call names.
use Rattle.kernel_laws.proofs.Prelude.{◌≡◌, inl, inr, ℕ, suc, zero, ℤ, Bool, true, false, List, ◌∷◌, ◌++◌, Option, Some, None, refl, sym, subst, ◌∙◌, none-some, same_Some, nat_lt, if◌then◌else◌, option_map, pos, negsuc, slice_get, ArrayVec, Discipline, Mode, ReturnCode, At, ListKey, Priority, ProcessIndex, Runner, Entry, ProcessStatus, ArrayPlace, Call, Asks, Nothing, Calls, Faults, Ends, Kernel, with_objects, with_ports, serves_objects, serves, treats_asked, Objects, Blackboard, Buffer, Semaphore, ApexEvent, Port, Ports, is_full, numbered_in, HaveDisciplines, PortsHaveDisciplines, discipline_of, Processes, row_of, is_zero, is_busy, entry, itself, may_asked, Sharing, Step, message, blocks, waits_at, first_waiting, zeros_of_wait, joins, list_at, IsQueue, AreQueues, without, record_at}
use Rattle.std.proofs.Common.{[], ap}
use Rattle.std.specs.Prelude.{length}
use Rattle.apex_types.specs.declared.codes.Discipline.TheVariants as discipline
use Rattle.apex_types.specs.declared.codes.ReturnCode.TheVariants as code
use Rattle.apex_types.specs.declared.identity.ListKey.TheVariants as key
use Rattle.apex_types.specs.declared.identity.Runner.TheVariants as runner
use Rattle.apex_types.specs.declared.process.Waiting.{Waiting}
use Rattle.apex_types.specs.declared.service.Call.TheVariants as call
use Rattle.apex_types.specs.declared.service.ObjectCall.{ObjectCall}
use Rattle.apex_types.specs.declared.service.ObjectCall.TheVariants as object
use Rattle.apex_types.specs.declared.service.PortCall.{PortCall}
use Rattle.apex_types.specs.declared.service.PortCall.TheVariants as port
use Rattle.kernel_meaning.specs.BlackboardServices as blackboards
use Rattle.kernel_meaning.specs.BufferServices as buffers
use Rattle.kernel_meaning.specs.EventServices as events
use Rattle.kernel_meaning.specs.Objects.{blackboard, buffer, event, placed, queuing, semaphore}
use Rattle.kernel_meaning.specs.PortServices as ports
use Rattle.kernel_meaning.specs.Processes.{released_with}
use Rattle.kernel_meaning.specs.Queues.{joined, without_in_all}
use Rattle.kernel_meaning.specs.SemaphoreServices as semaphores
use Rattle.kernel_meaning.specs.Sharing.{of_processes, on}
use Rattle.kernel_laws.specs.GoingLast.{IsLast, IsLastUnder, list_asked, list_named, place_of_object}
use Rattle.kernel_laws.specs.Numbers.{waits_by}
use Rattle.kernel_laws.specs.WhoWaits.{WaitsForObject, has_list}
use Rattle.kernel_laws.proofs.LastOfEquals.{behind_is_last}
use Rattle.kernel_laws.proofs.OfPorts.{queuing_of}
use Rattle.kernel_laws.proofs.Records.{IsFound, first_waiting_found}
use Rattle.kernel_laws.proofs.Shares.{numbered_is}
use Rattle.kernel_laws.proofs.WaitSteps.{released_idle}
use Rattle.kernel_laws.proofs.WaitingCounts.{put_there, there_each}
use Rattle.kernel_laws.proofs.WaitingOrder.{leaves, ordered_by_priority}

-- ---- lists

last_behind : (e : Entry) (es : List Entry) → IsLast e.process (es ++ e ∷ [])
last_behind e [] = inl (refl, refl)
last_behind e (x ∷ xs) = inr (last_behind e xs)

joined_is_last : (d : Discipline) (number : ℕ → ℕ) (next : ℕ) (e : Entry) (es : List Entry) → IsQueue d number next es → IsLastUnder d e.process (joined d e es)
joined_is_last discipline.Fifo number next e es h = last_behind e es
joined_is_last discipline.Priority number next e es h = let same = ordered_by_priority number es in behind_is_last number e es (same.0 h.ordered)

-- the object found is that of the list named
placed_at : {X : Type 0} (n : ℕ) (o : Option X) (f : ℕ × X) → placed n o ≡ Some f → f.0 ≡ n
placed_at n None f e = absurd (none-some f e)
placed_at {X = X} n (Some x) f e = sym (ap (λ (g : ℕ × X). g.0) (same_Some (n, x) f e))

named_is : {X : Type 0} (kind : ℕ → ListKey) (xs : List X) (id : ℤ) (f : ℕ × X) (list : ListKey) → option_map kind (place_of_object id) ≡ Some list → numbered_in xs id ≡ Some f → kind f.0 ≡ list
named_is kind xs (negsuc n) f list named e = absurd (none-some f e)
named_is kind xs (pos zero) f list named e = absurd (none-some f e)
named_is kind xs (pos (suc n)) f list named e = ap kind (placed_at n (slice_get xs n) f e) ∙ same_Some (kind n) list named

-- ---- steps of the processes

module _ (d : ListKey → Discipline) (number : ℕ → ℕ) (next : ℕ) (s : Processes) (h : AreQueues d number next s.queues) (q : ProcessIndex) (list : ListKey) where
  -- if the process waits for an object, it is the last in this list
  abbrev pub IsBehind : Processes → Type 0
  IsBehind t = WaitsForObject (record_at t.rows q) → IsLastUnder (d list) q (list_at t.queues list)

  either_of : {P : Type 0} (of : P → Processes) (b : Bool) (t u : Step P) → IsBehind (of t.part) → IsBehind (of u.part) → IsBehind (of (if b then t else u).part)
  either_of of true t u j k = j
  either_of of false t u j k = k

  join_is_last : (v : Priority) (k : ListKey) (e : Discipline) → has_list s.queues list ≡ true → k ≡ list → e ≡ d list → IsLastUnder (d list) q (list_at (joins k e (entry q v) s.queues) list)
  join_is_last v k e there is same =
      let others = without_in_all q.0 s.queues in
      let longer = joined (d list) (entry q v) (list_at others list) in
      let last : IsLastUnder (d list) q longer = joined_is_last (d list) number next (entry q v) (list_at others list) (leaves d number next q.0 s.queues h list) in
      let at : IsLastUnder (d list) q (list_at (joins list (d list) (entry q v) s.queues) list) =
      subst (IsLastUnder (d list) q) (sym (put_there others list longer (there_each (without q.0) s.queues list there))) last in
      subst (λ (j : ListKey). IsLastUnder (d list) q (list_at (joins j e (entry q v) s.queues) list)) (sym is)
      (subst (λ (c : Discipline). IsLastUnder (d list) q (list_at (joins list c (entry q v) s.queues) list)) (sym same) at)

  module _ (idle : WaitsForObject (record_at s.rows q) → ⊥) where
    pub blocks_behind : (at : At) (limit : ℤ) (w : Waiting) (m : ArrayVec ℤ) → has_list s.queues list ≡ true → w.list ≡ list → w.discipline ≡ d list → IsBehind (blocks at s (runner.Process q) limit w m).part
    blocks_behind at limit w m there is same =
        either_of (λ t. t) (is_zero limit) _ _ (λ a. absurd (idle a)) (either_of (λ t. t) (is_busy s (runner.Process q)) _ _ (λ a. absurd (idle a)) (found (row_of s (runner.Process q))))
      where
        found : (o : Option ProcessStatus) → IsBehind (waits_at at s (runner.Process q) limit w m o).part
        found None = λ a. absurd (idle a)
        found (Some r) = λ a. join_is_last r.current_priority w.list w.discipline there is same

    pub released_behind : (p : Runner) (r : ProcessStatus) (c : ReturnCode) (outputs : List ℤ) → row_of s p ≡ Some r → IsBehind (released_with s p r c outputs).part
    released_behind p r c outputs there = λ a. absurd (released_idle s q idle p r c outputs there a)

-- ---- objects

module _ (d : ListKey → Discipline) (number : ℕ → ℕ) (next : ℕ) (b : Sharing Objects) (fit : HaveDisciplines d b.shared) (h : AreQueues d number next b.processes.queues) (q : ProcessIndex)
    (idle : WaitsForObject (record_at b.processes.rows q) → ⊥) (list : ListKey) (there : has_list b.processes.queues list ≡ true) where
  abbrev IsKept : Step (Sharing Objects) → Type 0
  IsKept s = WaitsForObject (record_at s.part.processes.rows q) → IsLastUnder (d list) q (list_at s.part.processes.queues list)

  here : WaitsForObject (record_at b.processes.rows q) → IsLastUnder (d list) q (list_at b.processes.queues list)
  here a = absurd (idle a)

  either : (c : Bool) (s t : Step (Sharing Objects)) → IsKept s → IsKept t → IsKept (if c then s else t)
  either true s t j k = j
  either false s t j k = k

  on_found : {X : Type 0} (o : Option (ℕ × X)) (step : ℕ → X → Step (Sharing Objects)) → ((f : ℕ × X) → o ≡ Some f → IsKept (step f.0 f.1)) → IsKept (on o b step)
  on_found None step k = here
  on_found (Some f) step k = k f refl

  waits_behind : (at : At) (limit : ℤ) (w : Waiting) (m : ArrayVec ℤ) → w.list ≡ list → w.discipline ≡ d list → IsKept (of_processes b (blocks at b.processes (runner.Process q) limit w m))
  waits_behind at limit w m is same = blocks_behind d number next b.processes h q list idle at limit w m there is same

  takes_message_behind : (place : ℕ) (x : Buffer) (m : ArrayVec ℤ) → IsKept (buffers.takes_message b place x m (first_waiting b.processes (buffers.list place)))
  takes_message_behind place x m = first (first_waiting b.processes (buffers.list place)) (first_waiting_found b.processes (buffers.list place))
    where
      first : (o : Option (Runner × ProcessStatus)) → IsFound b.processes o → IsKept (buffers.takes_message b place x m o)
      first None found = here
      first (Some f) found = released_behind d number next b.processes h q list idle f.0 f.1 code.NoError (pos (length m.items) ∷ []) (found f refl)

  admits_behind : (place : ℕ) (x : Buffer) → IsKept (buffers.admits b place x (first_waiting b.processes (buffers.list place)))
  admits_behind place x = first (first_waiting b.processes (buffers.list place)) (first_waiting_found b.processes (buffers.list place))
    where
      first : (o : Option (Runner × ProcessStatus)) → IsFound b.processes o → IsKept (buffers.admits b place x o)
      first None found = here
      first (Some f) found = released_behind d number next b.processes h q list idle f.0 f.1 code.NoError (zeros_of_wait f.1.wait) (found f refl)

  -- ---- the effects of services on the object found

  takes_found : (at : At) (limit id : ℤ) (f : ℕ × Semaphore) → option_map key.Semaphore (place_of_object id) ≡ Some list → semaphore b.shared id ≡ Some f
      → IsKept (semaphores.takes at b (runner.Process q) limit f.0 f.1)
  takes_found at limit id f named e =
      let is = named_is key.Semaphore b.shared.semaphores id f list named e in
      either (nat_lt 0 f.1.value) _ _ here
      (waits_behind at limit (semaphores.waiting_for f.0 f.1) (message []) is
      (numbered_is (λ place x. x.row.discipline ≡ d (key.Semaphore place)) b.shared.semaphores id f fit.semaphores e ∙ ap d is))

  awaits_found : (at : At) (limit id : ℤ) (f : ℕ × ApexEvent) → option_map key.Event (place_of_object id) ≡ Some list → event b.shared id ≡ Some f
      → IsKept (events.awaits at b (runner.Process q) limit f.0 f.1)
  awaits_found at limit id f named e =
      let is = named_is key.Event b.shared.events id f list named e in
      either f.1.up _ _ here
      (waits_behind at limit (events.waiting_for f.0) (message []) is (numbered_is (λ place x. discipline.Fifo ≡ d (key.Event place)) b.shared.events id f fit.events e ∙ ap d is))

  buffer_fits : (id : ℤ) (f : ℕ × Buffer) → option_map key.Buffer (place_of_object id) ≡ Some list → buffer b.shared id ≡ Some f → f.1.row.discipline ≡ d list
  buffer_fits id f named e =
      numbered_is (λ place x. x.row.discipline ≡ d (key.Buffer place)) b.shared.buffers id f fit.buffers e ∙ ap d (named_is key.Buffer b.shared.buffers id f list named e)

  sends_found : (at : At) (limit : ℤ) (m : ArrayVec ℤ) (id : ℤ) (f : ℕ × Buffer) → option_map key.Buffer (place_of_object id) ≡ Some list → buffer b.shared id ≡ Some f
      → IsKept (buffers.sends at b (runner.Process q) limit m f.0 f.1)
  sends_found at limit m id f named e =
      either (buffers.is_full f.1) _ _ (waits_behind at limit (buffers.sender f.0 f.1) m (named_is key.Buffer b.shared.buffers id f list named e) (buffer_fits id f named e)) (takes_message_behind f.0 f.1 m)

  receives_from : (at : At) (array : ArrayPlace) (limit : ℤ) (place : ℕ) (x : Buffer) (ms : List (ArrayVec ℤ)) → key.Buffer place ≡ list → x.row.discipline ≡ d list
      → IsKept (buffers.receives at b (runner.Process q) array limit place x ms)
  receives_from at array limit place x [] is same = waits_behind at limit (buffers.receiver place x array) (message []) is same
  receives_from at array limit place x (m ∷ rest) is same = admits_behind place (record x { messages = rest })

  receives_found : (at : At) (array : ArrayPlace) (limit id : ℤ) (f : ℕ × Buffer) → option_map key.Buffer (place_of_object id) ≡ Some list → buffer b.shared id ≡ Some f
      → IsKept (buffers.receives at b (runner.Process q) array limit f.0 f.1 f.1.messages)
  receives_found at array limit id f named e = receives_from at array limit f.0 f.1 f.1.messages (named_is key.Buffer b.shared.buffers id f list named e) (buffer_fits id f named e)

  reads_from : (at : At) (array : ArrayPlace) (limit : ℤ) (place : ℕ) (o : Option (ArrayVec ℤ)) → key.Blackboard place ≡ list → discipline.Fifo ≡ d list
      → IsKept (blackboards.reads at b (runner.Process q) array limit place o)
  reads_from at array limit place None is same = waits_behind at limit (blackboards.reader place array) (message []) is same
  reads_from at array limit place (Some m) is same = here

  reads_found : (at : At) (array : ArrayPlace) (limit id : ℤ) (f : ℕ × Blackboard) → option_map key.Blackboard (place_of_object id) ≡ Some list → blackboard b.shared id ≡ Some f
      → IsKept (blackboards.reads at b (runner.Process q) array limit f.0 f.1.shown)
  reads_found at array limit id f named e =
      let is = named_is key.Blackboard b.shared.blackboards id f list named e in
      reads_from at array limit f.0 f.1.shown is (numbered_is (λ place x. discipline.Fifo ≡ d (key.Blackboard place)) b.shared.blackboards id f fit.blackboards e ∙ ap d is)

  -- ---- the calls that name an object

  objects_behind : (m : Mode) (at : At) (c : ObjectCall) (words : List ℤ) → list_named (call.Object c) ≡ Some list → IsKept (serves_objects m at b (runner.Process q) c words)
  objects_behind m at (object.SendBuffer id array size limit) words named = search (either, on_found, sends_found, here)
  objects_behind m at (object.ReceiveBuffer id array limit) words named = search (either, on_found, receives_found, here)
  objects_behind m at (object.ReadBlackboard id array limit) words named = search (either, on_found, reads_found, here)
  objects_behind m at (object.WaitSemaphore id limit) words named = search (either, on_found, takes_found, here)
  objects_behind m at (object.WaitEvent id limit) words named = search (either, on_found, awaits_found, here)
  objects_behind m at _ words named = absurd (none-some list named)

-- ---- ports

module _ (d : ListKey → Discipline) (number : ℕ → ℕ) (next : ℕ) (b : Sharing Ports) (fit : PortsHaveDisciplines d b.shared) (h : AreQueues d number next b.processes.queues) (q : ProcessIndex)
    (idle : WaitsForObject (record_at b.processes.rows q) → ⊥) (list : ListKey) (there : has_list b.processes.queues list ≡ true) where
  abbrev IsPortKept : Step (Sharing Ports) → Type 0
  IsPortKept s = WaitsForObject (record_at s.part.processes.rows q) → IsLastUnder (d list) q (list_at s.part.processes.queues list)

  here_at_port : WaitsForObject (record_at b.processes.rows q) → IsLastUnder (d list) q (list_at b.processes.queues list)
  here_at_port a = absurd (idle a)

  either_port : (c : Bool) (s t : Step (Sharing Ports)) → IsPortKept s → IsPortKept t → IsPortKept (if c then s else t)
  either_port true s t j k = j
  either_port false s t j k = k

  on_port : {X : Type 0} (o : Option (ℕ × X)) (step : ℕ → X → Step (Sharing Ports)) → ((f : ℕ × X) → o ≡ Some f → IsPortKept (step f.0 f.1)) → IsPortKept (on o b step)
  on_port None step k = here_at_port
  on_port (Some f) step k = k f refl

  waits_at_port : (at : At) (limit : ℤ) (w : Waiting) (m : ArrayVec ℤ) → w.list ≡ list → w.discipline ≡ d list → IsPortKept (of_processes b (blocks at b.processes (runner.Process q) limit w m))
  waits_at_port at limit w m is same = blocks_behind d number next b.processes h q list idle at limit w m there is same

  port_is : (id : ℤ) (f : ℕ × Port) → option_map key.Port (place_of_object id) ≡ Some list → queuing b.shared id ≡ Some f → key.Port f.0 ≡ list
  port_is id f named e = named_is key.Port b.shared.ports id f list named (queuing_of (numbered_in b.shared.ports id) f e)

  port_fits : (id : ℤ) (f : ℕ × Port) → option_map key.Port (place_of_object id) ≡ Some list → queuing b.shared id ≡ Some f → discipline_of f.1.row.kind ≡ d list
  port_fits id f named e =
      numbered_is (λ place x. discipline_of x.row.kind ≡ d (key.Port place)) b.shared.ports id f fit (queuing_of (numbered_in b.shared.ports id) f e) ∙ ap d (port_is id f named e)

  sends_to_port : (at : At) (limit : ℤ) (m : ArrayVec ℤ) (id : ℤ) (f : ℕ × Port) → option_map key.Port (place_of_object id) ≡ Some list → queuing b.shared id ≡ Some f
      → IsPortKept (ports.sends at b (runner.Process q) limit m f.0 f.1)
  sends_to_port at limit m id f named e = either_port (is_full f.1) _ _ (waits_at_port at limit (ports.sender f.0 f.1) m (port_is id f named e) (port_fits id f named e)) here_at_port

  receives_from_port : (at : At) (array : ArrayPlace) (limit : ℤ) (place : ℕ) (x : Port) (ms : List (ArrayVec ℤ)) → key.Port place ≡ list → discipline_of x.row.kind ≡ d list
      → IsPortKept (ports.receives at b (runner.Process q) array limit place x ms)
  receives_from_port at array limit place x [] is same = waits_at_port at limit (ports.receiver place x array) (message []) is same
  receives_from_port at array limit place x (m ∷ rest) is same = here_at_port

  receives_at_port : (at : At) (array : ArrayPlace) (limit id : ℤ) (f : ℕ × Port) → option_map key.Port (place_of_object id) ≡ Some list → queuing b.shared id ≡ Some f
      → IsPortKept (ports.receives at b (runner.Process q) array limit f.0 f.1 f.1.messages)
  receives_at_port at array limit id f named e = receives_from_port at array limit f.0 f.1 f.1.messages (port_is id f named e) (port_fits id f named e)

  ports_behind : (m : Mode) (at : At) (c : PortCall) (words : List ℤ) → list_named (call.Port c) ≡ Some list → IsPortKept (ports.serves_ports m at b (runner.Process q) c words)
  ports_behind m at (port.SendQueuingMessage id array size limit) words named = search (either_port, on_port, sends_to_port, here_at_port) depth 8
  ports_behind m at (port.ReceiveQueuingMessage id array limit) words named = search (either_port, on_port, receives_at_port, here_at_port) depth 8
  ports_behind m at _ words named = absurd (none-some list named)

-- ---- the requests of a process

-- who begins to wait is the caller
caller_waits : (p : Runner) (c : Call) (q : ℕ) → waits_by p c ≡ Some q → itself p ≡ Some q
caller_waits p (call.Object (object.SendBuffer id array size limit)) q e = e
caller_waits p (call.Object (object.ReceiveBuffer id array limit)) q e = e
caller_waits p (call.Object (object.ReadBlackboard id array limit)) q e = e
caller_waits p (call.Object (object.WaitSemaphore id limit)) q e = e
caller_waits p (call.Object (object.WaitEvent id limit)) q e = e
caller_waits p (call.Port (port.SendQueuingMessage id array size limit)) q e = e
caller_waits p (call.Port (port.ReceiveQueuingMessage id array limit)) q e = e
caller_waits p _ q e = absurd (none-some q e)

the_caller : (p : Runner) (q : ProcessIndex) → itself p ≡ Some q.0 → p ≡ runner.Process q
the_caller runner.Init q e = absurd (none-some q.0 e)
the_caller runner.Handler q e = absurd (none-some q.0 e)
the_caller (runner.Process i) q e = ap (λ (n : ℕ). runner.Process (record { 0 = n })) (same_Some i.0 q.0 e)

pub asked_caller : (p : Runner) (a : Asks) (q : ProcessIndex) → (may_asked p a).begin_to_wait ≡ Some q.0 → p ≡ runner.Process q
asked_caller p (Calls c) q own = the_caller p q (caller_waits p c q.0 own)
asked_caller p Nothing q own = absurd (none-some q.0 own)
asked_caller p (Faults f) q own = absurd (none-some q.0 own)
asked_caller p Ends q own = absurd (none-some q.0 own)

module _ (d : ListKey → Discipline) (number : ℕ → ℕ) (next : ℕ) (at : At) (k : Kernel) (objects : HaveDisciplines d k.objects) (fit : PortsHaveDisciplines d k.ports)
    (h : AreQueues d number next k.processes.queues) (q : ProcessIndex) (idle : WaitsForObject (record_at k.processes.rows q) → ⊥) (list : ListKey) (there : has_list k.processes.queues list ≡ true) where
  abbrev pub BeginsIn : Step Kernel → Type 0
  BeginsIn t = WaitsForObject (record_at t.part.processes.rows q) → IsLastUnder (d list) q (list_at t.part.processes.queues list)

  serves_behind : (c : Call) (words : List ℤ) → list_named c ≡ Some list → BeginsIn (serves at k (runner.Process q) c words)
  serves_behind (call.Object c) words named = objects_behind d number next (with_objects k) objects h q idle list there k.mode at c words named
  serves_behind (call.Port c) words named = ports_behind d number next (with_ports k) fit h q idle list there k.mode at c words named
  serves_behind _ words named = absurd (none-some list named)

  pub asked_behind : (p : Runner) (a : Asks) (words : List ℤ) → (may_asked p a).begin_to_wait ≡ Some q.0 → list_asked a ≡ Some list → BeginsIn (treats_asked at k p a words)
  asked_behind p (Calls c) words own named = subst (λ (o : Runner). BeginsIn (serves at k o c words)) (sym (asked_caller p (Calls c) q own)) (serves_behind c words named)
  asked_behind p Nothing words own named = absurd (none-some list named)
  asked_behind p (Faults f) words own named = absurd (none-some list named)
  asked_behind p Ends words own named = absurd (none-some list named)
