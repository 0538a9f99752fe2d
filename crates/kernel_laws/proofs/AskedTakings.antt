-- In a step of a partition who may take a number by its call does so exactly if it has to.
use Rattle.kernel_laws.proofs.Prelude.{◌≡◌, ℕ, zero, suc, ℤ, List, Some, None, refl, pos, negsuc, Discipline, At, ListKey, ProcessIndex, Runner, Call, Asks, Nothing, Calls, Faults, Ends, Kernel, of_processes, with_objects, with_ports, serves, treats_asked, May, itself, may_asked, nobody, only_last, priority_of, set_priority, Processes, row_of, index, numbered, timed_wait, Step, record_at}
use Rattle.std.proofs.Common.{ap}
use Rattle.apex_types.specs.declared.identity.Runner.TheVariants as runner
use Rattle.apex_types.specs.declared.service.Call.TheVariants as call
use Rattle.apex_types.specs.declared.service.ObjectCall.{ObjectCall}
use Rattle.apex_types.specs.declared.service.ObjectCall.TheVariants as object
use Rattle.apex_types.specs.declared.service.PortCall.{PortCall}
use Rattle.apex_types.specs.declared.service.PortCall.TheVariants as port
use Rattle.kernel_laws.specs.Numbers.{waits_by}
use Rattle.kernel_laws.specs.WhoWaits.{WaitsForObject}
use Rattle.kernel_laws.proofs.ExactTakings.{IsExact, exact_alone, none_may, none_others}
use Rattle.kernel_laws.proofs.LastTakings.{Takes, sets, takes, timed_wait_takes}
use Rattle.kernel_laws.proofs.OfKernel.{IsReady, Moves}
use Rattle.kernel_laws.proofs.OfServices.{asked_moves}
use Rattle.kernel_laws.proofs.RecordRows.{IsCaller}
use Rattle.kernel_laws.proofs.WaitTakings.{only_waits, objects_begin, ports_begin}

-- INIT and the handler never wait
never_waits : (p : Runner) (c : Call) → itself p ≡ None → waits_by p c ≡ None
never_waits p (call.Object (object.SendBuffer id array size limit)) e = e
never_waits p (call.Object (object.ReceiveBuffer id array limit)) e = e
never_waits p (call.Object (object.ReadBlackboard id array limit)) e = e
never_waits p (call.Object (object.WaitSemaphore id limit)) e = e
never_waits p (call.Object (object.WaitEvent id limit)) e = e
never_waits p (call.Port (port.SendQueuingMessage id array size limit)) e = e
never_waits p (call.Port (port.ReceiveQueuingMessage id array limit)) e = e
never_waits p _ e = refl

module _ (d : ListKey → Discipline) (names : List (List ℕ)) where
  -- a step of a partition that continues the numbers, by the takings that its lines and its processes give
  pub record TakesIn (may : May) (k : Kernel) (t : Step Kernel) : Type 0 where
    pub moves : Moves d names may k t
    pub exact : IsExact may t.lines t.part.processes moves.goes.takings

  module _ (at : At) (k : Kernel) (h : IsReady d names k) where
    abbrev In : May → Step Kernel → Type 0
    In may t = TakesIn may k t

    one_takes : (i : ProcessIndex) (t : Step Processes) → Takes d names i k.processes t → In (only_last (Some i.0)) (of_processes k t)
    one_takes i t g = record { moves = record { goes = g.goes; objects = h.objects; ports = h.ports }; exact = g.exact }

    pub none_takes : (may : May) (t : Step Kernel) → may.go_last ≡ None → may.begin_to_wait ≡ None → Moves d names may k t → In may t
    none_takes may t none never g = record {
      moves = g;
      exact = exact_alone may t.lines t.part.processes g.goes.takings (none_others may t.lines t.part.processes none never) (none_may may none never g.goes.takings g.goes.allowed);
    }

    moves_by : (p : Runner) (c : Call) (words : List ℤ) → Moves d names (may_asked p (Calls c)) k (serves at k p c words)
    moves_by p c words = asked_moves d names at k p (Calls c) words h

    set_takes : (p : Runner) (id v : ℤ) (words : List ℤ) → In (may_asked p (Calls (call.SetPriority id v))) (serves at k p (call.SetPriority id v) words)
    set_takes p (negsuc n) v words = none_takes (only_last None) _ refl refl (moves_by p (call.SetPriority (negsuc n) v) words)
    set_takes p (pos zero) v words = none_takes (only_last None) _ refl refl (moves_by p (call.SetPriority (pos zero) v) words)
    set_takes p (pos (suc n)) v words =
        one_takes (index n) (set_priority k.processes p (pos (suc n)) v)
        (sets d names k.processes h.named p (index n) v (numbered (index n) (row_of k.processes (runner.Process (index n))))
        (takes d names k.processes h.named p (index n) (priority_of v) (row_of k.processes (runner.Process (index n))) refl) (pos (suc n)) refl)

    wait_takes : (p : Runner) (delay : ℤ) (words : List ℤ) → IsCaller k.processes p → In (may_asked p (Calls (call.TimedWait delay))) (serves at k p (call.TimedWait delay) words)
    wait_takes runner.Init delay words caller = none_takes (only_last None) _ refl refl (moves_by runner.Init (call.TimedWait delay) words)
    wait_takes runner.Handler delay words caller = none_takes (only_last None) _ refl refl (moves_by runner.Handler (call.TimedWait delay) words)
    wait_takes (runner.Process i) delay words caller = one_takes i (timed_wait at k.processes (runner.Process i) delay) (timed_wait_takes d names k.processes h.named i (caller i refl) at delay)

    -- the calls in which a process may have to wait
    object_begins : (q : ProcessIndex) → (WaitsForObject (record_at k.processes.rows q) → ⊥) → (c : ObjectCall) (words : List ℤ) → may_asked (runner.Process q) (Calls (call.Object c)) ≡ only_waits q
        → In (only_waits q) (serves at k (runner.Process q) (call.Object c) words)
    object_begins q idle c words own =
        let g = objects_begin d names (with_objects k) (record { named = h.named; fit = h.objects }) q idle k.mode at c words (ap (λ (m : May). m.begin_to_wait) own) in
        record { moves = record { goes = g.shares.goes; objects = g.shares.fit; ports = h.ports }; exact = g.exact }

    port_begins : (q : ProcessIndex) → (WaitsForObject (record_at k.processes.rows q) → ⊥) → (c : PortCall) (words : List ℤ) → may_asked (runner.Process q) (Calls (call.Port c)) ≡ only_waits q
        → In (only_waits q) (serves at k (runner.Process q) (call.Port c) words)
    port_begins q idle c words own =
        let g = ports_begin d names (with_ports k) (record { named = h.named; fit = h.ports }) q idle k.mode at c words (ap (λ (m : May). m.begin_to_wait) own) in
        record { moves = record { goes = g.shares.goes; objects = h.objects; ports = g.shares.fit }; exact = g.exact }

    object_takes : (p : Runner) → ((q : ProcessIndex) → p ≡ runner.Process q → WaitsForObject (record_at k.processes.rows q) → ⊥) → (c : ObjectCall) (words : List ℤ)
        → In (may_asked p (Calls (call.Object c))) (serves at k p (call.Object c) words)
    object_takes runner.Init idle c words = none_takes (may_asked runner.Init (Calls (call.Object c))) _ refl (never_waits runner.Init (call.Object c) refl) (moves_by runner.Init (call.Object c) words)
    object_takes runner.Handler idle c words = none_takes (may_asked runner.Handler (Calls (call.Object c))) _ refl (never_waits runner.Handler (call.Object c) refl) (moves_by runner.Handler (call.Object c) words)
    object_takes (runner.Process q) idle (object.SendBuffer id array size limit) words = object_begins q (idle q refl) (object.SendBuffer id array size limit) words refl
    object_takes (runner.Process q) idle (object.ReceiveBuffer id array limit) words = object_begins q (idle q refl) (object.ReceiveBuffer id array limit) words refl
    object_takes (runner.Process q) idle (object.ReadBlackboard id array limit) words = object_begins q (idle q refl) (object.ReadBlackboard id array limit) words refl
    object_takes (runner.Process q) idle (object.WaitSemaphore id limit) words = object_begins q (idle q refl) (object.WaitSemaphore id limit) words refl
    object_takes (runner.Process q) idle (object.WaitEvent id limit) words = object_begins q (idle q refl) (object.WaitEvent id limit) words refl
    object_takes (runner.Process q) idle c words = none_takes (may_asked (runner.Process q) (Calls (call.Object c))) _ refl refl (moves_by (runner.Process q) (call.Object c) words)

    port_takes : (p : Runner) → ((q : ProcessIndex) → p ≡ runner.Process q → WaitsForObject (record_at k.processes.rows q) → ⊥) → (c : PortCall) (words : List ℤ)
        → In (may_asked p (Calls (call.Port c))) (serves at k p (call.Port c) words)
    port_takes runner.Init idle c words = none_takes (may_asked runner.Init (Calls (call.Port c))) _ refl (never_waits runner.Init (call.Port c) refl) (moves_by runner.Init (call.Port c) words)
    port_takes runner.Handler idle c words = none_takes (may_asked runner.Handler (Calls (call.Port c))) _ refl (never_waits runner.Handler (call.Port c) refl) (moves_by runner.Handler (call.Port c) words)
    port_takes (runner.Process q) idle (port.SendQueuingMessage id array size limit) words = port_begins q (idle q refl) (port.SendQueuingMessage id array size limit) words refl
    port_takes (runner.Process q) idle (port.ReceiveQueuingMessage id array limit) words = port_begins q (idle q refl) (port.ReceiveQueuingMessage id array limit) words refl
    port_takes (runner.Process q) idle c words = none_takes (may_asked (runner.Process q) (Calls (call.Port c))) _ refl refl (moves_by (runner.Process q) (call.Port c) words)

    module _ (p : Runner) (caller : IsCaller k.processes p) (idle : (q : ProcessIndex) → p ≡ runner.Process q → WaitsForObject (record_at k.processes.rows q) → ⊥) where
      call_takes : (c : Call) (words : List ℤ) → In (may_asked p (Calls c)) (serves at k p c words)
      call_takes (call.SetPriority id v) words = set_takes p id v words
      call_takes (call.TimedWait delay) words = wait_takes p delay words caller
      call_takes (call.Object c) words = object_takes p idle c words
      call_takes (call.Port c) words = port_takes p idle c words
      call_takes c words = none_takes (may_asked p (Calls c)) _ refl refl (moves_by p c words)

      pub asked_takes : (a : Asks) (words : List ℤ) → In (may_asked p a) (treats_asked at k p a words)
      asked_takes (Calls c) words = call_takes c words
      asked_takes Nothing words = none_takes nobody _ refl refl (asked_moves d names at k p Nothing words h)
      asked_takes (Faults e) words = none_takes nobody _ refl refl (asked_moves d names at k p (Faults e) words h)
      asked_takes Ends words = none_takes nobody _ refl refl (asked_moves d names at k p Ends words h)
