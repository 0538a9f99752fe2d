-- Each step of a partition keeps the agreement of the waiting lists with the records.
use Rattle.kernel_laws.proofs.Prelude.{◌≡◌, ℕ, ℤ, List, ◌∷◌, Option, Some, None, refl, not, slice_set, place_of, Discipline, At, ListKey, Runner, Action, Call, Engine, Asks, Nothing, Calls, Faults, Ends, is_message_length, Kernel, of_ports, of_processes, with_errors, with_objects, with_ports, Member, World, act, act_all, chooses_with_handler, choice_phase, control_at, given, moved, place_of_port, serves, spends_chosen, then_clears, tick, ticked, treats_asked, treats_due, next_release_of, number_of, clears, breaks, Processes, Step, RecordsAgree, Move, Starts, BreaksDown, Arrives, Leaves, Admits, GoesOut, Advances, makes, Numbers, IsOrdered, chosen_among}
use Rattle.std.proofs.Common.{[]}
use Rattle.apex_types.specs.Runners as action
use Rattle.apex_types.specs.declared.codes.Mode.TheVariants as mode
use Rattle.apex_types.specs.declared.service.Call.TheVariants as call
use Rattle.kernel_meaning.specs.Kernel.{of_ports_alone}
use Rattle.kernel_meaning.specs.Partition.{due_phase, prepares, treating_phase}
use Rattle.kernel_meaning.specs.PortServices as ports
use Rattle.kernel_laws.proofs.InRange.{admits_in_range, arrives_in_range, leaves_in_range, objects_in_range, ports_in_range}
use Rattle.kernel_laws.proofs.OfTick.{tick_goes}
use Rattle.kernel_laws.proofs.RecordChoice.{runs_ready}
use Rattle.kernel_laws.proofs.RecordKernel.{handler_agrees}
use Rattle.kernel_laws.proofs.WaitKernel.{KernelHolds, breaks_hold, chooses_holds, clears_hold, create_handler_holds, due_from_holds, ends_body_holds, error_status_holds, faults_hold, handler_holds, of_holds, raise_holds, set_mode_holds, then_clears_hold}
use Rattle.kernel_laws.proofs.WaitObjects.{admits_all_hold, arrives_holds, objects_hold, ports_hold}
use Rattle.kernel_laws.proofs.WaitRows.{IsIdle, caller_idle, create_process_holds, delayed_start_holds, get_my_id_holds, get_process_id_holds, get_process_status_holds, lock_preemption_holds, periodic_wait_holds, replenish_holds, resume_holds, set_priority_holds, start_holds, stop_holds, suspend_holds, suspend_self_holds, timed_wait_holds, unlock_preemption_holds}
use Rattle.kernel_laws.proofs.WaitSteps.{Hold, either}

-- ---- the requests of a process

module _ {few : Type 0} (at : At) (k : Kernel) (h : KernelHolds few k) (p : Runner) (idle : IsIdle k.processes p) where
  abbrev IsKept : Step Kernel → Type 0
  IsKept s = KernelHolds few s.part

  of_process : (s : Processes) → Hold few s → KernelHolds few (record k { processes = s })
  of_process s g = of_holds k s h g

  serves_holds : (c : Call) (words : List ℤ) → IsKept (serves at k p c words)
  serves_holds call.GetPartitionStatus words = h
  serves_holds (call.SetPartitionMode m) words = set_mode_holds at k p m h
  serves_holds call.StopSelf words = ends_body_holds k p h
  serves_holds (call.ReportApplicationMessage array size) words = of_process _ (either (λ (s : Processes). s) (not (is_message_length array.size size)) _ _ (λ e. h.holds) (λ e. h.holds))
  serves_holds call.CreateErrorHandler words = record { holds = create_handler_holds (with_errors k) h.holds p k.mode; objects = h.objects; ports = h.ports }
  serves_holds (call.GetErrorStatus array) words = record { holds = error_status_holds (with_errors k) h.holds p array; objects = h.objects; ports = h.ports }
  serves_holds (call.RaiseApplicationError e array size) words = raise_holds k p e array size words h
  serves_holds (call.GetProcessId name) words = of_process _ (get_process_id_holds k.processes h.holds p name)
  serves_holds (call.GetProcessStatus id) words = of_process _ (get_process_status_holds k.processes h.holds p id)
  serves_holds (call.CreateProcess name) words = of_process _ (create_process_holds k.processes h.holds p k.mode name)
  serves_holds (call.SetPriority id v) words = of_process _ (set_priority_holds k.processes h.holds p id v)
  serves_holds (call.SuspendSelf limit) words = of_process _ (suspend_self_holds k.processes h.holds p at limit idle)
  serves_holds (call.Suspend id) words = of_process _ (suspend_holds k.processes h.holds p id)
  serves_holds (call.Resume id) words = of_process _ (resume_holds k.processes h.holds p id)
  serves_holds (call.Stop id) words = of_process _ (stop_holds k.processes h.holds p id)
  serves_holds (call.Start id) words = of_process _ (start_holds k.processes h.holds p k.mode at (next_release_of at k) id)
  serves_holds (call.DelayedStart id delay) words = of_process _ (delayed_start_holds k.processes h.holds p k.mode at (next_release_of at k) id delay)
  serves_holds call.LockPreemption words = of_process _ (lock_preemption_holds k.processes h.holds p k.mode)
  serves_holds call.UnlockPreemption words = of_process _ (unlock_preemption_holds k.processes h.holds p k.mode)
  serves_holds call.GetMyId words = of_process _ (get_my_id_holds k.processes h.holds p (number_of p))
  serves_holds (call.TimedWait delay) words = of_process _ (timed_wait_holds k.processes h.holds p at delay idle)
  serves_holds call.PeriodicWait words = of_process _ (periodic_wait_holds k.processes h.holds p idle)
  serves_holds call.GetTime words = h
  serves_holds (call.Replenish budget) words = of_process _ (replenish_holds k.processes h.holds p k.mode at budget)
  serves_holds (call.Object c) words = record {
    holds = objects_hold (with_objects k) h.holds h.objects p k.mode at c words;
    objects = λ so. objects_in_range (with_objects k) (h.objects so) p k.mode at c words;
    ports = h.ports;
  }
  serves_holds (call.Port c) words = record {
    holds = ports_hold (with_ports k) h.holds h.ports p k.mode at c words;
    objects = h.objects;
    ports = λ so. ports_in_range (with_ports k) (h.ports so) p k.mode at c words;
  }

  asked_holds : (a : Asks) (words : List ℤ) → IsKept (treats_asked at k p a words)
  asked_holds Nothing words = h
  asked_holds (Calls c) words = serves_holds c words
  asked_holds (Faults e) words = faults_hold k p e h
  asked_holds Ends words = ends_body_holds k p h

-- ---- a partition on its engine

abbrev WorldHolds : {C : Type 0} → Type 0 → World C → Type 0
WorldHolds few w = KernelHolds few w.kernel

module _ {C few : Type 0} where
  act_holds : (e : Engine C) (a : Action) (w : World C) → WorldHolds few w → WorldHolds few (act e a w)
  act_holds e (action.Begin p) w h = h
  act_holds e (action.Stop p) w h = h
  act_holds e action.StopAll w h = h
  act_holds e (action.Reply p answer) w h = h
  act_holds e action.Restore w h = h
  act_holds e (action.Write place array) w h = h
  act_holds e (action.Queue error) w h = record { holds = h.holds; objects = h.objects; ports = h.ports }

  all_hold : (e : Engine C) (actions : List Action) (w : World C) → WorldHolds few w → WorldHolds few (act_all e actions w)
  all_hold e [] w h = h
  all_hold e (a ∷ rest) w h = all_hold e rest (act e a w) (act_holds e a w h)

  moved_holds : (at : At) (e : Engine C) (s : Step Kernel) (w : World C) → KernelHolds few s.part → WorldHolds few (moved at e s w).world
  moved_holds at e s w h = all_hold e s.actions (record w { kernel = s.part }) h

  due_holds : (e : Engine C) (at : At) (w : World C) → WorldHolds few w → WorldHolds few (due_phase e at w).world
  due_holds e at w h =
      let v = (treating_phase e at w).world in
      moved_holds at e (then_clears v.kernel (treats_due at w.kernel).clears) v
      (then_clears_hold v.kernel (treats_due at w.kernel).clears
      (moved_holds at e (of_processes w.kernel (treats_due at w.kernel).step) w (of_holds w.kernel (treats_due at w.kernel).step.part h (due_from_holds at _ _ 0 _ w.kernel.processes h.holds))))

  choice_holds : (e : Engine C) (at : At) (w : World C) → RecordsAgree w.kernel.processes → WorldHolds few w → WorldHolds few (choice_phase e at w).world
  choice_holds e at w agree h =
      let k = w.kernel in
      moved_holds at e (chooses_with_handler k) w
      (record { holds = chooses_holds k.mode (chosen_among k) (handler_agrees k.mode (with_errors k) agree) (handler_holds k.mode (with_errors k) h.holds); objects = h.objects; ports = h.ports })

  spends_holds : (e : Engine C) (at : At) (w : World C) (o : Option Runner) → w.kernel.processes.running ≡ o → RecordsAgree w.kernel.processes → WorldHolds few w → WorldHolds few (spends_chosen e at o w).world
  spends_holds e at w None is agree h = h
  spends_holds e at w (Some p) is agree h =
      let r = ticked e (control_at w.controls (place_of p)) w.words in
      moved_holds at e (treats_asked at w.kernel p r.asks (given r.asks r.words)) (record w { controls = slice_set w.controls (place_of p) r.control; words = r.words })
      (asked_holds at w.kernel h p (caller_idle w.kernel.processes agree p (runs_ready w.kernel.processes agree p is)) r.asks (given r.asks r.words))

-- ---- the moves of a module with a partition

module _ {C few : Type 0} (d : ListKey → Discipline) (names : List (List ℕ)) (n : Numbers) where
  tick_holds : (e : Engine C) (at : At) (w : World C) → IsOrdered d names n w.kernel → KernelHolds few w.kernel → KernelHolds few (tick e at w).world.kernel
  tick_holds e at w ordered h =
      let ticked = tick_goes d names n e at w ordered in
      let t = ticked.1 in
      let g = choice_holds e at (due_phase e at w).world t.due.ordered.records (due_holds e at w h) in
      spends_holds e at (prepares e at w).world (prepares e at w).world.kernel.processes.running refl t.prepared.records g

  pub makes_hold : (move : Move) (x : Member C) → IsOrdered d names n x.world.kernel → KernelHolds few x.world.kernel → KernelHolds few (makes move x).world.kernel
  makes_hold (Starts at condition) x ordered h = moved_holds at x.engine (clears x.world.kernel mode.ColdStart condition) x.world (clears_hold x.world.kernel mode.ColdStart condition h)
  makes_hold (BreaksDown at) x ordered h = moved_holds at x.engine (breaks x.world.kernel) x.world (breaks_hold x.world.kernel h)
  makes_hold (Arrives at port m) x ordered h =
      let k = x.world.kernel in
      moved_holds at x.engine (of_ports k (ports.arrives at (with_ports k) (place_of_port port) m)) x.world
      (record { holds = arrives_holds (with_ports k) h.holds at (place_of_port port) m; objects = h.objects; ports = λ so. arrives_in_range (with_ports k) (h.ports so) at (place_of_port port) m })
  makes_hold (Leaves at port) x ordered h =
      let k = x.world.kernel in
      moved_holds at x.engine (of_ports_alone k (ports.leaves k.ports (place_of_port port))) x.world
      (record { holds = h.holds; objects = h.objects; ports = λ so. leaves_in_range k.ports (place_of_port port) (h.ports so) })
  makes_hold (Admits at port) x ordered h =
      let k = x.world.kernel in
      moved_holds at x.engine (of_ports k (ports.admits (with_ports k) (place_of_port port))) x.world
      (record { holds = admits_all_hold (with_ports k) (place_of_port port) h.holds; objects = h.objects; ports = λ so. admits_in_range (with_ports k) (place_of_port port) (h.ports so) })
  makes_hold (GoesOut at channel m) x ordered h = h
  makes_hold (Advances at) x ordered h = tick_holds x.engine at x.world ordered h
