-- A tick of a partition keeps its invariant.
use Rattle.isolation.proofs.Prelude.{ℕ, zero, suc, ◌+◌, ℤ, Bool, true, false, List, length, Option, Some, None, ◌&&◌, not, nat_le, is_some, if◌then◌else◌, slice_set, place_of, Mode, PartitionAction, Ready, At, ProcessIndex, Runner, Due, ProcessStatus, PortRow, Call, Engine, Asks, Nothing, Calls, Faults, Ends, Errors, then_clears, Kernel, of_processes, with_errors, with_ports, World, Member, chooses_with_handler, given, control_at, ticked, serves, treats_asked, moved, spends, spends_chosen, treating_phase, clearing_phase, due_phase, choice_phase, prepares, tick, next_release_of, Processes, row_of, index, is_normal, Sharing, Step}
use Rattle.apex_types.specs.declared.codes.ProcessState.TheVariants.{Running}
use Rattle.apex_types.specs.declared.codes.ReturnCode.TheVariants as code
use Rattle.apex_types.specs.declared.identity.Runner.TheVariants as runner
use Rattle.apex_types.specs.declared.process.Due.TheVariants as due_time
use Rattle.apex_types.specs.declared.service.Call.TheVariants as call
use Rattle.apex_types.specs.declared.service.ObjectCall.{ObjectCall}
use Rattle.apex_types.specs.declared.service.PortCall.{PortCall}
use Rattle.kernel_meaning.specs.Times.{Treated, timed_out, ends_wait, treats_due, misses, treats_deadline, treats, due_from, is_past, tick_of}
use Rattle.kernel_meaning.specs.HealthServices.{starts_handler, begins_if_dormant, is_message_length, is_waiting}
use Rattle.kernel_meaning.specs.Kernel.{with_objects}
use Rattle.kernel_meaning.specs.Partition as partition
use Rattle.kernel_meaning.specs.Partition.{preempts, runs, leaves_processor, takes_processor, are_same, pick, chooses, ticked_some}
use Rattle.kernel_meaning.specs.Processes.{is_dormant}
use Rattle.kernel_meaning.specs.ProcessServices.{number_of}
use Rattle.kernel_meaning.specs.Times.{released_at}
use Rattle.isolation.proofs.ErrorRows.{either as either_kernel, create_handler_sound, error_status_sound, ends_body_sound, set_mode_sound, raise_sound, faults_sound}
use Rattle.isolation.proofs.Handed.{IsSoundProcesses, either, record_sound, row_sound, wakes_sound, released_sound}
use Rattle.isolation.proofs.HandedIn.{AsksWithin, IsWithin, KeepsWithin}
use Rattle.isolation.proofs.ObjectRows.{objects_sound}
use Rattle.isolation.proofs.PortRows.{AreShort, ports_sound}
use Rattle.isolation.proofs.ProcessRows.{get_process_id_sound, get_process_status_sound, create_process_sound, set_priority_sound, suspend_self_sound, suspend_sound, resume_sound, stop_sound, start_sound, delayed_start_sound, lock_preemption_sound, unlock_preemption_sound, get_my_id_sound, timed_wait_sound, periodic_wait_sound, replenish_sound}
use Rattle.isolation.proofs.Sounds.{IsSound, IsSoundKernel, then_clears_sound, moved_sound}

module _ (rows : List PortRow) where
  abbrev Sound : Processes → Type 0
  Sound s = IsSoundProcesses rows s

  -- ---- what is due
  -- a due time
  ends_wait_sound : (s : Processes) (p : Runner) (r : ProcessStatus) (d : Due) → Sound s → Sound (ends_wait s p r d).part
  ends_wait_sound s p r (due_time.Release at) h = released_sound rows s p (released_at at r) code.NoError h
  ends_wait_sound s p r (due_time.Delay at) h = released_sound rows s p r code.NoError h
  ends_wait_sound s p r (due_time.TimeOut at) h = released_sound rows s p (timed_out r r.wait) code.TimedOut h

  treats_due_sound : (at : At) (s : Processes) (p : Runner) (r : ProcessStatus) (o : Option Due) → Sound s → Sound (treats_due at s p r o).part
  treats_due_sound at s p r None h = h
  treats_due_sound at s p r (Some d) h = either rows (nat_le (tick_of d) at.now.0) _ _ (ends_wait_sound s p r d h) h

  -- one of two treatments
  either_treated : (b : Bool) (s t : Treated) → Sound s.step.part → Sound t.step.part → Sound (if b then s else t).step.part
  either_treated true s t h k = h
  either_treated false s t h k = k

  -- a deadline
  misses_sound : (free : ℕ) (action : PartitionAction) (s : Processes) (p : ProcessIndex) (r : ProcessStatus) → Sound s → Sound (misses free action s p r).step.part
  misses_sound zero action s p r h = row_sound rows s (runner.Process p) (record r { deadline = None }) h
  misses_sound (suc free) action s p r h = row_sound rows s (runner.Process p) (record r { deadline = None }) h

  deadline_sound : (at : At) (free : ℕ) (action : PartitionAction) (s : Processes) (p : ProcessIndex) (o : Option ProcessStatus) → Sound s → Sound (treats_deadline at free action s p o).step.part
  deadline_sound at free action s p None h = h
  deadline_sound at free action s p (Some r) h = either_treated (is_past at.now.0 r.deadline) _ _ (misses_sound free action s p r h) h

  -- one process, then all
  treats_sound : (at : At) (free : ℕ) (action : PartitionAction) (s : Processes) (p : ProcessIndex) (o : Option ProcessStatus) → Sound s → Sound (treats at free action s p o).step.part
  treats_sound at free action s p None h = h
  treats_sound at free action s p (Some r) h =
      let d = treats_due at s (runner.Process p) r r.due in
      deadline_sound at free action d.part p (row_of d.part (runner.Process p)) (treats_due_sound at s (runner.Process p) r r.due h)

  due_from_sound : (at : At) (action : PartitionAction) (n place free : ℕ) (s : Processes) → Sound s → Sound (due_from at action n place free s).step.part
  due_from_sound at action zero place free s h = h
  due_from_sound at action (suc n) place free s h =
      let t = treats at free action s (index place) (row_of s (runner.Process (index place))) in
      let g = treats_sound at free action s (index place) (row_of s (runner.Process (index place))) h in
      either_treated (is_some t.clears) _ _ g (due_from_sound at action n (place + 1) t.free t.step.part g)

  -- ---- the choice
  leaves_processor_sound : (s : Processes) (o : Option Runner) → Sound s → Sound (leaves_processor s o).part
  leaves_processor_sound s None h = h
  leaves_processor_sound s (Some p) h = found (row_of s p)
    where
      found : (o : Option ProcessStatus) → Sound (preempts s p o).part
      found None = h
      found (Some r) = record_sound rows s p (record r { state = Ready }) s.ready None s.lock h

  takes_processor_sound : (s : Processes) (o : Option Runner) → Sound s → Sound (takes_processor s o).part
  takes_processor_sound s None h = h
  takes_processor_sound s (Some p) h = found (row_of s p)
    where
      found : (o : Option ProcessStatus) → Sound (runs s p o).part
      found None = h
      found (Some r) = record_sound rows s p (record r { state = Running }) s.ready (Some p) s.lock h

  chooses_sound : (m : Mode) (s : Processes) → Sound s → Sound (chooses m s).part
  chooses_sound m s h = either rows (are_same s.running (pick m s)) _ _ h (takes_processor_sound (leaves_processor s s.running).part (pick m s) (leaves_processor_sound s s.running h))

  handler_sound : (m : Mode) (b : Sharing Errors) → Sound b.processes → Sound (starts_handler m b).part
  handler_sound m b h = either rows (is_normal m && is_waiting b.shared.waiting) _ _ (found (row_of b.processes runner.Handler)) h
    where
      found : (o : Option ProcessStatus) → Sound (begins_if_dormant b.processes o).part
      found None = h
      found (Some r) = either rows (r.created && is_dormant r) _ _ (wakes_sound rows b.processes runner.Handler r h) h

  choice_sound : (k : Kernel) → IsSoundKernel rows k → IsSoundKernel rows (chooses_with_handler k).part
  choice_sound k h = record { holding = h.holding; processes = chooses_sound k.mode (starts_handler k.mode (with_errors k)).part (handler_sound k.mode (with_errors k) h.processes) }

  -- ---- the requests of a process
  module _ (short : AreShort rows) (at : At) (k : Kernel) (h : IsSoundKernel rows k) (p : Runner) where
    abbrev IsKept : Step Kernel → Type 0
    IsKept s = IsSoundKernel rows s.part

    -- the same ports, with other processes
    so : (s : Processes) → Sound s → IsSound rows k.ports.ports s
    so s g = record { holding = h.holding; processes = g }

    on_ports_sound : (c : PortCall) (words : List ℤ) → AsksWithin (length words) (Calls (call.Port c)) → IsKept (partition.serves_ports at k p c (given (Calls (call.Port c)) words))
    on_ports_sound c words within =
        let g = ports_sound rows (with_ports k) (record { holding = h.holding; processes = h.processes }) short k.mode at p c words within in
        record { holding = g.holding; processes = g.processes }

    on_objects_sound : (c : ObjectCall) (words : List ℤ) → IsKept (partition.serves_objects at k p c words)
    on_objects_sound c words = record { holding = h.holding; processes = objects_sound rows (with_objects k) h.processes p k.mode at c words }

    -- Each service, with what its call hands in.
    serves_sound : (c : Call) (words : List ℤ) → AsksWithin (length words) (Calls c) → IsKept (serves at k p c (given (Calls c) words))
    serves_sound call.GetPartitionStatus words within = h
    serves_sound (call.SetPartitionMode m) words within = set_mode_sound rows at k p m h
    serves_sound call.StopSelf words within = ends_body_sound rows k p h
    serves_sound (call.ReportApplicationMessage array size) words within = so _ (either rows (not (is_message_length array.size size)) _ _ h.processes h.processes)
    serves_sound call.CreateErrorHandler words within = record { holding = h.holding; processes = create_handler_sound rows (with_errors k) h.processes p k.mode }
    serves_sound (call.GetErrorStatus array) words within = record { holding = h.holding; processes = error_status_sound rows (with_errors k) h.processes p array }
    serves_sound (call.RaiseApplicationError e array size) words within = raise_sound rows k p e array size _ h
    serves_sound (call.GetProcessId name) words within = so _ (get_process_id_sound rows k.processes h.processes p name)
    serves_sound (call.GetProcessStatus id) words within = so _ (get_process_status_sound rows k.processes h.processes p id)
    serves_sound (call.CreateProcess name) words within = so _ (create_process_sound rows k.processes h.processes p k.mode name)
    serves_sound (call.SetPriority id v) words within = so _ (set_priority_sound rows k.processes h.processes p id v)
    serves_sound (call.SuspendSelf limit) words within = so _ (suspend_self_sound rows k.processes h.processes p at limit)
    serves_sound (call.Suspend id) words within = so _ (suspend_sound rows k.processes h.processes p id)
    serves_sound (call.Resume id) words within = so _ (resume_sound rows k.processes h.processes p id)
    serves_sound (call.Stop id) words within = so _ (stop_sound rows k.processes h.processes p id)
    serves_sound (call.Start id) words within = so _ (start_sound rows k.processes h.processes p k.mode at (next_release_of at k) id)
    serves_sound (call.DelayedStart id delay) words within = so _ (delayed_start_sound rows k.processes h.processes p k.mode at (next_release_of at k) id delay)
    serves_sound call.LockPreemption words within = so _ (lock_preemption_sound rows k.processes h.processes p k.mode)
    serves_sound call.UnlockPreemption words within = so _ (unlock_preemption_sound rows k.processes h.processes p k.mode)
    serves_sound call.GetMyId words within = so _ (get_my_id_sound rows k.processes h.processes p (number_of p))
    serves_sound (call.TimedWait delay) words within = so _ (timed_wait_sound rows k.processes h.processes p at delay)
    serves_sound call.PeriodicWait words within = so _ (periodic_wait_sound rows k.processes h.processes p)
    serves_sound call.GetTime words within = h
    serves_sound (call.Replenish budget) words within = so _ (replenish_sound rows k.processes h.processes p k.mode at budget)
    serves_sound (call.Object c) words within = on_objects_sound c (given (Calls (call.Object c)) words)
    serves_sound (call.Port c) words within = on_ports_sound c words within

    asked_sound : (a : Asks) (words : List ℤ) → AsksWithin (length words) a → IsKept (treats_asked at k p a (given a words))
    asked_sound Nothing words within = h
    asked_sound (Calls c) words within = serves_sound c words within
    asked_sound (Faults e) words within = faults_sound rows k p e h
    asked_sound Ends words within = ends_body_sound rows k p h

  -- ---- the tick
  module _ {C : Type 0} (short : AreShort rows) (e : Engine C) (keeps : KeepsWithin e) (at : At) where
    -- a runner that has nothing left to do makes no request
    ticked_within : (o : Option C) (words : List ℤ) → IsWithin (ticked e o words)
    ticked_within None words = record { array = tt }
    ticked_within (Some c) words = record { array = (keeps c words).array }

    chosen_sound : (o : Option Runner) (w : World C) → IsSoundKernel rows w.kernel → IsSoundKernel rows (spends_chosen e at o w).world.kernel
    chosen_sound None w h = h
    chosen_sound (Some p) w h =
        let r = ticked e (control_at w.controls (place_of p)) w.words in
        moved_sound rows at e (treats_asked at w.kernel p r.asks (given r.asks r.words)) (record w { controls = slice_set w.controls (place_of p) r.control; words = r.words })
        (asked_sound short at w.kernel h p r.asks r.words (ticked_within (control_at w.controls (place_of p)) w.words).array)

    due_sound : (w : World C) → IsSoundKernel rows w.kernel → IsSoundKernel rows (due_phase e at w).world.kernel
    due_sound w h =
        let t = partition.treats_due at w.kernel in
        let v = (treating_phase e at w).world in
        moved_sound rows at e (then_clears v.kernel t.clears) v (then_clears_sound rows v.kernel t.clears
        (moved_sound rows at e (of_processes w.kernel t.step) w (record { holding = h.holding; processes = due_from_sound at _ _ 0 _ w.kernel.processes h.processes })))

    prepares_sound : (w : World C) → IsSoundKernel rows w.kernel → IsSoundKernel rows (prepares e at w).world.kernel
    prepares_sound w h =
        let v = (due_phase e at w).world in
        moved_sound rows at e (chooses_with_handler v.kernel) v (choice_sound v.kernel (due_sound w h))

    -- What is due, the choice, and the tick of the chosen runner.
    pub tick_sound : (w : World C) → IsSoundKernel rows w.kernel → IsSoundKernel rows (tick e at w).world.kernel
    tick_sound w h =
        let v = (prepares e at w).world in
        chosen_sound v.kernel.processes.running v (prepares_sound w h)
