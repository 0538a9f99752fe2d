-- Whoever holds the preemption lock by the lines holds it in the kernel: errors, the mode, what is due, the choice, and what a runner asks for.
use Rattle.std.proofs.Common.{◌≡◌, ℕ, zero, suc, ℤ, pos, Bool, true, false, not, List, [], ◌∷◌, map, Option, Some, None, refl, sym, ap, ◌∙◌, subst}
use Rattle.std.specs.Prelude.{◌+◌, ◌&&◌, slice_get, if◌then◌else◌, is_some, nat_le}
use Rattle.std.specs.Ordering.{int_eq}
use Rattle.std.proofs.lemmas.Bool.{false≢true}
use Rattle.std.proofs.lemmas.Option.{none-some, same_Some}
use Rattle.apex_types.specs.Runners.{Action, place_of}
use Rattle.apex_types.specs.declared.codes.ErrorKind.{ErrorKind}
use Rattle.apex_types.specs.declared.codes.ErrorKind.TheVariants as error
use Rattle.apex_types.specs.declared.codes.Mode.{Mode}
use Rattle.apex_types.specs.declared.codes.Mode.TheVariants as mode
use Rattle.apex_types.specs.declared.codes.PartitionAction.{PartitionAction}
use Rattle.apex_types.specs.declared.codes.PartitionAction.TheVariants as action
use Rattle.apex_types.specs.declared.codes.ProcessState.TheVariants.{Ready, Running}
use Rattle.apex_types.specs.declared.codes.Response.{Response}
use Rattle.apex_types.specs.declared.codes.Response.TheVariants as response
use Rattle.apex_types.specs.declared.codes.ReturnCode.TheVariants as code
use Rattle.apex_types.specs.declared.codes.StartCondition.{StartCondition}
use Rattle.apex_types.specs.declared.codes.StartCondition.TheVariants as condition
use Rattle.apex_types.specs.declared.event.Subject.TheVariants.{Init}
use Rattle.apex_types.specs.declared.identity.At.{At}
use Rattle.apex_types.specs.declared.identity.ProcessIndex.{ProcessIndex}
use Rattle.apex_types.specs.declared.identity.Runner.{Runner}
use Rattle.apex_types.specs.declared.identity.Runner.TheVariants as runner
use Rattle.apex_types.specs.declared.limits.TheConstants.{MOST_REPORT_WORDS}
use Rattle.apex_types.specs.declared.process.Due.{Due}
use Rattle.apex_types.specs.declared.process.Due.TheVariants as due_time
use Rattle.apex_types.specs.declared.process.Lock.TheVariants as lock
use Rattle.apex_types.specs.declared.process.ProcessStatus.{ProcessStatus}
use Rattle.apex_types.specs.declared.process.Wait.{Wait}
use Rattle.apex_types.specs.declared.process.Wait.TheVariants as wait
use Rattle.apex_types.specs.declared.process.WaitingError.{WaitingError}
use Rattle.apex_types.specs.declared.service.ArrayPlace.{ArrayPlace}
use Rattle.apex_types.specs.declared.service.Call.{Call}
use Rattle.apex_types.specs.declared.service.Call.TheVariants as call
use Rattle.apex_types.specs.declared.service.Service.TheVariants as service
use Rattle.engine_meaning.specs.Engine.{Asks, Nothing, Calls, Faults, Ends}
use Rattle.kernel_laws.proofs.Places.{mapped}
use Rattle.kernel_meaning.specs.HealthServices.{acts_on_error, action_of, begins_if_dormant, breaks, create_error_handler, creates_found, faults, free_places, get_error_status, handles, ignores, is_fault, is_handler_created, is_message_length, is_waiting, leaves_none, raises, raises_application_error, report, response_of, starts_handler, takes_error, tells_error, then_acts, then_clears, waits_or_leaves}
use Rattle.kernel_meaning.specs.Kernel.{Errors, Kernel, of_processes, with_errors, with_objects, with_ports}
use Rattle.kernel_meaning.specs.Partition.{are_same, chooses, chooses_with_handler, leaves_processor, pick, preempts, runs, serves, takes_processor, treats_asked, treats_due}
use Rattle.kernel_meaning.specs.PartitionServices.{clears, ends_body, enters_normal, forgotten, is_cold, is_warm, mode_of, next_release_of, ready_init, set_partition_mode, starts_normally, wants}
use Rattle.kernel_meaning.specs.PartitionServices as services
use Rattle.kernel_meaning.specs.Processes.{Processes, answers, index, is_dormant, is_normal, is_same, put_row, refuses, rests_found, row_of, subject, zeros_of_wait}
use Rattle.kernel_meaning.specs.ProcessServices.{number_of}
use Rattle.kernel_meaning.specs.Sharing as sharing
use Rattle.kernel_meaning.specs.Sharing.{Sharing, is_large_enough}
use Rattle.kernel_meaning.specs.Step.{Step, after, first_words, lifted, nothing}
use Rattle.kernel_meaning.specs.Times as times
use Rattle.kernel_meaning.specs.Times.{Treated, due_from, ends_wait, is_past, misses, mode_of_action, released_at, start_all_waiting, then_others, tick_of, timed_out, treats, treats_deadline}
use Rattle.state_laws.specs.Locks.{Held}
use Rattle.state_laws.specs.Told.{first_told, with_state}
use Rattle.state_laws.proofs.Clears.{idle_agrees, started_agrees}
use Rattle.state_laws.proofs.LockSteps.{Fits, FitsIn, LockGoes, all_lock, lock_both, lock_either, lock_here, lock_in_turn, lock_released_with, lock_rests_found, lock_set, lock_wakes, waits_on_lock}
use Rattle.state_laws.proofs.LockServices.{MayCall, lock_create_process, lock_delayed_start, lock_get_my_id, lock_get_process_id, lock_get_process_status, lock_lock_preemption, lock_periodic_wait, lock_replenish, lock_resume, lock_set_priority, lock_start, lock_start_all, lock_stop, lock_stop_self, lock_suspend, lock_suspend_self, lock_timed_wait, lock_unlock_preemption}
use Rattle.state_laws.proofs.LockObjects.{lock_objects, lock_ports}

-- the step of the processes in it
abbrev pub LocksIn : Option Held → Step Kernel → Type 0
LocksIn o s = LockGoes o (lifted (λ (k : Kernel). k.processes) s)

-- ---- Clear

-- no record waits in a service on the lock
abbrev pub AreFree : List ProcessStatus → Type 0
AreFree rows = (i : ℕ) (r : ProcessStatus) → slice_get rows i ≡ Some r → waits_on_lock r.wait ≡ false

forgotten_free : (rows : List ProcessStatus) → AreFree (map forgotten rows)
forgotten_free rows i r e = let m = mapped forgotten rows i r e in ap (λ (x : ProcessStatus). waits_on_lock x.wait) (sym m.2)

started_free : (rows : List ProcessStatus) → AreFree (ready_init (slice_get (map forgotten rows) 0) (map forgotten rows))
started_free [] i r e = absurd (none-some r e)
started_free (x ∷ xs) zero r e = ap (λ (y : ProcessStatus). waits_on_lock y.wait) (sym (same_Some (record (forgotten x) { state = Ready }) r e))
started_free (x ∷ xs) (suc i) r e = forgotten_free (x ∷ xs) (suc i) r e

-- a mode that a Clear may lead to, if it is one
abbrev pub IsOther : Option Mode → Type 0
IsOther None = Unit {0}
IsOther (Some m) = is_normal m ≡ false

by_action : (a : PartitionAction) → IsOther (mode_of_action a)
by_action action.Ignore = tt
by_action action.Idle = refl
by_action action.WarmStart = refl
by_action action.ColdStart = refl

module _ (o : Option Held) (k : Kernel) (h : FitsIn o k.processes) where
  started : Fits None (ready_init (slice_get (map forgotten k.processes.rows) 0) (map forgotten k.processes.rows)) lock.Free
  started = let a = started_agrees k.processes.rows h.named (with_state Init Ready first_told) (λ w. refl) refl in record { named = a.named; waits = started_free k.processes.rows; holder = tt; held = refl }

  pub lock_clears : (m : Mode) (c : StartCondition) → is_normal m ≡ false → LocksIn o (clears k m c)
  lock_clears mode.Idle c n = let a = idle_agrees k.processes.rows h.named first_told (λ w. refl) refl in record { fits = record { named = a.named; waits = forgotten_free k.processes.rows; holder = tt; held = refl } }
  lock_clears mode.ColdStart c n = record { fits = started }
  lock_clears mode.WarmStart c n = record { fits = started }
  lock_clears mode.Normal c n = absurd (false≢true (sym n))

  lock_still : (actions : List Action) → LocksIn o (record { part = k; lines = []; actions = actions })
  lock_still actions = record { fits = h }

  either : (b : Bool) (s u : Step Kernel) → LocksIn o s → LocksIn o u → LocksIn o (if b then s else u)
  either true s u g l = g
  either false s u g l = l

  of_lock : (s : Step Processes) → LockGoes o s → LocksIn o (of_processes k s)
  of_lock s g = record { fits = g.fits }

  -- ---- errors

  lock_ignores : (p : Runner) (e : ErrorKind) → LocksIn o (ignores k p e)
  lock_ignores runner.Init e = either (is_fault e) _ _ (lock_clears mode.Idle condition.HmPartitionRestart refl) (lock_still [])
  lock_ignores runner.Handler e = lock_still []
  lock_ignores (runner.Process i) e = lock_still []

  lock_acts : (p : Runner) (e : ErrorKind) (a : PartitionAction) → LocksIn o (acts_on_error k p e (Some a))
  lock_acts p e action.Ignore = lock_ignores p e
  lock_acts p e action.Idle = lock_clears mode.Idle condition.HmPartitionRestart refl
  lock_acts p e action.WarmStart = lock_clears mode.WarmStart condition.HmPartitionRestart refl
  lock_acts p e action.ColdStart = lock_clears mode.ColdStart condition.HmPartitionRestart refl

  pub lock_handles : (p : Runner) (e : ErrorKind) (words : List ℤ) → LocksIn o (handles k p e words)
  lock_handles p e words = by_response (response_of k.fixed.health k.mode (with_errors k) p e)
    where
      by_handler : (q : Runner) → LocksIn o (then_acts k q e (after (tells_error None e (Some (subject k.processes p)) response.Handler) (waits_or_leaves q e words response.Handler)))
      by_handler runner.Init = record { fits = h }
      by_handler runner.Handler = record { fits = h }
      by_handler (runner.Process i) = record { fits = h }

      by_response : (r : Response) → LocksIn o (then_acts k p e (after (tells_error None e (Some (subject k.processes p)) r) (waits_or_leaves p e words r)))
      by_response response.Handler = by_handler p
      by_response (response.Partition a) = let g = lock_acts p e a in record { fits = g.fits }
      by_response (response.Module a) = record { fits = h }

  pub lock_then_clears : (m : Option Mode) → IsOther m → LocksIn o (then_clears k m)
  lock_then_clears None n = lock_still []
  lock_then_clears (Some m) n = lock_clears m condition.HmPartitionRestart n

  pub lock_breaks : LocksIn o (breaks k)
  lock_breaks = let a = action_of k.fixed.health error.HardwareFault in let g = lock_then_clears (mode_of_action a) (by_action a) in record { fits = g.fits }

module _ (o : Option Held) where
  kernel_in_turn : (s u : Step Kernel) → LocksIn o s → LocksIn (all_lock o s.lines) u → LocksIn o (after s u)
  kernel_in_turn s u h k = record { fits = subst (λ (x : Option Held). FitsIn x u.part.processes) (sym (lock_both o s.lines u.lines)) k.fits }

module _ (o : Option Held) (k : Kernel) (h : FitsIn o k.processes) where
  abbrev Holds : Step Kernel → Type 0
  Holds s = LocksIn o s

  lock_faults : (p : Runner) (e : ErrorKind) → Holds (faults k p e)
  lock_faults p e =
      let s = of_processes k (rests_found k.processes p (row_of k.processes p)) in
      let r = lock_rests_found o k.processes h p in
      kernel_in_turn o s (handles s.part p e []) (record { fits = r.fits }) (lock_handles (all_lock o s.lines) s.part r.fits p e [])

  -- an error that the program raises
  lock_raise : (p : Runner) (e : ℤ) (array : ArrayPlace) (size : ℤ) (words : List ℤ) → Holds (raises_application_error k p e array size words)
  lock_raise p e array size words = by_tests (not (int_eq e (pos 1))) (not (is_message_length array.size size))
    where
      refused : Step (Option PartitionAction)
      refused = leaves_none (refuses k.processes p service.RaiseApplicationError code.InvalidParam)

      raising : Step (Option PartitionAction)
      raising =
          after (leaves_none (answers k.processes p service.RaiseApplicationError code.NoError []))
          (raises k.fixed.health k.mode (with_errors k) p error.ApplicationError (first_words size words))

      by_tests : (b c : Bool) → Holds (then_acts k p error.ApplicationError (if b then refused else if c then refused else raising))
      by_tests true c = record { fits = h }
      by_tests false true = record { fits = h }
      by_tests false false = let g = lock_handles o k h p error.ApplicationError (first_words size words) in record { fits = g.fits }

  -- ---- the mode

  lock_normally : (at : At) → Holds (starts_normally at k)
  lock_normally at =
      let i = of_processes k (rests_found k.processes runner.Init (row_of k.processes runner.Init)) in
      let r = lock_rests_found o k.processes h runner.Init in
      let n = enters_normal i.part in
      let s = start_all_waiting at (next_release_of at k) n.part.processes in
      let g = lock_start_all at (next_release_of at k) (all_lock o i.lines) n.part.processes r.fits in
      kernel_in_turn o i (after n (of_processes n.part s)) (record { fits = r.fits }) (record { fits = g.fits })

  lock_enters : (at : At) (m : Option Mode) → Holds (services.enters_mode at k m)
  lock_enters at None = lock_still o k h []
  lock_enters at (Some mode.Normal) = lock_normally at
  lock_enters at (Some mode.Idle) = lock_clears o k h mode.Idle condition.PartitionRestart refl
  lock_enters at (Some mode.ColdStart) = lock_clears o k h mode.ColdStart condition.PartitionRestart refl
  lock_enters at (Some mode.WarmStart) = lock_clears o k h mode.WarmStart condition.PartitionRestart refl

  lock_set_mode : (at : At) (p : Runner) (m : ℤ) → Holds (set_partition_mode at k p m)
  lock_set_mode at p m =
      either o k h (not (is_some (mode_of m))) _ _ (record { fits = h })
      (either o k h (wants is_normal (mode_of m) && is_normal k.mode) _ _ (record { fits = h })
      (either o k h (wants is_warm (mode_of m) && is_cold k.mode) _ (after (of_processes k (answers k.processes p service.SetPartitionMode code.NoError [])) (services.enters_mode at k (mode_of m))) (record { fits = h })
      (let g = lock_enters at (mode_of m) in record { fits = g.fits })))

  lock_ends_body : (p : Runner) → Holds (ends_body k p)
  lock_ends_body runner.Init = lock_clears o k h mode.Idle condition.PartitionRestart refl
  lock_ends_body runner.Handler = of_lock o k h _ (lock_stop_self o k.processes h runner.Handler)
  lock_ends_body (runner.Process i) = of_lock o k h _ (lock_stop_self o k.processes h (runner.Process i))

  -- ---- the services on errors

  module _ (p : Runner) where
    abbrev Shares : Step (Sharing Errors) → Type 0
    Shares s = LockGoes o (lifted (λ (x : Sharing Errors). x.processes) s)

    either_shared : (b : Bool) (s u : Step (Sharing Errors)) → Shares s → Shares u → Shares (if b then s else u)
    either_shared true s u g l = g
    either_shared false s u g l = l

    lock_creates : (r : Option ProcessStatus) → row_of k.processes runner.Handler ≡ r → LockGoes o (creates_found k.processes runner.Handler r)
    lock_creates None there = record { fits = h }
    lock_creates (Some r) there = record { fits = lock_set o k.processes h runner.Handler r (record r { created = true }) there refl (h.waits (place_of runner.Handler) r there) }

    lock_create_handler : Shares (create_error_handler k.mode (with_errors k) p)
    lock_create_handler =
        let c = lock_creates (row_of k.processes runner.Handler) refl in
        either_shared (is_normal k.mode) _ _ (record { fits = h }) (either_shared (not k.errors.has_handler) _ _ (record { fits = h }) (either_shared (is_handler_created k.processes) _
        (after (sharing.answers (with_errors k) p service.CreateErrorHandler code.NoError []) (sharing.of_processes (with_errors k) (creates_found k.processes runner.Handler (row_of k.processes runner.Handler))))
        (record { fits = h }) (record { fits = c.fits })))

    lock_takes_error : (array : ArrayPlace) (es : List WaitingError) → Shares (takes_error (with_errors k) p array es)
    lock_takes_error array [] = record { fits = h }
    lock_takes_error array (e ∷ es) = record { fits = h }

    lock_error_status : (array : ArrayPlace) → Shares (get_error_status (with_errors k) p array)
    lock_error_status array =
        either_shared (not (is_same p runner.Handler)) _ _ (record { fits = h }) (either_shared (not (is_large_enough MOST_REPORT_WORDS array)) _ _ (record { fits = h }) (lock_takes_error array k.errors.waiting))

    lock_reports : (array : ArrayPlace) (size : ℤ) (words : List ℤ) → LockGoes o (report k.processes p array size words)
    lock_reports array size words = lock_either o (not (is_message_length array.size size)) _ _ (record { fits = h }) (record { fits = h })

    -- ---- what the current runner asks for

    module _ (may : MayCall k.mode k.processes p) where
      lock_serves : (at : At) (c : Call) (words : List ℤ) → Holds (serves at k p c words)
      lock_serves at call.GetPartitionStatus words = record { fits = h }
      lock_serves at (call.SetPartitionMode m) words = lock_set_mode at p m
      lock_serves at call.StopSelf words = lock_ends_body p
      lock_serves at (call.ReportApplicationMessage array size) words = of_lock o k h _ (lock_reports array size words)
      lock_serves at call.CreateErrorHandler words = let g = lock_create_handler in record { fits = g.fits }
      lock_serves at (call.GetErrorStatus array) words = let g = lock_error_status array in record { fits = g.fits }
      lock_serves at (call.RaiseApplicationError e array size) words = lock_raise p e array size words
      lock_serves at (call.GetProcessId name) words = of_lock o k h _ (lock_get_process_id o k.processes h p name)
      lock_serves at (call.GetProcessStatus id) words = of_lock o k h _ (lock_get_process_status o k.processes h p id)
      lock_serves at (call.CreateProcess name) words = of_lock o k h _ (lock_create_process o k.processes h p k.mode name)
      lock_serves at (call.SetPriority id v) words = of_lock o k h _ (lock_set_priority o k.processes h p id v)
      lock_serves at (call.SuspendSelf limit) words = of_lock o k h _ (lock_suspend_self o k.processes h p at limit)
      lock_serves at (call.Suspend id) words = of_lock o k h _ (lock_suspend o k.processes h p id)
      lock_serves at (call.Resume id) words = of_lock o k h _ (lock_resume o k.processes h p id)
      lock_serves at (call.Stop id) words = of_lock o k h _ (lock_stop o k.processes h p id)
      lock_serves at (call.Start id) words = of_lock o k h _ (lock_start o k.processes h p k.mode at (next_release_of at k) id)
      lock_serves at (call.DelayedStart id delay) words = of_lock o k h _ (lock_delayed_start o k.processes h p k.mode at (next_release_of at k) id delay)
      lock_serves at call.LockPreemption words = of_lock o k h _ (lock_lock_preemption o k.processes h p k.mode may)
      lock_serves at call.UnlockPreemption words = of_lock o k h _ (lock_unlock_preemption o k.processes h p k.mode)
      lock_serves at call.GetMyId words = of_lock o k h _ (lock_get_my_id o k.processes h p (number_of p))
      lock_serves at (call.TimedWait delay) words = of_lock o k h _ (lock_timed_wait o k.processes h p at delay)
      lock_serves at call.PeriodicWait words = of_lock o k h _ (lock_periodic_wait o k.processes h p)
      lock_serves at call.GetTime words = record { fits = h }
      lock_serves at (call.Replenish budget) words = of_lock o k h _ (lock_replenish o k.processes h p k.mode at budget)
      lock_serves at (call.Object c) words = let g = lock_objects o (with_objects k) h p k.mode at c words in record { fits = g.fits }
      lock_serves at (call.Port c) words = let g = lock_ports o (with_ports k) h p k.mode at c words in record { fits = g.fits }

      pub lock_asked : (at : At) (a : Asks) (words : List ℤ) → Holds (treats_asked at k p a words)
      lock_asked at Nothing words = lock_still o k h []
      lock_asked at (Calls c) words = lock_serves at c words
      lock_asked at (Faults e) words = lock_faults p e
      lock_asked at Ends words = lock_ends_body p

-- ---- what is due

module _ (o : Option Held) (s : Processes) (h : FitsIn o s) where
  timed_who : (r : ProcessStatus) (w : Wait) → (timed_out r w).who ≡ r.who
  timed_who r (wait.Service service.SuspendSelf) = refl
  timed_who r _ = refl

  timed_wait : (r : ProcessStatus) (w : Wait) → (timed_out r w).wait ≡ r.wait
  timed_wait r (wait.Service service.SuspendSelf) = refl
  timed_wait r _ = refl

  lock_ends : (p : Runner) (r : ProcessStatus) (d : Due) → row_of s p ≡ Some r → LockGoes o (ends_wait s p r d)
  lock_ends p r (due_time.Release at) there = lock_released_with o s h p r (released_at at r) _ (zeros_of_wait r.wait) there refl (h.waits (place_of p) r there)
  lock_ends p r (due_time.Delay at) there = lock_released_with o s h p r r _ (zeros_of_wait r.wait) there refl (h.waits (place_of p) r there)
  lock_ends p r (due_time.TimeOut at) there =
      lock_released_with o s h p r (timed_out r r.wait) _ (zeros_of_wait (timed_out r r.wait).wait) there (timed_who r r.wait) (ap waits_on_lock (timed_wait r r.wait) ∙ h.waits (place_of p) r there)

  lock_due : (at : At) (p : Runner) (r : ProcessStatus) (d : Option Due) → row_of s p ≡ Some r → LockGoes o (times.treats_due at s p r d)
  lock_due at p r None there = lock_here o s h
  lock_due at p r (Some d) there = lock_either o (nat_le (tick_of d) at.now.0) _ _ (lock_ends p r d there) (lock_here o s h)

  lock_misses : (free : ℕ) (a : PartitionAction) (i : ProcessIndex) (r : ProcessStatus) → row_of s (runner.Process i) ≡ Some r → LockGoes o (misses free a s i r).step
  lock_misses free a i r there = by_free free
    where
      set : FitsIn o (put_row s (runner.Process i) (record r { deadline = None }))
      set = lock_set o s h (runner.Process i) r (record r { deadline = None }) there refl (h.waits (place_of (runner.Process i)) r there)

      by_free : (n : ℕ) → LockGoes o (misses n a s i r).step
      by_free (suc n) = record { fits = set }
      by_free zero = record { fits = set }

  lock_deadline : (at : At) (free : ℕ) (a : PartitionAction) (i : ProcessIndex) → LockGoes o (treats_deadline at free a s i (row_of s (runner.Process i))).step
  lock_deadline at free a i = by_row (row_of s (runner.Process i)) refl
    where
      by_test : (b : Bool) (r : ProcessStatus) → row_of s (runner.Process i) ≡ Some r → LockGoes o (if b then misses free a s i r else times.without_clear free (nothing s)).step
      by_test true r e = lock_misses free a i r e
      by_test false r e = lock_here o s h

      by_row : (y : Option ProcessStatus) → row_of s (runner.Process i) ≡ y → LockGoes o (treats_deadline at free a s i y).step
      by_row None e = lock_here o s h
      by_row (Some r) e = by_test (is_past at.now.0 r.deadline) r e

lock_treats : (at : At) (free : ℕ) (a : PartitionAction) (o : Option Held) (s : Processes) (i : ProcessIndex) → FitsIn o s → LockGoes o (treats at free a s i (row_of s (runner.Process i))).step
lock_treats at free a o s i h = by_row (row_of s (runner.Process i)) refl
  where
    by_row : (y : Option ProcessStatus) → row_of s (runner.Process i) ≡ y → LockGoes o (treats at free a s i y).step
    by_row None e = lock_here o s h
    by_row (Some r) e =
        let d = times.treats_due at s (runner.Process i) r r.due in
        let g = lock_due o s h at (runner.Process i) r r.due e in
        lock_in_turn o d (treats_deadline at free a d.part i (row_of d.part (runner.Process i))).step g (lock_deadline (all_lock o d.lines) d.part g.fits at free a i)

lock_others : (o : Option Held) (t others : Treated) → LockGoes o t.step → LockGoes (all_lock o t.step.lines) others.step → LockGoes o (then_others t others).step
lock_others o t others h k = by_test (is_some t.clears)
  where
    by_test : (b : Bool) → LockGoes o (if b then t else times.treated_after t.step others).step
    by_test true = h
    by_test false = lock_in_turn o t.step others.step h k

lock_due_from : (at : At) (a : PartitionAction) (n place free : ℕ) (o : Option Held) (s : Processes) → FitsIn o s → LockGoes o (due_from at a n place free s).step
lock_due_from at a zero place free o s h = lock_here o s h
lock_due_from at a (suc n) place free o s h =
    let t = treats at free a s (index place) (row_of s (runner.Process (index place))) in
    let g = lock_treats at free a o s (index place) h in
    lock_others o t (due_from at a n (place + 1) t.free t.step.part) g (lock_due_from at a n (place + 1) t.free (all_lock o t.step.lines) t.step.part g.fits)

pub lock_treats_due : (at : At) (o : Option Held) (k : Kernel) → FitsIn o k.processes → LockGoes o (treats_due at k).step
lock_treats_due at o k h = lock_due_from at (action_of k.fixed.health error.DeadlineMissed) _ 0 (free_places k.mode (with_errors k)) o k.processes h

-- the mode that a missed deadline leads to
misses_other : (free : ℕ) (a : PartitionAction) (s : Processes) (i : ProcessIndex) (r : ProcessStatus) → IsOther (misses free a s i r).clears
misses_other (suc free) a s i r = tt
misses_other zero a s i r = by_action a

deadline_other : (at : At) (free : ℕ) (a : PartitionAction) (s : Processes) (i : ProcessIndex) (y : Option ProcessStatus) → IsOther (treats_deadline at free a s i y).clears
deadline_other at free a s i None = tt
deadline_other at free a s i (Some r) = by_test (is_past at.now.0 r.deadline)
  where
    by_test : (b : Bool) → IsOther (if b then misses free a s i r else times.without_clear free (nothing s)).clears
    by_test true = misses_other free a s i r
    by_test false = tt

treats_other : (at : At) (free : ℕ) (a : PartitionAction) (s : Processes) (i : ProcessIndex) (y : Option ProcessStatus) → IsOther (treats at free a s i y).clears
treats_other at free a s i None = tt
treats_other at free a s i (Some r) = let d = times.treats_due at s (runner.Process i) r r.due in deadline_other at free a d.part i (row_of d.part (runner.Process i))

others_other : (t others : Treated) → IsOther t.clears → IsOther others.clears → IsOther (then_others t others).clears
others_other t others h k = by_test (is_some t.clears)
  where
    by_test : (b : Bool) → IsOther (if b then t else times.treated_after t.step others).clears
    by_test true = h
    by_test false = k

due_other : (at : At) (a : PartitionAction) (n place free : ℕ) (s : Processes) → IsOther (due_from at a n place free s).clears
due_other at a zero place free s = tt
due_other at a (suc n) place free s =
    let t = treats at free a s (index place) (row_of s (runner.Process (index place))) in
    others_other t (due_from at a n (place + 1) t.free t.step.part) (treats_other at free a s (index place) (row_of s (runner.Process (index place)))) (due_other at a n (place + 1) t.free t.step.part)

pub treats_due_other : (at : At) (k : Kernel) → IsOther (treats_due at k).clears
treats_due_other at k = due_other at (action_of k.fixed.health error.DeadlineMissed) _ 0 (free_places k.mode (with_errors k)) k.processes

-- ---- the choice

module _ (o : Option Held) (s : Processes) (h : FitsIn o s) where
  lock_leaves : (p : Option Runner) → LockGoes o (leaves_processor s p)
  lock_leaves None = lock_here o s h
  lock_leaves (Some p) = by_row (row_of s p) refl
    where
      by_row : (y : Option ProcessStatus) → row_of s p ≡ y → LockGoes o (preempts s p y)
      by_row None e = lock_here o s h
      by_row (Some r) e = record { fits = lock_set o s h p r (record r { state = Ready }) e refl (h.waits (place_of p) r e) }

  lock_takes : (p : Option Runner) → LockGoes o (takes_processor s p)
  lock_takes None = lock_here o s h
  lock_takes (Some p) = by_row (row_of s p) refl
    where
      by_row : (y : Option ProcessStatus) → row_of s p ≡ y → LockGoes o (runs s p y)
      by_row None e = lock_here o s h
      by_row (Some r) e = record { fits = lock_set o s h p r (record r { state = Running }) e refl (h.waits (place_of p) r e) }

  lock_begins : (y : Option ProcessStatus) → row_of s runner.Handler ≡ y → LockGoes o (begins_if_dormant s y)
  lock_begins None e = lock_here o s h
  lock_begins (Some r) e = lock_either o (r.created && is_dormant r) _ _ (let g = lock_wakes o s h runner.Handler r r e refl in record { fits = g.fits }) (lock_here o s h)

lock_chooses : (m : Mode) (o : Option Held) (s : Processes) → FitsIn o s → LockGoes o (chooses m s)
lock_chooses m o s h =
    let l = leaves_processor s s.running in
    let g = lock_leaves o s h s.running in
    lock_either o (are_same s.running (pick m s)) _ _ (lock_here o s h) (lock_in_turn o l (takes_processor l.part (pick m s)) g (lock_takes (all_lock o l.lines) l.part g.fits (pick m s)))

pub lock_choice : (o : Option Held) (k : Kernel) → FitsIn o k.processes → LocksIn o (chooses_with_handler k)
lock_choice o k h =
    let s = starts_handler k.mode (with_errors k) in
    let a : LockGoes o s = lock_either o (is_normal k.mode && is_waiting k.errors.waiting) _ _ (lock_begins o k.processes h (row_of k.processes runner.Handler) refl) (lock_here o k.processes h) in
    let c = lock_in_turn o s (chooses k.mode s.part) a (lock_chooses k.mode (all_lock o s.lines) s.part a.fits) in
    record { fits = c.fits }
