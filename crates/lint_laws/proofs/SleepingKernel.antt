-- No step of the kernel touches a process that is not created, unless it serves a call that creates it.
use Rattle.std.proofs.Common.{◌≡◌, ℕ, zero, suc, ℤ, Bool, true, false, not, List, [], ◌∷◌, length, map, nat_eq, Option, Some, None, refl, sym, ap, ◌∙◌, subst, arith}
use Rattle.std.specs.Prelude.{◌+◌, ◌-◌, ◌&&◌, if◌then◌else◌, is_some, nat_le, slice_get}
use Rattle.std.proofs.lemmas.Bool.{eqb-true, eqb-false, false≢true}
use Rattle.apex_types.specs.declared.codes.ErrorKind.{ErrorKind}
use Rattle.apex_types.specs.declared.codes.ErrorKind.TheVariants as error
use Rattle.apex_types.specs.declared.codes.Mode.{Mode}
use Rattle.apex_types.specs.declared.codes.Mode.TheVariants as mode
use Rattle.apex_types.specs.declared.codes.PartitionAction.{PartitionAction}
use Rattle.apex_types.specs.declared.codes.ProcessState.TheVariants.{Ready, Running}
use Rattle.apex_types.specs.declared.codes.Response.{Response}
use Rattle.apex_types.specs.declared.codes.Response.TheVariants as response
use Rattle.apex_types.specs.declared.codes.ReturnCode.TheVariants as code
use Rattle.apex_types.specs.declared.codes.StartCondition.{StartCondition}
use Rattle.apex_types.specs.declared.codes.StartCondition.TheVariants as condition
use Rattle.apex_types.specs.declared.identity.At.{At}
use Rattle.apex_types.specs.declared.identity.ProcessIndex.{ProcessIndex}
use Rattle.apex_types.specs.declared.identity.Runner.{Runner}
use Rattle.apex_types.specs.declared.identity.Runner.TheVariants as runner
use Rattle.apex_types.specs.declared.process.Due.{Due}
use Rattle.apex_types.specs.declared.process.Due.TheVariants as due_time
use Rattle.apex_types.specs.declared.process.ProcessStatus.{ProcessStatus}
use Rattle.apex_types.specs.declared.process.Wait.{Wait}
use Rattle.apex_types.specs.declared.process.Wait.TheVariants as wait
use Rattle.apex_types.specs.declared.process.WaitingError.{WaitingError}
use Rattle.apex_types.specs.declared.service.ArrayPlace.{ArrayPlace}
use Rattle.apex_types.specs.declared.service.Call.{Call}
use Rattle.apex_types.specs.declared.service.Call.TheVariants as call
use Rattle.apex_types.specs.declared.service.Service.TheVariants as service
use Rattle.engine_meaning.specs.Engine.{Asks, Nothing, Calls, Faults, Ends}
use Rattle.kernel_laws.specs.Agreement.{RecordsAgree}
use Rattle.kernel_laws.specs.OrderLaw.{chosen_among}
use Rattle.kernel_laws.proofs.RecordChoice.{runs_ready, picked_ready}
use Rattle.kernel_laws.proofs.RecordKernel.{handler_agrees}
use Rattle.kernel_laws.proofs.RecordRows.{IsCaller}
use Rattle.kernel_meaning.specs.HealthServices.{report, is_message_length, create_error_handler, creates_found, is_handler_created, get_error_status, takes_error, starts_handler, begins_if_dormant, is_waiting, raises, waits_or_leaves, queues, response_of, raise_application_error, ignores, is_fault, enters_mode, acts_on_error, then_acts, handles, faults, then_clears, breaks, action_of}
use Rattle.kernel_meaning.specs.Kernel.{Errors, Kernel, of_processes, with_errors, with_objects, with_ports}
use Rattle.kernel_meaning.specs.Partition.{preempts, runs, leaves_processor, takes_processor, are_same, chooses, chooses_with_handler, treats_due, serves, treats_asked, pick, is_ready}
use Rattle.kernel_meaning.specs.PartitionServices.{forgotten, ready_init, started_rows, cleared_processes, clears, clear_lines, next_release_of, starts_normally, mode_of, wants, is_warm, is_cold, set_partition_mode, ends_body}
use Rattle.kernel_meaning.specs.PartitionServices as services
use Rattle.kernel_meaning.specs.Processes.{Processes, row_of, index, is_normal, is_dormant, is_same, rests_found, zeros_of_wait, answers, refuses}
use Rattle.kernel_meaning.specs.ProcessServices.{number_of, is_ready_state}
use Rattle.kernel_meaning.specs.Sharing as sharing
use Rattle.kernel_meaning.specs.Sharing.{Sharing}
use Rattle.kernel_meaning.specs.Step.{Step, nothing, after, lifted}
use Rattle.kernel_meaning.specs.Times as times
use Rattle.kernel_meaning.specs.Times.{Treated, begins, ends_wait, tick_of, timed_out, released_at, misses, is_past, treats_deadline, treated_after, treats, due_from, mode_of_action, starts_if_waiting, starts_waiting, start_from, start_all_waiting}
use Rattle.lint_laws.specs.Creation.{IsNot}
use Rattle.lint_laws.proofs.Controls.{AsksAllowed}
use Rattle.kernel_laws.proofs.Places.{mapped}
use Rattle.lint_laws.proofs.Sleeping.{IsNew, IsOther, LinesAreOther, both_other, Sleeps, RowsSleep, rows_set, Keeps, either, in_turn, here, put_keeps, wakes_keeps, rests_found_keeps, released_with_keeps, absent_emptied, named_other}
use Rattle.lint_laws.proofs.SleepingObjects.{objects_keep, ports_keep}
use Rattle.lint_laws.proofs.SleepingServices.{in_normal_keeps, get_process_id_keeps, get_process_status_keeps, create_process_keeps, set_priority_keeps, suspend_self_keeps, suspend_keeps, resume_keeps, stop_keeps, start_keeps, delayed_start_keeps, lock_preemption_keeps, unlock_preemption_keeps, get_my_id_keeps, timed_wait_keeps, periodic_wait_keeps, replenish_keeps}

-- a call does not create the process at `q`
abbrev pub CreatesOther : ℕ → Call → Type 0
CreatesOther q (call.CreateProcess v) = IsNot (suc q) v
CreatesOther q _ = Unit {0}

module _ (q : ℕ) (name : List ℕ) where
  abbrev pub KernelKeeps : Step Kernel → Type 0
  KernelKeeps t = Keeps q name (lifted (λ (k : Kernel). k.processes) t)

  abbrev SleepsIn : Kernel → Type 0
  SleepsIn k = Sleeps q name k.processes

  either_kernel : (b : Bool) (t u : Step Kernel) → KernelKeeps t → KernelKeeps u → KernelKeeps (if b then t else u)
  either_kernel true t u h k = h
  either_kernel false t u h k = k

  after_kernel : (t u : Step Kernel) → KernelKeeps t → KernelKeeps u → KernelKeeps (after t u)
  after_kernel t u h k = record { part = k.part; lines = both_other q name t.lines u.lines h.lines k.lines }

  -- ---- Clear

  forgotten_sleep : (rows : List ProcessStatus) → RowsSleep q name rows → RowsSleep q name (map forgotten rows)
  forgotten_sleep rows h = record {
    own = λ r e. let m = mapped forgotten rows (suc (suc q)) r e in subst IsNew m.2 (record { created = refl; state = refl; waits = refl; due = refl; deadline = refl });
    others = λ place r n e. let m = mapped forgotten rows place r e in λ k. h.others place m.0 n m.1 (ap (λ (x : ProcessStatus). x.who) m.2 ∙ k);
  }

  init_sleep : (rows : List ProcessStatus) → RowsSleep q name rows → (o : Option ProcessStatus) → slice_get rows 0 ≡ o → RowsSleep q name (ready_init o rows)
  init_sleep rows h None e = h
  init_sleep rows h (Some r) e = rows_set q name rows 0 r (record r { state = Ready }) (λ k. absurd (omega (arith, k))) e refl h

  started_sleep : (m : Mode) (rows : List ProcessStatus) → RowsSleep q name rows → RowsSleep q name (started_rows m rows)
  started_sleep mode.Idle rows h = h
  started_sleep mode.ColdStart rows h = init_sleep rows h (slice_get rows 0) refl
  started_sleep mode.WarmStart rows h = init_sleep rows h (slice_get rows 0) refl
  started_sleep mode.Normal rows h = init_sleep rows h (slice_get rows 0) refl

  pub clears_keep : (k : Kernel) (m : Mode) (c : StartCondition) → SleepsIn k → KernelKeeps (clears k m c)
  clears_keep k m c h = record { part = record { rows = started_sleep m (map forgotten k.processes.rows) (forgotten_sleep k.processes.rows h.rows); queues = absent_emptied q name k.processes.queues h.queues }; lines = lines m }
    where
      lines : (m : Mode) → LinesAreOther q name (clear_lines m)
      lines mode.Idle = (tt, tt)
      lines mode.ColdStart = (tt, ((λ e. cc), tt))
      lines mode.WarmStart = (tt, ((λ e. cc), tt))
      lines mode.Normal = (tt, ((λ e. cc), tt))

  same_kernel : (k : Kernel) → SleepsIn k → KernelKeeps (nothing k)
  same_kernel k h = record { part = h; lines = tt }

  pub then_clears_keep : (k : Kernel) (o : Option Mode) → SleepsIn k → KernelKeeps (then_clears k o)
  then_clears_keep k None h = same_kernel k h
  then_clears_keep k (Some m) h = clears_keep k m condition.HmPartitionRestart h

  pub breaks_keep : (k : Kernel) → SleepsIn k → KernelKeeps (breaks k)
  breaks_keep k h = let c = then_clears_keep k (mode_of_action (action_of k.fixed.health error.HardwareFault)) h in record { part = c.part; lines = (tt, c.lines) }

  -- ---- the normal start

  module _ (at : At) (next : ℕ) where
    if_waiting_keeps : (s : Processes) (h : Sleeps q name s) (p : Runner) (r : ProcessStatus) (w : Wait) → IsOther q name p → row_of s p ≡ Some r → Keeps q name (starts_if_waiting at next s p r w)
    if_waiting_keeps s h p r (wait.NormalStart delay) other there = in_normal_keeps q name s h at next p delay r r other there refl
    if_waiting_keeps s h p r _ other there = here q name s h [] [] tt

    starts_waiting_keeps : (s : Processes) (h : Sleeps q name s) (place : ℕ) (o : Option ProcessStatus) → row_of s (runner.Process (index place)) ≡ o → Keeps q name (starts_waiting at next s (runner.Process (index place)) o)
    starts_waiting_keeps s h place None e = here q name s h [] [] tt
    starts_waiting_keeps s h place (Some r) e = by_test (nat_eq place q) refl
      where
        by_test : (b : Bool) → nat_eq place q ≡ b → Keeps q name (starts_if_waiting at next s (runner.Process (index place)) r r.wait)
        by_test true t =
            let new = h.rows.own r (subst (λ (i : ℕ). slice_get s.rows (suc (suc i)) ≡ Some r) (eqb-true place q t) e) in
            subst (λ (w : Wait). Keeps q name (starts_if_waiting at next s (runner.Process (index place)) r w)) (sym new.waits) (here q name s h [] [] tt)
        by_test false t = if_waiting_keeps s h (runner.Process (index place)) r r.wait (λ i. eqb-false place q t (omega (arith, i))) e

    start_from_keeps : (n place : ℕ) (s : Processes) → Sleeps q name s → Keeps q name (start_from at next n place s)
    start_from_keeps zero place s h = here q name s h [] [] tt
    start_from_keeps (suc n) place s h =
        let t = starts_waiting_keeps s h place (row_of s (runner.Process (index place))) refl in
        in_turn q name _ _ t (start_from_keeps n (place + 1) _ t.part)

  normally_keeps : (at : At) (k : Kernel) → SleepsIn k → KernelKeeps (starts_normally at k)
  normally_keeps at k h =
      let i = rests_found_keeps q name k.processes h runner.Init (λ e. absurd (omega (arith, e))) in
      let s = rests_found k.processes runner.Init (row_of k.processes runner.Init) in
      let t = start_from_keeps at (next_release_of at k) (length s.part.rows - 2) 0 s.part i.part in
      record { part = t.part; lines = both_other q name s.lines _ i.lines (tt, t.lines) }

  enters_keeps : (at : At) (k : Kernel) (o : Option Mode) → SleepsIn k → KernelKeeps (services.enters_mode at k o)
  enters_keeps at k None h = same_kernel k h
  enters_keeps at k (Some mode.Normal) h = normally_keeps at k h
  enters_keeps at k (Some mode.Idle) h = clears_keep k mode.Idle condition.PartitionRestart h
  enters_keeps at k (Some mode.ColdStart) h = clears_keep k mode.ColdStart condition.PartitionRestart h
  enters_keeps at k (Some mode.WarmStart) h = clears_keep k mode.WarmStart condition.PartitionRestart h

  set_mode_keeps : (at : At) (k : Kernel) (p : Runner) (m : ℤ) → SleepsIn k → KernelKeeps (set_partition_mode at k p m)
  set_mode_keeps at k p m h =
      let refused : (c : _) → KernelKeeps (of_processes k (refuses k.processes p service.SetPartitionMode c)) = λ c. record { part = h; lines = (tt, tt) } in
      let done = enters_keeps at k (mode_of m) h in
      either_kernel (not (is_some (mode_of m))) _ _ (refused code.InvalidParam) (either_kernel (wants is_normal (mode_of m) && is_normal k.mode) _ _ (refused code.NoAction) (either_kernel (wants is_warm (mode_of m) && is_cold k.mode) _ _ (refused code.InvalidMode)
      (after_kernel (of_processes k (answers k.processes p service.SetPartitionMode code.NoError [])) (services.enters_mode at k (mode_of m)) (record { part = h; lines = (tt, tt) }) done)))

  pub ends_body_keeps : (k : Kernel) (p : Runner) → IsOther q name p → SleepsIn k → KernelKeeps (ends_body k p)
  ends_body_keeps k runner.Init other h = clears_keep k mode.Idle condition.PartitionRestart h
  ends_body_keeps k runner.Handler other h = let r = rests_found_keeps q name k.processes h runner.Handler other in record { part = r.part; lines = r.lines }
  ends_body_keeps k (runner.Process p) other h = let r = rests_found_keeps q name k.processes h (runner.Process p) other in record { part = r.part; lines = r.lines }

  -- ---- errors

  ignores_keeps : (k : Kernel) (p : Runner) (e : ErrorKind) → SleepsIn k → KernelKeeps (ignores k p e)
  ignores_keeps k runner.Init e h = either_kernel (is_fault e) _ (nothing k) (clears_keep k mode.Idle condition.HmPartitionRestart h) (same_kernel k h)
  ignores_keeps k runner.Handler e h = same_kernel k h
  ignores_keeps k (runner.Process p) e h = same_kernel k h

  enters_of_action_keeps : (k : Kernel) (p : Runner) (e : ErrorKind) (o : Option Mode) → SleepsIn k → KernelKeeps (enters_mode k p e o)
  enters_of_action_keeps k p e None h = ignores_keeps k p e h
  enters_of_action_keeps k p e (Some m) h = clears_keep k m condition.HmPartitionRestart h

  acts_keep : (k : Kernel) (p : Runner) (e : ErrorKind) (o : Option PartitionAction) → SleepsIn k → KernelKeeps (acts_on_error k p e o)
  acts_keep k p e None h = same_kernel k h
  acts_keep k p e (Some a) h = enters_of_action_keeps k p e (mode_of_action a) h

  queues_lines : (p : Runner) (e : ErrorKind) (words : List ℤ) → LinesAreOther q name (queues p e words).lines
  queues_lines runner.Init e words = tt
  queues_lines runner.Handler e words = tt
  queues_lines (runner.Process p) e words = tt

  error_lines : (p : Runner) (e : ErrorKind) (words : List ℤ) (r : Response) → LinesAreOther q name (waits_or_leaves p e words r).lines
  error_lines p e words response.Handler = queues_lines p e words
  error_lines p e words (response.Partition a) = tt
  error_lines p e words (response.Module a) = tt

  acts_after : (k : Kernel) (p : Runner) (e : ErrorKind) (s : Step (Option PartitionAction)) → LinesAreOther q name s.lines → SleepsIn k → KernelKeeps (then_acts k p e s)
  acts_after k p e s l h = let a = acts_keep k p e s.part h in record { part = a.part; lines = both_other q name s.lines _ l a.lines }

  raises_lines : (k : Kernel) (p : Runner) (e : ErrorKind) (words : List ℤ) → LinesAreOther q name (raises k.fixed.health k.mode (with_errors k) p e words).lines
  raises_lines k p e words = (tt, error_lines p e words (response_of k.fixed.health k.mode (with_errors k) p e))

  pub faults_keep : (k : Kernel) (p : Runner) (e : ErrorKind) → IsOther q name p → SleepsIn k → KernelKeeps (faults k p e)
  faults_keep k p e other h =
      let r = rests_found_keeps q name k.processes h p other in
      let s = of_processes k (rests_found k.processes p (row_of k.processes p)) in
      after_kernel s (handles s.part p e []) (record { part = r.part; lines = r.lines }) (acts_after s.part p e (raises s.part.fixed.health s.part.mode (with_errors s.part) p e []) (raises_lines s.part p e []) r.part)

  either_lines : {P : Type 0} (b : Bool) (t u : Step P) → LinesAreOther q name t.lines → LinesAreOther q name u.lines → LinesAreOther q name (if b then t else u).lines
  either_lines true t u h k = h
  either_lines false t u h k = k

  raise_lines : (k : Kernel) (p : Runner) (e : ℤ) (array : ArrayPlace) (size : ℤ) (words : List ℤ) → LinesAreOther q name (raise_application_error k.fixed.health k.mode (with_errors k) p e array size words).lines
  raise_lines k p e array size words = search (either_lines, raises_lines)

  -- ---- the requests of another runner

  module _ (at : At) (k : Kernel) (h : SleepsIn k) (p : Runner) (other : IsOther q name p) where
    of_kept : (s : Step Processes) → Keeps q name s → KernelKeeps (of_processes k s)
    of_kept s g = record { part = g.part; lines = g.lines }

    told : (v : _) (c : _) (outputs : List ℤ) → Keeps q name (answers k.processes p v c outputs)
    told v c outputs = record { part = h; lines = (tt, tt) }

    report_keeps : (array : ArrayPlace) (size : ℤ) (words : List ℤ) → Keeps q name (report k.processes p array size words)
    report_keeps array size words = either q name (not (is_message_length array.size size)) (refuses k.processes p service.ReportApplicationMessage code.InvalidParam) _ (told _ _ _) (record { part = h; lines = (tt, (tt, tt)) })

    creates_keeps : (o : Option ProcessStatus) → row_of k.processes runner.Handler ≡ o → Keeps q name (creates_found k.processes runner.Handler o)
    creates_keeps None e = here q name k.processes h [] [] tt
    creates_keeps (Some r) e = record { part = put_keeps q name k.processes h runner.Handler r (record r { created = true }) (λ i. absurd (omega (arith, i))) e refl; lines = tt }

    abbrev Shares : Step (Sharing Errors) → Type 0
    Shares t = Keeps q name (lifted (λ (x : Sharing Errors). x.processes) t)

    either_shared : (b : Bool) (t u : Step (Sharing Errors)) → Shares t → Shares u → Shares (if b then t else u)
    either_shared true t u g l = g
    either_shared false t u g l = l

    told_errors : (v : _) (c : _) (outputs : List ℤ) → Shares (sharing.answers (with_errors k) p v c outputs)
    told_errors v c outputs = record { part = h; lines = (tt, tt) }

    create_handler_keeps : Shares (create_error_handler k.mode (with_errors k) p)
    create_handler_keeps =
        let c = creates_keeps (row_of k.processes runner.Handler) refl in
        either_shared (is_normal k.mode) _ _ (told_errors _ _ _) (either_shared (not k.errors.has_handler) _ _ (told_errors _ _ _) (either_shared (is_handler_created k.processes) _
        (after (sharing.answers (with_errors k) p service.CreateErrorHandler code.NoError []) (sharing.of_processes (with_errors k) (creates_found k.processes runner.Handler (row_of k.processes runner.Handler))))
        (told_errors _ _ _) (record { part = c.part; lines = (tt, c.lines) })))

    takes_error_keeps : (array : ArrayPlace) (es : List WaitingError) → Shares (takes_error (with_errors k) p array es)
    takes_error_keeps array [] = told_errors _ _ _
    takes_error_keeps array (e ∷ es) = record { part = h; lines = (tt, tt) }

    error_status_keeps : (array : ArrayPlace) → Shares (get_error_status (with_errors k) p array)
    error_status_keeps array = either_shared (not (is_same p runner.Handler)) _ _ (told_errors _ _ _) (either_shared _ _ _ (told_errors _ _ _) (takes_error_keeps array k.errors.waiting))

    serves_keep : (c : Call) (words : List ℤ) → CreatesOther q c → KernelKeeps (serves at k p c words)
    serves_keep call.GetPartitionStatus words o = of_kept _ (told _ _ _)
    serves_keep (call.SetPartitionMode m) words o = set_mode_keeps at k p m h
    serves_keep call.StopSelf words o = ends_body_keeps k p other h
    serves_keep (call.ReportApplicationMessage array size) words o = of_kept _ (report_keeps array size words)
    serves_keep call.CreateErrorHandler words o = let g = create_handler_keeps in record { part = g.part; lines = g.lines }
    serves_keep (call.GetErrorStatus array) words o = let g = error_status_keeps array in record { part = g.part; lines = g.lines }
    serves_keep (call.RaiseApplicationError e array size) words o = acts_after k p error.ApplicationError _ (raise_lines k p e array size words) h
    serves_keep (call.GetProcessId id) words o = of_kept _ (get_process_id_keeps q name k.processes h p other id)
    serves_keep (call.GetProcessStatus id) words o = of_kept _ (get_process_status_keeps q name k.processes h p other id)
    serves_keep (call.CreateProcess id) words o = of_kept _ (create_process_keeps q name k.processes h p other k.mode id o)
    serves_keep (call.SetPriority id v) words o = of_kept _ (set_priority_keeps q name k.processes h p other id v)
    serves_keep (call.SuspendSelf limit) words o = of_kept _ (suspend_self_keeps q name k.processes h p other at limit)
    serves_keep (call.Suspend id) words o = of_kept _ (suspend_keeps q name k.processes h p other id)
    serves_keep (call.Resume id) words o = of_kept _ (resume_keeps q name k.processes h p other id)
    serves_keep (call.Stop id) words o = of_kept _ (stop_keeps q name k.processes h p other id)
    serves_keep (call.Start id) words o = of_kept _ (start_keeps q name k.processes h p other k.mode at (next_release_of at k) id)
    serves_keep (call.DelayedStart id delay) words o = of_kept _ (delayed_start_keeps q name k.processes h p other k.mode at (next_release_of at k) id delay)
    serves_keep call.LockPreemption words o = of_kept _ (lock_preemption_keeps q name k.processes h p other k.mode)
    serves_keep call.UnlockPreemption words o = of_kept _ (unlock_preemption_keeps q name k.processes h p other k.mode)
    serves_keep call.GetMyId words o = of_kept _ (get_my_id_keeps q name k.processes h p other (number_of p))
    serves_keep (call.TimedWait delay) words o = of_kept _ (timed_wait_keeps q name k.processes h p other at delay)
    serves_keep call.PeriodicWait words o = of_kept _ (periodic_wait_keeps q name k.processes h p other)
    serves_keep call.GetTime words o = of_kept _ (told _ _ _)
    serves_keep (call.Replenish budget) words o = of_kept _ (replenish_keeps q name k.processes h p other k.mode at budget)
    serves_keep (call.Object c) words o = let g = objects_keep q name (with_objects k) h p other k.mode at c words in record { part = g.part; lines = g.lines }
    serves_keep (call.Port c) words o = let g = ports_keep q name (with_ports k) h p other k.mode at c words in record { part = g.part; lines = g.lines }

    pub asked_keeps : (a : Asks) (words : List ℤ) → AsksAllowed (CreatesOther q) a → KernelKeeps (treats_asked at k p a words)
    asked_keeps Nothing words o = same_kernel k h
    asked_keeps (Calls c) words o = serves_keep c words o
    asked_keeps (Faults e) words o = faults_keep k p e other h
    asked_keeps Ends words o = ends_body_keeps k p other h

  -- ---- what is due

  timed_who : (r : ProcessStatus) (w : Wait) → (timed_out r w).who ≡ r.who
  timed_who r (wait.Service service.SuspendSelf) = refl
  timed_who r _ = refl

  module _ (at : At) (a : PartitionAction) where
    ends_keeps : (s : Processes) (h : Sleeps q name s) (p : Runner) (r : ProcessStatus) (d : Due) → IsOther q name p → row_of s p ≡ Some r → Keeps q name (ends_wait s p r d)
    ends_keeps s h p r (due_time.Release tick) other there = released_with_keeps q name s h p r (released_at tick r) _ (zeros_of_wait r.wait) other there refl
    ends_keeps s h p r (due_time.Delay tick) other there = released_with_keeps q name s h p r r _ (zeros_of_wait r.wait) other there refl
    ends_keeps s h p r (due_time.TimeOut tick) other there = released_with_keeps q name s h p r (timed_out r r.wait) _ (zeros_of_wait (timed_out r r.wait).wait) other there (timed_who r r.wait)

    due_keeps : (s : Processes) (h : Sleeps q name s) (p : Runner) (r : ProcessStatus) (o : Option Due) → IsOther q name p → row_of s p ≡ Some r → Keeps q name (times.treats_due at s p r o)
    due_keeps s h p r None other there = here q name s h [] [] tt
    due_keeps s h p r (Some d) other there = either q name (nat_le (tick_of d) at.now.0) _ _ (ends_keeps s h p r d other there) (here q name s h [] [] tt)

    misses_keep : (free : ℕ) (s : Processes) (h : Sleeps q name s) (p : ProcessIndex) (r : ProcessStatus) → IsOther q name (runner.Process p) → row_of s (runner.Process p) ≡ Some r → Keeps q name (misses free a s p r).step
    misses_keep zero s h p r other there = record { part = put_keeps q name s h (runner.Process p) r (record r { deadline = None }) other there refl; lines = (tt, tt) }
    misses_keep (suc free) s h p r other there = record { part = put_keeps q name s h (runner.Process p) r (record r { deadline = None }) other there refl; lines = (tt, tt) }

    deadline_keeps : (free : ℕ) (s : Processes) (h : Sleeps q name s) (p : ProcessIndex) (o : Option ProcessStatus) → IsOther q name (runner.Process p) → row_of s (runner.Process p) ≡ o → Keeps q name (treats_deadline at free a s p o).step
    deadline_keeps free s h p None other there = here q name s h [] [] tt
    deadline_keeps free s h p (Some r) other there = by_test (is_past at.now.0 r.deadline)
      where
        by_test : (b : Bool) → Keeps q name (if b then misses free a s p r else record { step = nothing s; free = free; clears = None }).step
        by_test true = misses_keep free s h p r other there
        by_test false = here q name s h [] [] tt

    -- the process itself has no due time and no deadline
    own_deadline : (free : ℕ) (s : Processes) (h : Sleeps q name s) (p : ProcessIndex) (r : ProcessStatus) → IsNew r → Keeps q name (treats_deadline at free a s p (Some r)).step
    own_deadline free s h p r new = by_test (is_past at.now.0 r.deadline) refl
      where
        by_test : (b : Bool) → is_past at.now.0 r.deadline ≡ b → Keeps q name (if b then misses free a s p r else record { step = nothing s; free = free; clears = None }).step
        by_test true e = absurd (false≢true (sym (ap (is_past at.now.0) new.deadline) ∙ e))
        by_test false e = here q name s h [] [] tt

    treats_keep : (free : ℕ) (s : Processes) (h : Sleeps q name s) (place : ℕ) (o : Option ProcessStatus) → row_of s (runner.Process (index place)) ≡ o → Keeps q name (treats at free a s (index place) o).step
    treats_keep free s h place None there = here q name s h [] [] tt
    treats_keep free s h place (Some r) there = by_test (nat_eq place q) refl
      where
        p : Runner
        p = runner.Process (index place)

        goes : Option Due → Treated
        goes o = let d = times.treats_due at s p r o in treated_after d (treats_deadline at free a d.part (index place) (row_of d.part p))

        own : IsNew r → Keeps q name (goes None).step
        own new = subst (λ (o : Option ProcessStatus). Keeps q name (treated_after (nothing s) (treats_deadline at free a s (index place) o)).step) (sym there)
            (let k = own_deadline free s h (index place) r new in record { part = k.part; lines = k.lines })

        by_test : (b : Bool) → nat_eq place q ≡ b → Keeps q name (goes r.due).step
        by_test true t =
            let new = h.rows.own r (subst (λ (i : ℕ). slice_get s.rows (suc (suc i)) ≡ Some r) (eqb-true place q t) there) in
            subst (λ (o : Option Due). Keeps q name (goes o).step) (sym new.due) (own new)
        by_test false t =
            let other : IsOther q name p = λ i. eqb-false place q t (omega (arith, i)) in
            let d = times.treats_due at s p r r.due in
            let k = due_keeps s h p r r.due other there in
            let l = deadline_keeps free d.part k.part (index place) (row_of d.part p) other refl in
            record { part = l.part; lines = both_other q name d.lines _ k.lines l.lines }

    due_from_keeps : (n place free : ℕ) (s : Processes) → Sleeps q name s → Keeps q name (due_from at a n place free s).step
    due_from_keeps zero place free s h = here q name s h [] [] tt
    due_from_keeps (suc n) place free s h =
        let t = treats at free a s (index place) (row_of s (runner.Process (index place))) in
        let k = treats_keep free s h place (row_of s (runner.Process (index place))) refl in
        let rest = due_from_keeps n (place + 1) t.free t.step.part k.part in
        either_treated (is_some t.clears) t _ k (record { part = rest.part; lines = both_other q name t.step.lines _ k.lines rest.lines })
      where
        either_treated : (b : Bool) (t u : Treated) → Keeps q name t.step → Keeps q name u.step → Keeps q name (if b then t else u).step
        either_treated true t u k l = k
        either_treated false t u k l = l

  pub treats_due_keeps : (at : At) (k : Kernel) → SleepsIn k → KernelKeeps (of_processes k (treats_due at k).step)
  treats_due_keeps at k h = let g = due_from_keeps at _ _ 0 _ k.processes h in record { part = g.part; lines = g.lines }

  -- ---- the choice

  -- a runner that is READY or RUNNING is another one
  pub caller_is_other : (s : Processes) → Sleeps q name s → (p : Runner) → IsCaller s p → IsOther q name p
  caller_is_other s h runner.Init caller = λ e. absurd (omega (arith, e))
  caller_is_other s h runner.Handler caller = λ e. absurd (omega (arith, e))
  caller_is_other s h (runner.Process i) caller = λ e. false≢true (sym (asleep (slice_get s.rows (suc (suc q))) refl) ∙ subst (λ (j : ℕ). is_ready (slice_get s.rows j) ≡ true) e (caller i refl))
    where
      asleep : (o : Option ProcessStatus) → slice_get s.rows (suc (suc q)) ≡ o → is_ready o ≡ false
      asleep None e = refl
      asleep (Some r) e = let new = h.rows.own r e in ap is_ready_state new.state

  leaves_keep : (s : Processes) (h : Sleeps q name s) (o : Option Runner) → ((p : Runner) → o ≡ Some p → IsOther q name p) → Keeps q name (leaves_processor s o)
  leaves_keep s h None other = here q name s h [] [] tt
  leaves_keep s h (Some p) other = by_row (row_of s p) refl
    where
      by_row : (o : Option ProcessStatus) → row_of s p ≡ o → Keeps q name (preempts s p o)
      by_row None e = here q name s h [] [] tt
      by_row (Some r) e =
          let k = put_keeps q name s h p r (record r { state = Ready }) (other p refl) e refl in
          record { part = record { rows = k.rows; queues = k.queues }; lines = (named_other q name s h p r r (other p refl) e refl, tt) }

  takes_keep : (s : Processes) (h : Sleeps q name s) (o : Option Runner) → ((p : Runner) → o ≡ Some p → IsOther q name p) → Keeps q name (takes_processor s o)
  takes_keep s h None other = here q name s h [] [] tt
  takes_keep s h (Some p) other = by_row (row_of s p) refl
    where
      by_row : (o : Option ProcessStatus) → row_of s p ≡ o → Keeps q name (runs s p o)
      by_row None e = here q name s h [] [] tt
      by_row (Some r) e =
          let k = put_keeps q name s h p r (record r { state = Running }) (other p refl) e refl in
          record { part = record { rows = k.rows; queues = k.queues }; lines = (named_other q name s h p r r (other p refl) e refl, tt) }

  chooses_keep : (m : Mode) (s : Processes) → Sleeps q name s → RecordsAgree s → Keeps q name (chooses m s)
  chooses_keep m s h agree =
      let l = leaves_keep s h s.running (λ p e. caller_is_other s h p (runs_ready s agree p e)) in
      let t = takes_keep (leaves_processor s s.running).part l.part (pick m s) (λ p e. caller_is_other s h p (picked_ready s agree m p e)) in
      either q name (are_same s.running (pick m s)) (nothing s) _ (here q name s h [] [] tt) (in_turn q name _ _ l t)

  handler_keeps : (m : Mode) (b : Sharing Errors) → Sleeps q name b.processes → Keeps q name (starts_handler m b)
  handler_keeps m b h = either q name (is_normal m && is_waiting b.shared.waiting) _ _ (by_row (row_of b.processes runner.Handler) refl) (here q name b.processes h [] [] tt)
    where
      by_row : (o : Option ProcessStatus) → row_of b.processes runner.Handler ≡ o → Keeps q name (begins_if_dormant b.processes o)
      by_row None e = here q name b.processes h [] [] tt
      by_row (Some r) e =
          either q name (r.created && is_dormant r) _ _ (in_turn q name (begins b.processes runner.Handler) _ (here q name b.processes h _ _ tt) (wakes_keeps q name b.processes h runner.Handler r r (λ i. absurd (omega (arith, i))) e refl))
          (here q name b.processes h [] [] tt)

  pub choice_keeps : (k : Kernel) → SleepsIn k → RecordsAgree k.processes → KernelKeeps (chooses_with_handler k)
  choice_keeps k h agree =
      let s = handler_keeps k.mode (with_errors k) h in
      let c = chooses_keep k.mode (chosen_among k) s.part (handler_agrees k.mode (with_errors k) agree) in
      record { part = c.part; lines = both_other q name (starts_handler k.mode (with_errors k)).lines _ s.lines c.lines }
