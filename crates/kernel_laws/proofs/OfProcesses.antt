-- The services on processes and on time continue the numbers.
use Rattle.kernel_laws.proofs.Prelude.{Bool, List, None, Option, Some, false, refl, subst, suc, sym, true, zero, ℕ, ℤ, ◌∷◌, ◌≡◌, if◌then◌else◌, is_some, nat_le, negsuc, not, pos, ◌==◌, ◌||◌, MOST_LOCK_LEVEL, Discipline, Mode, At, ListKey, Priority, Runner, Ticks, ProcessStatus, Wait, is_duration, amount, is_delay, is_zero, time_out, with_lock, create_process, creates, delayed_start, get_my_id, get_process_id, get_process_status, is_beyond, is_holder, is_priority, is_ready_state, level_of, lock_preemption, locked_by, may_not_lock, of_row, priority_of, resume, resumes, resumes_from, set_priority, start, stop, suspend, suspend_self, suspends, suspends_self, takes_priority, tells_status, unlock_preemption, unlocked, Processes, is_busy, is_dormant, is_normal, process_at, put_ready, put_row, rests, row_of, answers, is_created, is_held, is_no_other, is_periodic, is_suspended, is_unknown, on, begins, released_at, starts, starts_in_normal, ticks, after, nothing, deadline_in, delays, has_no_deadline, periodic_wait, reaches_past, replenish, replenishes, timed_wait, waits_for_period, waits_periodically, waits_until, yields, Goes, itself, process_of, May, only_last}
use Rattle.std.proofs.Common.{[]}
use Rattle.std.specs.Prelude.{◌+◌}
use Rattle.apex_types.specs.declared.codes.ReturnCode.TheVariants as code
use Rattle.apex_types.specs.Runners as action
use Rattle.apex_types.specs.declared.process.Wait.TheVariants as wait
use Rattle.apex_types.specs.declared.service.Service.TheVariants as service
use Rattle.kernel_meaning.specs.Processes.{has, refuses}
use Rattle.kernel_meaning.specs.ProcessServices.{get_time}
use Rattle.kernel_laws.proofs.NumberSteps.{Named, IsOf, nothing_goes, either_goes, row_goes, after_goes, put_goes, last_goes, wakes_goes, waits_goes, rests_goes, release_goes, fills_goes, on_at, row_is_of, refuse_goes, answer_goes, lock_goes}

module _ (d : ListKey → Discipline) (names : List (List ℕ)) where
  pub get_process_id_goes : (may : May) (s : Processes) (p : Runner) (name : ℤ) → Named d names s → Goes d names may s (get_process_id s p name)
  get_process_id_goes may s p name h =
      row_goes d names may s (refuses s p service.GetProcessId) ((is_unknown s name, code.InvalidConfig) ∷ []) (answers s p service.GetProcessId code.NoError (name ∷ []))
      (refuse_goes d names may s p service.GetProcessId h) (answer_goes d names may s p service.GetProcessId code.NoError (name ∷ []) h)

  pub get_process_status_goes : (may : May) (s : Processes) (p : Runner) (id : ℤ) → Named d names s → Goes d names may s (get_process_status s p id)
  get_process_status_goes may s p id h =
      row_goes d names may s (refuses s p service.GetProcessStatus) ((is_unknown s id, code.InvalidParam) ∷ []) (on (process_at s id) s (tells_status s p))
      (refuse_goes d names may s p service.GetProcessStatus h) (on_at d names may s id (tells_status s p) h
      (λ q r e i. answer_goes d names may s p service.GetProcessStatus code.NoError _ h))

  pub create_process_goes : (may : May) (m : Mode) (s : Processes) (p : Runner) (name : ℤ) → Named d names s → Goes d names may s (create_process m s p name)
  create_process_goes may m s p name h =
      row_goes d names may s (refuses s p service.CreateProcess) ((is_normal m, code.InvalidMode) ∷ (not (is_some (process_at s name)), code.InvalidConfig) ∷
      (has (process_at s name) is_created, code.NoAction) ∷ []) (after (answers s p service.CreateProcess code.NoError (name ∷ [])) (on (process_at s name) s (creates s)))
      (refuse_goes d names may s p service.CreateProcess h) (after_goes d names may s _ _ (answer_goes d names may s p service.CreateProcess code.NoError (name ∷ []) h)
      (λ k. on_at d names may s name (creates s) k (λ q r e i. put_goes d names may s q (record r { created = true }) k e)))

  takes_goes : (s : Processes) (v : Priority) (q : Runner) (r : ProcessStatus) → Named d names s → IsOf d names q r → (b : Bool)
      → Goes d names (only_last (itself q)) s (nothing (if b then put_ready s q (record r { current_priority = v }) else put_row s q (record r { current_priority = v })))
  takes_goes s v q r h e true = last_goes d names s q (record r { current_priority = v }) h e
  takes_goes s v q r h e false = put_goes d names (only_last (itself q)) s q (record r { current_priority = v }) h e

  pub set_priority_goes : (s : Processes) (p : Runner) (id : ℤ) (v : ℤ) → Named d names s → Goes d names (only_last (process_of id)) s (set_priority s p id v)
  set_priority_goes s p id v h =
      row_goes d names (only_last (process_of id)) s (refuses s p service.SetPriority)
      ((is_unknown s id, code.InvalidParam) ∷ (not (is_priority v), code.InvalidParam) ∷ (has (process_at s id) is_dormant, code.InvalidMode) ∷ [])
      (after (answers s p service.SetPriority code.NoError []) (on (process_at s id) s (takes_priority s (priority_of v))))
      (refuse_goes d names (only_last (process_of id)) s p service.SetPriority h) (after_goes d names (only_last (process_of id)) s _ _
      (answer_goes d names (only_last (process_of id)) s p service.SetPriority code.NoError [] h)
      (λ k. on_at d names (only_last (process_of id)) s id (takes_priority s (priority_of v)) k
      (λ q r e i. subst (λ (o : Option ℕ). Goes d names (only_last o) s (takes_priority s (priority_of v) q r)) (sym i) (takes_goes s (priority_of v) q r k e (is_ready_state r.state)))))

  self_goes : (may : May) (at : At) (s : Processes) (p : Runner) (limit : ℤ) → Named d names s → Goes d names may s (suspends_self at s p limit (row_of s p))
  self_goes may at s p limit h = by_row (row_of s p) refl
    where
      by_row : (o : Option ProcessStatus) → row_of s p ≡ o → Goes d names may s (suspends_self at s p limit o)
      by_row None e = nothing_goes d names may s h
      by_row (Some r) e = waits_goes d names may s p (record r { suspended = true }) (wait.Service service.SuspendSelf) (time_out at limit) h (row_is_of d names s p r h e)

  pub suspend_self_goes : (may : May) (at : At) (s : Processes) (p : Runner) (limit : ℤ) → Named d names s → Goes d names may s (suspend_self at s p limit)
  suspend_self_goes may at s p limit h =
      row_goes d names may s (refuses s p service.SuspendSelf) ((is_busy s p, code.InvalidMode) ∷ (not (is_duration limit), code.InvalidParam) ∷
      (of_row is_periodic (row_of s p), code.InvalidMode) ∷ []) (if is_zero limit then answers s p service.SuspendSelf code.NoError [] else suspends_self at s p limit (row_of s p))
      (refuse_goes d names may s p service.SuspendSelf h) (either_goes d names may s (is_zero limit) _ _ (answer_goes d names may s p service.SuspendSelf code.NoError [] h)
      (self_goes may at s p limit h))

  pub suspend_goes : (may : May) (s : Processes) (p : Runner) (id : ℤ) → Named d names s → Goes d names may s (suspend s p id)
  suspend_goes may s p id h =
      row_goes d names may s (refuses s p service.Suspend) ((is_no_other s p id, code.InvalidParam) ∷
      (has (process_at s id) is_dormant || has (process_at s id) is_periodic || is_holder s.lock (process_at s id), code.InvalidMode) ∷ (has (process_at s id) is_suspended, code.NoAction)
      ∷ []) (after (answers s p service.Suspend code.NoError []) (on (process_at s id) s (suspends s))) (refuse_goes d names may s p service.Suspend h)
      (after_goes d names may s _ _ (answer_goes d names may s p service.Suspend code.NoError [] h)
      (λ k. on_at d names may s id (suspends s) k (λ q r e i. waits_goes d names may s q (record r { suspended = true }) r.wait r.due k e)))

  resumed_goes : (may : May) (s : Processes) (q : Runner) (r : ProcessStatus) (w : Wait) → Named d names s → IsOf d names q r → Goes d names may s (resumes_from s q r w)
  resumed_goes may s q r wait.Nothing h e = wakes_goes d names may s q r h e
  resumed_goes may s q r (wait.Service service.SuspendSelf) h e = release_goes d names may s q r code.NoError h e
  resumed_goes may s q r _ h e = put_goes d names may s q r h e

  pub resume_goes : (may : May) (s : Processes) (p : Runner) (id : ℤ) → Named d names s → Goes d names may s (resume s p id)
  resume_goes may s p id h =
      row_goes d names may s (refuses s p service.Resume) ((is_no_other s p id, code.InvalidParam) ∷
      (has (process_at s id) is_dormant || has (process_at s id) is_periodic, code.InvalidMode) ∷ (not (has (process_at s id) is_suspended), code.NoAction) ∷ [])
      (after (answers s p service.Resume code.NoError []) (on (process_at s id) s (resumes s))) (refuse_goes d names may s p service.Resume h)
      (after_goes d names may s _ _ (answer_goes d names may s p service.Resume code.NoError [] h)
      (λ k. on_at d names may s id (resumes s) k (λ q r e i. resumed_goes may s q (record r { suspended = false }) r.wait k e)))

  pub stop_goes : (may : May) (s : Processes) (p : Runner) (id : ℤ) → Named d names s → Goes d names may s (stop s p id)
  stop_goes may s p id h =
      row_goes d names may s (refuses s p service.Stop) ((is_no_other s p id, code.InvalidParam) ∷ (has (process_at s id) is_dormant, code.NoAction) ∷ [])
      (after (answers s p service.Stop code.NoError []) (on (process_at s id) s (rests s))) (refuse_goes d names may s p service.Stop h)
      (after_goes d names may s _ _ (answer_goes d names may s p service.Stop code.NoError [] h) (λ k. on_at d names may s id (rests s) k (λ q r e i. rests_goes d names may s q r k e)))

  pub normal_goes : (may : May) (at : At) (next : ℕ) (s : Processes) (q : Runner) (delay : Ticks) (r : ProcessStatus) → Named d names s → IsOf d names q r
      → Goes d names may s (starts_in_normal at next s q delay r)
  normal_goes may at next s q delay r h e =
      either_goes d names may s (is_periodic r) _ _ (waits_goes d names may s q r _ _ h e)
      (either_goes d names may s (delay.0 == 0) _ _ (wakes_goes d names may s q (released_at at.now r) h e) (waits_goes d names may s q r _ _ h e))

  starts_goes : (may : May) (m : Mode) (at : At) (next : ℕ) (s : Processes) (q : Runner) (delay : Ticks) (r : ProcessStatus) → Named d names s → IsOf d names q r
      → Goes d names may s (starts m at next s q delay r)
  starts_goes may m at next s q delay r h e =
      let fresh : ProcessStatus = record r { current_priority = r.base_priority } in
      after_goes d names may s (begins s q) _ (fills_goes d names may s (action.Begin q ∷ []) h)
      (λ k. either_goes d names may s (is_normal m) _ _ (normal_goes may at next s q delay fresh k e) (waits_goes d names may s q fresh (wait.NormalStart delay) None k e))

  pub start_goes : (may : May) (m : Mode) (at : At) (next : ℕ) (s : Processes) (p : Runner) (id : ℤ) → Named d names s → Goes d names may s (start m at next s p id)
  start_goes may m at next s p id h =
      row_goes d names may s (refuses s p service.Start) ((is_unknown s id, code.InvalidParam) ∷ (not (has (process_at s id) is_dormant), code.NoAction) ∷ [])
      (after (answers s p service.Start code.NoError []) (on (process_at s id) s (λ q. starts m at next s q (ticks 0)))) (refuse_goes d names may s p service.Start h)
      (after_goes d names may s _ _ (answer_goes d names may s p service.Start code.NoError [] h)
      (λ k. on_at d names may s id (λ q. starts m at next s q (ticks 0)) k (λ q r e i. starts_goes may m at next s q (ticks 0) r k e)))

  pub delayed_start_goes : (may : May) (m : Mode) (at : At) (next : ℕ) (s : Processes) (p : Runner) (id : ℤ) (delay : ℤ) → Named d names s
      → Goes d names may s (delayed_start m at next s p id delay)
  delayed_start_goes may m at next s p id delay h =
      row_goes d names may s (refuses s p service.DelayedStart) ((is_unknown s id, code.InvalidParam) ∷ (not (is_delay delay), code.InvalidParam) ∷
      (has (process_at s id) (λ r. is_beyond (amount delay) r.period), code.InvalidParam) ∷ (not (has (process_at s id) is_dormant), code.NoAction) ∷ [])
      (after (answers s p service.DelayedStart code.NoError []) (on (process_at s id) s (λ q. starts m at next s q (ticks (amount delay)))))
      (refuse_goes d names may s p service.DelayedStart h) (after_goes d names may s _ _ (answer_goes d names may s p service.DelayedStart code.NoError [] h)
      (λ k. on_at d names may s id (λ q. starts m at next s q (ticks (amount delay))) k (λ q r e i. starts_goes may m at next s q (ticks (amount delay)) r k e)))

  pub lock_preemption_goes : (may : May) (m : Mode) (s : Processes) (p : Runner) → Named d names s → Goes d names may s (lock_preemption m s p)
  lock_preemption_goes may m s p h =
      row_goes d names may s (refuses s p service.LockPreemption) ((may_not_lock m p, code.NoAction) ∷ (nat_le MOST_LOCK_LEVEL (level_of s.lock), code.InvalidConfig) ∷ [])
      (with_lock s p service.LockPreemption (locked_by p s.lock)) (refuse_goes d names may s p service.LockPreemption h)
      (lock_goes d names may s p service.LockPreemption (locked_by p s.lock) h)

  pub unlock_preemption_goes : (may : May) (m : Mode) (s : Processes) (p : Runner) → Named d names s → Goes d names may s (unlock_preemption m s p)
  unlock_preemption_goes may m s p h =
      row_goes d names may s (refuses s p service.UnlockPreemption) ((may_not_lock m p || not (is_held s.lock), code.NoAction) ∷ [])
      (with_lock s p service.UnlockPreemption (unlocked s.lock)) (refuse_goes d names may s p service.UnlockPreemption h)
      (lock_goes d names may s p service.UnlockPreemption (unlocked s.lock) h)

  pub get_my_id_goes : (may : May) (s : Processes) (p : Runner) (number : Option ℕ) → Named d names s → Goes d names may s (get_my_id s p number)
  get_my_id_goes may s p None h = refuse_goes d names may s p service.GetMyId h code.InvalidMode
  get_my_id_goes may s p (Some number) h = answer_goes d names may s p service.GetMyId code.NoError (pos number ∷ []) h

  -- ---- time

  yields_goes : (s : Processes) (p : Runner) → Named d names s → Goes d names (only_last (itself p)) s (yields s p (row_of s p))
  yields_goes s p h = by_row (row_of s p) refl
    where
      by_row : (o : Option ProcessStatus) → row_of s p ≡ o → Goes d names (only_last (itself p)) s (yields s p o)
      by_row None e = nothing_goes d names (only_last (itself p)) s h
      by_row (Some r) e = last_goes d names s p r h (row_is_of d names s p r h e)

  until_goes : (may : May) (s : Processes) (p : Runner) (tick : ℕ) → Named d names s → Goes d names may s (waits_until s p (row_of s p) tick)
  until_goes may s p tick h = by_row (row_of s p) refl
    where
      by_row : (o : Option ProcessStatus) → row_of s p ≡ o → Goes d names may s (waits_until s p o tick)
      by_row None e = nothing_goes d names may s h
      by_row (Some r) e = waits_goes d names may s p r _ _ h (row_is_of d names s p r h e)

  delays_goes : (at : At) (s : Processes) (p : Runner) (delay : ℤ) → Named d names s → Goes d names (only_last (itself p)) s (delays at s p delay)
  delays_goes at s p (negsuc n) h = nothing_goes d names (only_last (itself p)) s h
  delays_goes at s p (pos zero) h =
      after_goes d names (only_last (itself p)) s _ _ (answer_goes d names (only_last (itself p)) s p service.TimedWait code.NoError [] h) (λ k. yields_goes s p k)
  delays_goes at s p (pos (suc n)) h = until_goes (only_last (itself p)) s p (at.now.0 + suc n) h

  pub get_time_goes : (may : May) (at : At) (s : Processes) (p : Runner) → Named d names s → Goes d names may s (get_time at s p)
  get_time_goes may at s p h = answer_goes d names may s p service.GetTime code.NoError (pos at.now.0 ∷ []) h

  pub timed_wait_goes : (at : At) (s : Processes) (p : Runner) (delay : ℤ) → Named d names s → Goes d names (only_last (itself p)) s (timed_wait at s p delay)
  timed_wait_goes at s p delay h =
      row_goes d names (only_last (itself p)) s (refuses s p service.TimedWait) ((is_busy s p, code.InvalidMode) ∷ (not (is_delay delay), code.InvalidParam) ∷ []) (delays at s p delay)
      (refuse_goes d names (only_last (itself p)) s p service.TimedWait h) (delays_goes at s p delay h)

  period_goes : (may : May) (s : Processes) (p : Runner) (r : ProcessStatus) (o : Option Ticks) → Named d names s → IsOf d names p r → Goes d names may s (waits_for_period s p r o)
  period_goes may s p r None h e = nothing_goes d names may s h
  period_goes may s p r (Some period) h e = waits_goes d names may s p (record r { deadline = None }) _ _ h e

  periodic_goes : (may : May) (s : Processes) (p : Runner) → Named d names s → Goes d names may s (waits_periodically s p (row_of s p))
  periodic_goes may s p h = by_row (row_of s p) refl
    where
      by_row : (o : Option ProcessStatus) → row_of s p ≡ o → Goes d names may s (waits_periodically s p o)
      by_row None e = nothing_goes d names may s h
      by_row (Some r) e = period_goes may s p r r.period h (row_is_of d names s p r h e)

  pub periodic_wait_goes : (may : May) (s : Processes) (p : Runner) → Named d names s → Goes d names may s (periodic_wait s p)
  periodic_wait_goes may s p h =
      row_goes d names may s (refuses s p service.PeriodicWait) ((is_busy s p, code.InvalidMode) ∷ (not (of_row is_periodic (row_of s p)), code.InvalidMode) ∷ [])
      (waits_periodically s p (row_of s p)) (refuse_goes d names may s p service.PeriodicWait h) (periodic_goes may s p h)

  replenishes_goes : (may : May) (at : At) (s : Processes) (p : Runner) (budget : ℤ) → Named d names s → Goes d names may s (replenishes at s p budget (row_of s p))
  replenishes_goes may at s p budget h = by_row (row_of s p) refl
    where
      by_row : (o : Option ProcessStatus) → row_of s p ≡ o → Goes d names may s (replenishes at s p budget o)
      by_row None e = nothing_goes d names may s h
      by_row (Some r) e = put_goes d names may s p (record r { deadline = deadline_in at budget }) h (row_is_of d names s p r h e)

  pub replenish_goes : (may : May) (m : Mode) (at : At) (s : Processes) (p : Runner) (budget : ℤ) → Named d names s → Goes d names may s (replenish m at s p budget)
  replenish_goes may m at s p budget h =
      row_goes d names may s (refuses s p service.Replenish) ((may_not_lock m p, code.NoAction) ∷ (not (is_duration budget), code.InvalidParam) ∷
      (of_row has_no_deadline (row_of s p), code.NoAction) ∷ (of_row (λ r. reaches_past at budget r r.period) (row_of s p), code.InvalidMode) ∷ [])
      (after (answers s p service.Replenish code.NoError []) (replenishes at s p budget (row_of s p))) (refuse_goes d names may s p service.Replenish h)
      (after_goes d names may s _ _ (answer_goes d names may s p service.Replenish code.NoError [] h) (λ k. replenishes_goes may at s p budget k))
