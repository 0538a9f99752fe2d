-- The services on processes and on time do not touch a process that is not created, if another runner calls them.
use Rattle.std.proofs.Common.{◌≡◌, ◌≢◌, ℕ, zero, suc, ℤ, pos, negsuc, Bool, true, false, not, List, [], Option, Some, None, refl, sym, ap, ◌∙◌, subst}
use Rattle.std.specs.Prelude.{◌+◌, ◌||◌, if◌then◌else◌, is_some, nat_le, slice_get}
use Rattle.std.proofs.lemmas.Bool.{false≢true, or_parts}
use Rattle.std.proofs.lemmas.Option.{none-some}
use Rattle.apex_types.specs.declared.codes.Mode.{Mode}
use Rattle.apex_types.specs.declared.codes.ReturnCode.{ReturnCode}
use Rattle.apex_types.specs.declared.codes.ReturnCode.TheVariants as code
use Rattle.apex_types.specs.declared.identity.At.{At}
use Rattle.apex_types.specs.declared.identity.Priority.{Priority}
use Rattle.apex_types.specs.declared.identity.Runner.{Runner}
use Rattle.apex_types.specs.declared.identity.Ticks.{Ticks}
use Rattle.apex_types.specs.declared.limits.TheConstants.{MOST_LOCK_LEVEL}
use Rattle.apex_types.specs.declared.process.Lock.{Lock}
use Rattle.apex_types.specs.declared.process.ProcessStatus.{ProcessStatus}
use Rattle.apex_types.specs.declared.process.Wait.{Wait}
use Rattle.apex_types.specs.declared.process.Wait.TheVariants as wait
use Rattle.apex_types.specs.declared.service.Service.{Service}
use Rattle.apex_types.specs.declared.service.Service.TheVariants as service
use Rattle.engine_meaning.specs.Operators.{is_zero}
use Rattle.kernel_laws.proofs.Records.{at_found}
use Rattle.kernel_meaning.specs.Processes.{Processes, row_of, index, process_at, has, on, answers, refuses, wakes, waits, rests, released, zeros_of_wait, is_created, is_dormant, is_suspended, is_periodic, is_unknown, is_own, is_no_other, is_busy, is_held, is_normal}
use Rattle.kernel_meaning.specs.ProcessServices.{get_process_id, get_process_status, tells_status, create_process, creates, set_priority, takes_priority, priority_of, is_priority, is_ready_state, suspend_self, suspends_self, of_row, suspend, suspends, is_holder, resume, resumes, resumes_from, stop, start, delayed_start, is_beyond, lock_preemption, unlock_preemption, with_lock, level_of, may_not_lock, get_my_id, timed_wait, delays, yields, waits_until, periodic_wait, waits_periodically, waits_for_period, replenish, replenishes, has_no_deadline, reaches_past}
use Rattle.kernel_meaning.specs.Step.{Step, nothing}
use Rattle.kernel_meaning.specs.Times.{is_delay, is_duration, amount, ticks, starts, starts_in_normal}
use Rattle.lint_laws.proofs.Sleeping.{IsOther, FindsOther, Sleeps, Keeps, either, in_turn, here, put_keeps, ready_keeps, wakes_keeps, waits_keeps, rests_keeps, released_with_keeps, entry_finds, on_found}

module _ (q : ℕ) (name : List ℕ) (s : Processes) (h : Sleeps q name s) where
  abbrev Kept : Step Processes → Type 0
  Kept t = Keeps q name t

  passed : (b : Bool) (t u : Step Processes) → Kept t → (b ≡ false → Kept u) → Kept (if b then t else u)
  passed true t u g k = g
  passed false t u g k = k refl

  pub told : (p : Runner) (v : Service) (c : ReturnCode) (outputs : List ℤ) → Kept (answers s p v c outputs)
  told p v c outputs = here q name s h _ _ (tt, tt)

  still : Kept (nothing s)
  still = here q name s h [] [] tt

  on_any : (o : Option (Runner × ProcessStatus)) (step : Runner → ProcessStatus → Step Processes) → ((p : Runner) (r : ProcessStatus) → Kept (step p r)) → Kept (on o s step)
  on_any None step k = still
  on_any (Some f) step k = k f.0 f.1

  -- ---- the process with a number

  was_true : (b : Bool) → not b ≡ false → b ≡ true
  was_true true e = refl
  was_true false e = absurd (false≢true (sym e))

  known_finds : (id : ℤ) → is_unknown s id ≡ false → FindsOther q name s (process_at s id)
  known_finds id known f e =
      let row = at_found s id f e in
      let created : f.1.created ≡ true = sym (ap (λ (o : Option (Runner × ProcessStatus)). has o is_created) e) ∙ was_true (has (process_at s id) is_created) known in
      ((λ i. let new = h.rows.own f.1 (subst (λ (j : ℕ). slice_get s.rows j ≡ Some f.1) i row) in false≢true (sym new.created ∙ created)), row)

  other_finds : (p : Runner) (id : ℤ) → is_no_other s p id ≡ false → FindsOther q name s (process_at s id)
  other_finds p id e = known_finds id (or_parts (is_unknown s id) (is_own p (process_at s id)) e).0

  numbered_finds : (id : ℤ) → id ≢ pos (suc q) → FindsOther q name s (process_at s id)
  numbered_finds (negsuc n) other f e = absurd (none-some f e)
  numbered_finds (pos zero) other f e = absurd (none-some f e)
  numbered_finds (pos (suc n)) other f e = entry_finds q name s (index n) (λ k. other (ap (λ (m : ℕ). pos (suc m)) k)) f e

  on_it : (id : ℤ) (step : Runner → ProcessStatus → Step Processes) → FindsOther q name s (process_at s id) → ((p : Runner) (r : ProcessStatus) → IsOther q name p → row_of s p ≡ Some r → Kept (step p r)) → Kept (on (process_at s id) s step)
  on_it id step found k = on_found q name s h (process_at s id) step found k

  -- ---- the starts

  pub in_normal_keeps : (at : At) (next : ℕ) (p : Runner) (delay : Ticks) (r x : ProcessStatus) → IsOther q name p → row_of s p ≡ Some r → x.who ≡ r.who → Kept (starts_in_normal at next s p delay x)
  in_normal_keeps at next p delay r x other there who = search (either, waits_keeps q name s h p r, wakes_keeps q name s h p r)

  starts_keeps : (m : Mode) (at : At) (next : ℕ) (p : Runner) (delay : Ticks) (r : ProcessStatus) → IsOther q name p → row_of s p ≡ Some r → Kept (starts m at next s p delay r)
  starts_keeps m at next p delay r other there =
      let k = either q name (is_normal m) _ _ (in_normal_keeps at next p delay r (record r { current_priority = r.base_priority }) other there refl) (waits_keeps q name s h p r (record r { current_priority = r.base_priority }) (wait.NormalStart delay) None other there refl) in
      record { part = k.part; lines = k.lines }

  -- ---- the services of another runner

  module _ (p : Runner) (other : IsOther q name p) where
    pub get_process_id_keeps : (id : ℤ) → Kept (get_process_id s p id)
    get_process_id_keeps id = either q name (is_unknown s id) _ _ (told p _ _ _) (told p _ _ _)

    pub get_process_status_keeps : (id : ℤ) → Kept (get_process_status s p id)
    get_process_status_keeps id = either q name (is_unknown s id) _ _ (told p _ _ _) (on_any (process_at s id) (tells_status s p) (λ i r. told p _ _ _))

    pub create_process_keeps : (m : Mode) (id : ℤ) → id ≢ pos (suc q) → Kept (create_process m s p id)
    create_process_keeps m id fresh =
        either q name (is_normal m) _ _ (told p _ _ _) (either q name (not (is_some (process_at s id))) _ _ (told p _ _ _) (either q name (has (process_at s id) is_created) _ _ (told p _ _ _)
        (in_turn q name _ _ (told p _ _ _) (on_it id (creates s) (numbered_finds id fresh) (λ i r o there. record { part = put_keeps q name s h i r (record r { created = true }) o there refl; lines = tt })))))

    takes_keeps : (v : Priority) (i : Runner) (r : ProcessStatus) → IsOther q name i → row_of s i ≡ Some r → Kept (takes_priority s v i r)
    takes_keeps v i r o there = by_test (is_ready_state r.state)
      where
        raised : ProcessStatus
        raised = record r { current_priority = v }

        by_test : (b : Bool) → Kept (nothing (if b then Rattle.kernel_meaning.specs.Processes.put_ready s i raised else Rattle.kernel_meaning.specs.Processes.put_row s i raised))
        by_test true = record { part = ready_keeps q name s h i r raised o there refl; lines = tt }
        by_test false = record { part = put_keeps q name s h i r raised o there refl; lines = tt }

    pub set_priority_keeps : (id v : ℤ) → Kept (set_priority s p id v)
    set_priority_keeps id v =
        passed (is_unknown s id) _ _ (told p _ _ _) (λ known. either q name (not (is_priority v)) _ _ (told p _ _ _) (either q name (has (process_at s id) is_dormant) _ _ (told p _ _ _)
        (in_turn q name _ _ (told p _ _ _) (on_it id (takes_priority s (priority_of v)) (known_finds id known) (λ i r o there. takes_keeps (priority_of v) i r o there)))))

    suspends_self_keeps : (at : At) (limit : ℤ) → Kept (suspends_self at s p limit (row_of s p))
    suspends_self_keeps at limit = by_row (row_of s p) refl
      where
        by_row : (o : Option ProcessStatus) → row_of s p ≡ o → Kept (suspends_self at s p limit o)
        by_row None e = still
        by_row (Some r) e = waits_keeps q name s h p r (record r { suspended = true }) _ _ other e refl

    pub suspend_self_keeps : (at : At) (limit : ℤ) → Kept (suspend_self at s p limit)
    suspend_self_keeps at limit =
        either q name (is_busy s p) _ _ (told p _ _ _) (either q name (not (is_duration limit)) _ _ (told p _ _ _) (either q name (of_row is_periodic (row_of s p)) _ _ (told p _ _ _)
        (either q name (is_zero limit) _ _ (told p _ _ _) (suspends_self_keeps at limit))))

    pub suspend_keeps : (id : ℤ) → Kept (suspend s p id)
    suspend_keeps id =
        passed (is_no_other s p id) _ _ (told p _ _ _) (λ known. either q name (has (process_at s id) is_dormant || has (process_at s id) is_periodic || is_holder s.lock (process_at s id)) _ _ (told p _ _ _)
        (either q name (has (process_at s id) is_suspended) _ _ (told p _ _ _)
        (in_turn q name _ _ (told p _ _ _) (on_it id (suspends s) (other_finds p id known) (λ i r o there. waits_keeps q name s h i r (record r { suspended = true }) r.wait r.due o there refl)))))

    resumes_from_keeps : (i : Runner) (r : ProcessStatus) (w : Wait) → IsOther q name i → row_of s i ≡ Some r → Kept (resumes_from s i (record r { suspended = false }) w)
    resumes_from_keeps i r wait.Nothing o there = wakes_keeps q name s h i r (record r { suspended = false }) o there refl
    resumes_from_keeps i r (wait.Service service.SuspendSelf) o there = released_with_keeps q name s h i r (record r { suspended = false }) code.NoError (zeros_of_wait r.wait) o there refl
    resumes_from_keeps i r _ o there = record { part = put_keeps q name s h i r (record r { suspended = false }) o there refl; lines = tt }

    pub resume_keeps : (id : ℤ) → Kept (resume s p id)
    resume_keeps id =
        passed (is_no_other s p id) _ _ (told p _ _ _) (λ known. either q name (has (process_at s id) is_dormant || has (process_at s id) is_periodic) _ _ (told p _ _ _)
        (either q name (not (has (process_at s id) is_suspended)) _ _ (told p _ _ _)
        (in_turn q name _ _ (told p _ _ _) (on_it id (resumes s) (other_finds p id known) (λ i r o there. resumes_from_keeps i r r.wait o there)))))

    pub stop_keeps : (id : ℤ) → Kept (stop s p id)
    stop_keeps id =
        passed (is_no_other s p id) _ _ (told p _ _ _) (λ known. either q name (has (process_at s id) is_dormant) _ _ (told p _ _ _)
        (in_turn q name _ _ (told p _ _ _) (on_it id (rests s) (other_finds p id known) (λ i r o there. rests_keeps q name s h i r o there))))

    pub start_keeps : (m : Mode) (at : At) (next : ℕ) (id : ℤ) → Kept (start m at next s p id)
    start_keeps m at next id =
        passed (is_unknown s id) _ _ (told p _ _ _) (λ known. either q name (not (has (process_at s id) is_dormant)) _ _ (told p _ _ _)
        (in_turn q name _ _ (told p _ _ _) (on_it id (λ i. starts m at next s i (ticks 0)) (known_finds id known) (λ i r o there. starts_keeps m at next i (ticks 0) r o there))))

    pub delayed_start_keeps : (m : Mode) (at : At) (next : ℕ) (id delay : ℤ) → Kept (delayed_start m at next s p id delay)
    delayed_start_keeps m at next id delay =
        passed (is_unknown s id) _ _ (told p _ _ _) (λ known. either q name (not (is_delay delay)) _ _ (told p _ _ _) (either q name (has (process_at s id) (λ r. is_beyond (amount delay) r.period)) _ _ (told p _ _ _)
        (either q name (not (has (process_at s id) is_dormant)) _ _ (told p _ _ _)
        (in_turn q name _ _ (told p _ _ _) (on_it id (λ i. starts m at next s i (ticks (amount delay))) (known_finds id known) (λ i r o there. starts_keeps m at next i (ticks (amount delay)) r o there))))))

    lock_keeps : (v : Service) (l : Lock) → Kept (with_lock s p v l)
    lock_keeps v l = record { part = record { rows = h.rows; queues = h.queues }; lines = (tt, tt) }

    pub lock_preemption_keeps : (m : Mode) → Kept (lock_preemption m s p)
    lock_preemption_keeps m = either q name (may_not_lock m p) _ _ (told p _ _ _) (either q name (nat_le MOST_LOCK_LEVEL (level_of s.lock)) _ _ (told p _ _ _) (lock_keeps _ _))

    pub unlock_preemption_keeps : (m : Mode) → Kept (unlock_preemption m s p)
    unlock_preemption_keeps m = either q name (may_not_lock m p || not (is_held s.lock)) _ _ (told p _ _ _) (lock_keeps _ _)

    pub get_my_id_keeps : (o : Option ℕ) → Kept (get_my_id s p o)
    get_my_id_keeps None = told p _ _ _
    get_my_id_keeps (Some n) = told p _ _ _

    yields_keeps : Kept (yields s p (row_of s p))
    yields_keeps = by_row (row_of s p) refl
      where
        by_row : (o : Option ProcessStatus) → row_of s p ≡ o → Kept (yields s p o)
        by_row None e = still
        by_row (Some r) e = record { part = ready_keeps q name s h p r r other e refl; lines = tt }

    until_keeps : (tick : ℕ) → Kept (waits_until s p (row_of s p) tick)
    until_keeps tick = by_row (row_of s p) refl
      where
        by_row : (o : Option ProcessStatus) → row_of s p ≡ o → Kept (waits_until s p o tick)
        by_row None e = still
        by_row (Some r) e = waits_keeps q name s h p r r _ _ other e refl

    delays_keeps : (at : At) (delay : ℤ) → Kept (delays at s p delay)
    delays_keeps at (negsuc n) = still
    delays_keeps at (pos zero) = in_turn q name _ _ (told p _ _ _) yields_keeps
    delays_keeps at (pos (suc n)) = until_keeps (at.now.0 + suc n)

    pub timed_wait_keeps : (at : At) (delay : ℤ) → Kept (timed_wait at s p delay)
    timed_wait_keeps at delay = either q name (is_busy s p) _ _ (told p _ _ _) (either q name (not (is_delay delay)) _ _ (told p _ _ _) (delays_keeps at delay))

    periodically_keeps : Kept (waits_periodically s p (row_of s p))
    periodically_keeps = by_row (row_of s p) refl
      where
        by_period : (r : ProcessStatus) → row_of s p ≡ Some r → (o : Option Ticks) → Kept (waits_for_period s p r o)
        by_period r e None = still
        by_period r e (Some period) = waits_keeps q name s h p r (record r { deadline = None }) _ _ other e refl

        by_row : (o : Option ProcessStatus) → row_of s p ≡ o → Kept (waits_periodically s p o)
        by_row None e = still
        by_row (Some r) e = by_period r e r.period

    pub periodic_wait_keeps : Kept (periodic_wait s p)
    periodic_wait_keeps = either q name (is_busy s p) _ _ (told p _ _ _) (either q name (not (of_row is_periodic (row_of s p))) _ _ (told p _ _ _) periodically_keeps)

    replenishes_keeps : (at : At) (budget : ℤ) → Kept (replenishes at s p budget (row_of s p))
    replenishes_keeps at budget = by_row (row_of s p) refl
      where
        by_row : (o : Option ProcessStatus) → row_of s p ≡ o → Kept (replenishes at s p budget o)
        by_row None e = still
        by_row (Some r) e = record { part = put_keeps q name s h p r _ other e refl; lines = tt }

    pub replenish_keeps : (m : Mode) (at : At) (budget : ℤ) → Kept (replenish m at s p budget)
    replenish_keeps m at budget =
        either q name (may_not_lock m p) _ _ (told p _ _ _) (either q name (not (is_duration budget)) _ _ (told p _ _ _) (either q name (of_row has_no_deadline (row_of s p)) _ _ (told p _ _ _)
        (either q name (of_row (λ r. reaches_past at budget r r.period) (row_of s p)) _ _ (told p _ _ _) (in_turn q name _ _ (told p _ _ _) (replenishes_keeps at budget)))))
