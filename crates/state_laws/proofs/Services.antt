-- The lines of the services on processes and on time, and of the starts, agree with them.
use Rattle.std.proofs.Common.{◌≡◌, ℕ, zero, suc, ℤ, pos, negsuc, Bool, true, false, not, List, [], length, Option, Some, None, refl, sym, ap, ◌∙◌, subst}
use Rattle.std.specs.Prelude.{◌+◌, ◌-◌, ◌==◌, ◌||◌, if◌then◌else◌, is_some, nat_le}
use Rattle.std.proofs.lemmas.Bool.{false≢true}
use Rattle.std.proofs.lemmas.Option.{none-some, same_Some}
use Rattle.apex_types.specs.declared.codes.Mode.{Mode}
use Rattle.apex_types.specs.declared.codes.ReturnCode.{ReturnCode}
use Rattle.apex_types.specs.declared.codes.ReturnCode.TheVariants as code
use Rattle.apex_types.specs.declared.identity.At.{At}
use Rattle.apex_types.specs.declared.identity.Priority.{Priority}
use Rattle.apex_types.specs.declared.identity.ProcessIndex.{ProcessIndex}
use Rattle.apex_types.specs.declared.identity.Runner.{Runner}
use Rattle.apex_types.specs.declared.identity.Runner.TheVariants as runner
use Rattle.apex_types.specs.declared.identity.Ticks.{Ticks}
use Rattle.apex_types.specs.declared.limits.TheConstants.{MOST_LOCK_LEVEL}
use Rattle.apex_types.specs.declared.process.Lock.{Lock}
use Rattle.apex_types.specs.declared.process.ProcessStatus.{ProcessStatus}
use Rattle.apex_types.specs.declared.process.Wait.{Wait}
use Rattle.apex_types.specs.declared.process.Wait.TheVariants as wait
use Rattle.apex_types.specs.declared.service.Service.{Service}
use Rattle.apex_types.specs.declared.service.Service.TheVariants as service
use Rattle.engine_meaning.specs.Operators.{is_zero}
use Rattle.kernel_laws.proofs.Records.{at_found}
use Rattle.kernel_laws.proofs.RecordRows.{was_true}
use Rattle.kernel_meaning.specs.Processes.{Processes, row_of, index, numbered, process_at, has, on, answers, rests, zeros_of_wait, put_ready, put_row, is_created, is_dormant, is_dormant_state, is_suspended, is_periodic, is_unknown, is_no_other, is_busy, is_held, is_normal}
use Rattle.kernel_meaning.specs.ProcessServices.{get_process_id, get_process_status, tells_status, create_process, creates, set_priority, takes_priority, priority_of, is_priority, is_ready_state, suspend_self, suspends_self, of_row, suspend, suspends, is_holder, resume, resumes, resumes_from, stop, stop_self, start, delayed_start, is_beyond, lock_preemption, unlock_preemption, with_lock, level_of, may_not_lock, get_my_id, timed_wait, delays, yields, waits_until, periodic_wait, waits_periodically, waits_for_period, replenish, replenishes, has_no_deadline, reaches_past}
use Rattle.kernel_meaning.specs.Step.{Step, nothing, after}
use Rattle.kernel_meaning.specs.Times.{is_delay, is_duration, amount, released_at, ticks, start_all_waiting, start_from, starts, starts_if_waiting, starts_in_normal, starts_waiting}
use Rattle.state_laws.specs.Told.{Told, worker_by_lines}
use Rattle.state_laws.proofs.Agreement.{reads, IsRunning, Agrees, Goes, works, in_turn}
use Rattle.state_laws.proofs.Changes.{IsNotRunning, here, kept, kept_out, out_if, out_by_state, wakes_goes, waits_goes, rests_goes, rests_found_goes, released_with_goes}

-- a record that stays as plain
pub still_running : (p : Runner) (r x : ProcessStatus) → x.state ≡ r.state → x.suspended ≡ r.suspended → x.wait ≡ r.wait → x.due ≡ r.due → IsRunning p (Some r) → IsRunning p (Some x)
still_running p r x state suspended wait due k = (
  state ∙ k.0,
  λ q is. let plain = k.1 q is in record {
    suspended = λ e. suspended ∙ plain.suspended (ap is_ready_state (sym state) ∙ e);
    waits = λ e. wait ∙ plain.waits (ap is_ready_state (sym state) ∙ e);
    due = λ e. due ∙ plain.due (ap is_ready_state (sym state) ∙ e);
  },
)

-- a process that runs is not suspended, waits for nothing and has no due time
module _ (i : ProcessIndex) (r : ProcessStatus) (k : IsRunning (runner.Process i) (Some r)) where
  pub runs_unsuspended : r.suspended ≡ false
  runs_unsuspended = let plain = k.1 i refl in plain.suspended (ap is_ready_state k.0)

  pub runs_without_wait : r.wait ≡ wait.Nothing
  runs_without_wait = let plain = k.1 i refl in plain.waits (ap is_ready_state k.0)

  pub runs_without_due : r.due ≡ None
  runs_without_due = let plain = k.1 i refl in plain.due (ap is_ready_state k.0)

is_nothing : Wait → Bool
is_nothing wait.Nothing = true
is_nothing _ = false

waits_for_something : (delay : Ticks) → wait.NormalStart delay ≡ wait.Nothing → ⊥
unfolding is_nothing
waits_for_something delay e = false≢true (ap is_nothing e)

-- what has a number is a process
is_process_at : (s : Processes) (id : ℤ) (q : Runner) (r : ProcessStatus) → process_at s id ≡ Some (q, r) → (i : ProcessIndex) × (runner.Process i ≡ q)
is_process_at s (negsuc n) q r e = absurd (none-some (q, r) e)
is_process_at s (pos zero) q r e = absurd (none-some (q, r) e)
is_process_at s (pos (suc n)) q r e = by_row (row_of s (runner.Process (index n))) e
  where
    by_row : (o : Option ProcessStatus) → numbered (index n) o ≡ Some (q, r) → (i : ProcessIndex) × (runner.Process i ≡ q)
    by_row None k = absurd (none-some (q, r) k)
    by_row (Some y) k = (index n, ap (λ (f : Runner × ProcessStatus). f.0) (same_Some (runner.Process (index n), y) (q, r) k))

module _ (tick : ℕ) (t : Told) (s : Processes) (h : Agrees t s) where
  abbrev Kept : Step Processes → Type 0
  Kept u = Goes (worker_by_lines tick) tick t u

  unless : (b : Bool) (u v : Step Processes) → Kept u → (b ≡ false → Kept v) → Kept (if b then u else v)
  unless true u v k rest = k
  unless false u v k rest = rest refl

  test : (b : Bool) (u v : Step Processes) → Kept u → Kept v → Kept (if b then u else v)
  test true u v k l = k
  test false u v k l = l

  pub told : (p : Runner) (v : Service) (c : ReturnCode) (outputs : List ℤ) → Kept (answers s p v c outputs)
  told p v c outputs = record { agrees = h; mode = refl; same = refl }

  told_then : (p : Runner) (v : Service) (c : ReturnCode) (outputs : List ℤ) (u : Step Processes) → Kept u → Kept (after (answers s p v c outputs) u)
  told_then p v c outputs u k = record { agrees = k.agrees; mode = k.mode; same = k.same }

  still : Kept (nothing s)
  still = here tick t s h (worker_by_lines tick) []

  -- a step for the process with a number
  on_it : (id : ℤ) (step : Runner → ProcessStatus → Step Processes) → ((q : Runner) (r : ProcessStatus) → process_at s id ≡ Some (q, r) → row_of s q ≡ Some r → Kept (step q r)) → Kept (on (process_at s id) s step)
  on_it id step k = by_found (process_at s id) refl
    where
      by_found : (o : Option (Runner × ProcessStatus)) → process_at s id ≡ o → Kept (on o s step)
      by_found None e = still
      by_found (Some f) e = k f.0 f.1 e (at_found s id f e)

  -- another record that is the same in all that is told, and as plain
  row_goes : (q : Runner) (r x : ProcessStatus) → row_of s q ≡ Some r → x.who ≡ r.who → x.state ≡ r.state → x.suspended ≡ r.suspended → x.wait ≡ r.wait → x.due ≡ r.due → Kept (nothing (put_row s q x))
  row_goes q r x there who state suspended wait due = record { agrees = kept tick t s h q r x there who state (still_running q r x state suspended wait due); mode = refl; same = refl }

  ready_goes : (q : Runner) (r x : ProcessStatus) → row_of s q ≡ Some r → x.who ≡ r.who → x.state ≡ r.state → x.suspended ≡ r.suspended → x.wait ≡ r.wait → x.due ≡ r.due → Kept (nothing (put_ready s q x))
  ready_goes q r x there who state suspended wait due = let k = row_goes q r x there who state suspended wait due in record { agrees = k.agrees; mode = k.mode; same = k.same }

  -- ---- starts

  in_normal_goes : (at : At) (next : ℕ) (q : Runner) (delay : Ticks) (r x : ProcessStatus) → row_of s q ≡ Some r → x.who ≡ r.who → x.state ≡ r.state → IsNotRunning s q → Kept (starts_in_normal at next s q delay x)
  in_normal_goes at next q delay r x there who state out =
      test (is_periodic x) _ _ (waits_goes tick t s h q r x _ _ there who state)
      (test (delay.0 == 0) _ _ (works tick t _ (wakes_goes tick t s h q r (released_at at.now x) there who state out)) (waits_goes tick t s h q r x _ _ there who state))

  starts_goes : (m : Mode) (at : At) (next : ℕ) (q : Runner) (delay : Ticks) (r : ProcessStatus) → row_of s q ≡ Some r → IsNotRunning s q → Kept (starts m at next s q delay r)
  starts_goes m at next q delay r there out =
      let fresh : ProcessStatus = record r { current_priority = r.base_priority } in
      let k = test (is_normal m) _ _ (in_normal_goes at next q delay r fresh there refl refl out) (waits_goes tick t s h q r fresh (wait.NormalStart delay) None there refl refl) in
      record { agrees = k.agrees; mode = k.mode; same = k.same }

  -- a dormant process does not run
  dormant_out : (id : ℤ) (q : Runner) (r : ProcessStatus) → not (has (process_at s id) is_dormant) ≡ false → process_at s id ≡ Some (q, r) → row_of s q ≡ Some r → IsNotRunning s q
  dormant_out id q r e o there =
      let d : is_dormant_state r.state ≡ true = sym (ap (λ (f : Option (Runner × ProcessStatus)). has f is_dormant) o) ∙ was_true (has (process_at s id) is_dormant) e in
      out_by_state tick t s h q r there (λ i. false≢true (sym (ap is_dormant_state i) ∙ d))

  -- nor a suspended one
  suspended_out : (id : ℤ) (q : Runner) (r : ProcessStatus) → not (has (process_at s id) is_suspended) ≡ false → process_at s id ≡ Some (q, r) → row_of s q ≡ Some r → IsNotRunning s q
  suspended_out id q r e o there =
      let d : r.suspended ≡ true = sym (ap (λ (f : Option (Runner × ProcessStatus)). has f is_suspended) o) ∙ was_true (has (process_at s id) is_suspended) e in
      let is = is_process_at s id q r o in
      out_if tick t s h q r there (λ k. false≢true (sym (runs_unsuspended is.0 r (subst (λ (p : Runner). IsRunning p (Some r)) (sym is.1) k)) ∙ d))

  if_waiting : (at : At) (next : ℕ) (i : ProcessIndex) (r : ProcessStatus) → row_of s (runner.Process i) ≡ Some r → (w : Wait) → r.wait ≡ w → Kept (starts_if_waiting at next s (runner.Process i) r w)
  if_waiting at next i r there (wait.NormalStart delay) e =
      in_normal_goes at next (runner.Process i) delay r r there refl refl (out_if tick t s h (runner.Process i) r there (λ k. waits_for_something delay (sym e ∙ runs_without_wait i r k)))
  if_waiting at next i r there _ e = still

  pub starts_waiting_goes : (at : At) (next : ℕ) (i : ProcessIndex) → Kept (starts_waiting at next s (runner.Process i) (row_of s (runner.Process i)))
  starts_waiting_goes at next i = by_row (row_of s (runner.Process i)) refl
    where
      by_row : (o : Option ProcessStatus) → row_of s (runner.Process i) ≡ o → Kept (starts_waiting at next s (runner.Process i) o)
      by_row None e = still
      by_row (Some r) e = if_waiting at next i r e r.wait refl

  -- ---- the services

  module _ (p : Runner) where
    pub get_process_id_goes : (id : ℤ) → Kept (get_process_id s p id)
    get_process_id_goes id = test (is_unknown s id) _ _ (told p _ _ _) (told p _ _ _)

    pub get_process_status_goes : (id : ℤ) → Kept (get_process_status s p id)
    get_process_status_goes id = test (is_unknown s id) _ _ (told p _ _ _) (on_it id (tells_status s p) (λ q r o there. told p _ _ _))

    pub create_process_goes : (m : Mode) (id : ℤ) → Kept (create_process m s p id)
    create_process_goes m id =
        test (is_normal m) _ _ (told p _ _ _) (test (not (is_some (process_at s id))) _ _ (told p _ _ _) (test (has (process_at s id) is_created) _ _ (told p _ _ _)
        (told_then p _ _ _ _ (on_it id (creates s) (λ q r o there. row_goes q r (record r { created = true }) there refl refl refl refl refl)))))

    takes_goes : (v : Priority) (q : Runner) (r : ProcessStatus) → row_of s q ≡ Some r → Kept (takes_priority s v q r)
    takes_goes v q r there = by_test (is_ready_state r.state)
      where
        raised : ProcessStatus
        raised = record r { current_priority = v }

        by_test : (b : Bool) → Kept (nothing (if b then put_ready s q raised else put_row s q raised))
        by_test true = ready_goes q r raised there refl refl refl refl refl
        by_test false = row_goes q r raised there refl refl refl refl refl

    pub set_priority_goes : (id v : ℤ) → Kept (set_priority s p id v)
    set_priority_goes id v =
        test (is_unknown s id) _ _ (told p _ _ _) (test (not (is_priority v)) _ _ (told p _ _ _) (test (has (process_at s id) is_dormant) _ _ (told p _ _ _)
        (told_then p _ _ _ _ (on_it id (takes_priority s (priority_of v)) (λ q r o there. takes_goes (priority_of v) q r there)))))

    suspends_self_goes : (at : At) (limit : ℤ) → Kept (suspends_self at s p limit (row_of s p))
    suspends_self_goes at limit = by_row (row_of s p) refl
      where
        by_row : (o : Option ProcessStatus) → row_of s p ≡ o → Kept (suspends_self at s p limit o)
        by_row None e = still
        by_row (Some r) e = waits_goes tick t s h p r (record r { suspended = true }) _ _ e refl refl

    pub suspend_self_goes : (at : At) (limit : ℤ) → Kept (suspend_self at s p limit)
    suspend_self_goes at limit =
        test (is_busy s p) _ _ (told p _ _ _) (test (not (is_duration limit)) _ _ (told p _ _ _) (test (of_row is_periodic (row_of s p)) _ _ (told p _ _ _)
        (test (is_zero limit) _ _ (told p _ _ _) (suspends_self_goes at limit))))

    pub suspend_goes : (id : ℤ) → Kept (suspend s p id)
    suspend_goes id =
        test (is_no_other s p id) _ _ (told p _ _ _) (test (has (process_at s id) is_dormant || has (process_at s id) is_periodic || is_holder s.lock (process_at s id)) _ _ (told p _ _ _)
        (test (has (process_at s id) is_suspended) _ _ (told p _ _ _)
        (told_then p _ _ _ _ (on_it id (suspends s) (λ q r o there. waits_goes tick t s h q r (record r { suspended = true }) r.wait r.due there refl refl)))))

    resumes_from_goes : (q : Runner) (r : ProcessStatus) (w : Wait) → row_of s q ≡ Some r → IsNotRunning s q → Kept (resumes_from s q (record r { suspended = false }) w)
    resumes_from_goes q r wait.Nothing there out = works tick t _ (wakes_goes tick t s h q r (record r { suspended = false }) there refl refl out)
    resumes_from_goes q r (wait.Service service.SuspendSelf) there out =
        works tick t _ (released_with_goes tick t s h q r (record r { suspended = false }) code.NoError (zeros_of_wait r.wait) there refl refl out)
    resumes_from_goes q r _ there out = record { agrees = kept_out tick t s h q r (record r { suspended = false }) there refl refl out; mode = refl; same = refl }

    pub resume_goes : (id : ℤ) → Kept (resume s p id)
    resume_goes id =
        test (is_no_other s p id) _ _ (told p _ _ _) (test (has (process_at s id) is_dormant || has (process_at s id) is_periodic) _ _ (told p _ _ _)
        (unless (not (has (process_at s id) is_suspended)) _ _ (told p _ _ _)
        (λ e. told_then p _ _ _ _ (on_it id (resumes s) (λ q r o there. resumes_from_goes q r r.wait there (suspended_out id q r e o there))))))

    pub stop_goes : (id : ℤ) → Kept (stop s p id)
    stop_goes id =
        test (is_no_other s p id) _ _ (told p _ _ _) (test (has (process_at s id) is_dormant) _ _ (told p _ _ _)
        (told_then p _ _ _ _ (on_it id (rests s) (λ q r o there. rests_goes tick t s h q r there))))

    pub stop_self_goes : Kept (stop_self s p)
    stop_self_goes = by_runner p
      where
        by_runner : (q : Runner) → Kept (stop_self s q)
        by_runner runner.Init = still
        by_runner runner.Handler = rests_found_goes tick t s h runner.Handler
        by_runner (runner.Process i) = rests_found_goes tick t s h (runner.Process i)

    pub start_goes : (m : Mode) (at : At) (next : ℕ) (id : ℤ) → Kept (start m at next s p id)
    start_goes m at next id =
        test (is_unknown s id) _ _ (told p _ _ _) (unless (not (has (process_at s id) is_dormant)) _ _ (told p _ _ _)
        (λ e. told_then p _ _ _ _ (on_it id (λ q. starts m at next s q (ticks 0)) (λ q r o there. starts_goes m at next q (ticks 0) r there (dormant_out id q r e o there)))))

    pub delayed_start_goes : (m : Mode) (at : At) (next : ℕ) (id delay : ℤ) → Kept (delayed_start m at next s p id delay)
    delayed_start_goes m at next id delay =
        test (is_unknown s id) _ _ (told p _ _ _) (test (not (is_delay delay)) _ _ (told p _ _ _) (test (has (process_at s id) (λ r. is_beyond (amount delay) r.period)) _ _ (told p _ _ _)
        (unless (not (has (process_at s id) is_dormant)) _ _ (told p _ _ _)
        (λ e. told_then p _ _ _ _ (on_it id (λ q. starts m at next s q (ticks (amount delay))) (λ q r o there. starts_goes m at next q (ticks (amount delay)) r there (dormant_out id q r e o there)))))))

    lock_goes : (v : Service) (l : Lock) → Kept (with_lock s p v l)
    lock_goes v l = record { agrees = h; mode = refl; same = refl }

    pub lock_preemption_goes : (m : Mode) → Kept (lock_preemption m s p)
    lock_preemption_goes m = test (may_not_lock m p) _ _ (told p _ _ _) (test (nat_le MOST_LOCK_LEVEL (level_of s.lock)) _ _ (told p _ _ _) (lock_goes _ _))

    pub unlock_preemption_goes : (m : Mode) → Kept (unlock_preemption m s p)
    unlock_preemption_goes m = test (may_not_lock m p || not (is_held s.lock)) _ _ (told p _ _ _) (lock_goes _ _)

    pub get_my_id_goes : (o : Option ℕ) → Kept (get_my_id s p o)
    get_my_id_goes None = told p _ _ _
    get_my_id_goes (Some n) = told p _ _ _

    yields_goes : Kept (yields s p (row_of s p))
    yields_goes = by_row (row_of s p) refl
      where
        by_row : (o : Option ProcessStatus) → row_of s p ≡ o → Kept (yields s p o)
        by_row None e = still
        by_row (Some r) e = ready_goes p r r e refl refl refl refl refl

    until_goes : (due : ℕ) → Kept (waits_until s p (row_of s p) due)
    until_goes due = by_row (row_of s p) refl
      where
        by_row : (o : Option ProcessStatus) → row_of s p ≡ o → Kept (waits_until s p o due)
        by_row None e = still
        by_row (Some r) e = waits_goes tick t s h p r r _ _ e refl refl

    delays_goes : (at : At) (delay : ℤ) → Kept (delays at s p delay)
    delays_goes at (negsuc n) = still
    delays_goes at (pos zero) = told_then p _ _ _ _ yields_goes
    delays_goes at (pos (suc n)) = until_goes (at.now.0 + suc n)

    pub timed_wait_goes : (at : At) (delay : ℤ) → Kept (timed_wait at s p delay)
    timed_wait_goes at delay = test (is_busy s p) _ _ (told p _ _ _) (test (not (is_delay delay)) _ _ (told p _ _ _) (delays_goes at delay))

    periodically_goes : Kept (waits_periodically s p (row_of s p))
    periodically_goes = by_row (row_of s p) refl
      where
        by_period : (r : ProcessStatus) → row_of s p ≡ Some r → (o : Option Ticks) → Kept (waits_for_period s p r o)
        by_period r e None = still
        by_period r e (Some period) = waits_goes tick t s h p r (record r { deadline = None }) _ _ e refl refl

        by_row : (o : Option ProcessStatus) → row_of s p ≡ o → Kept (waits_periodically s p o)
        by_row None e = still
        by_row (Some r) e = by_period r e r.period

    pub periodic_wait_goes : Kept (periodic_wait s p)
    periodic_wait_goes = test (is_busy s p) _ _ (told p _ _ _) (test (not (of_row is_periodic (row_of s p))) _ _ (told p _ _ _) periodically_goes)

    replenishes_goes : (at : At) (budget : ℤ) → Kept (replenishes at s p budget (row_of s p))
    replenishes_goes at budget = by_row (row_of s p) refl
      where
        by_row : (o : Option ProcessStatus) → row_of s p ≡ o → Kept (replenishes at s p budget o)
        by_row None e = still
        by_row (Some r) e = row_goes p r _ e refl refl refl refl refl

    pub replenish_goes : (m : Mode) (at : At) (budget : ℤ) → Kept (replenish m at s p budget)
    replenish_goes m at budget =
        test (may_not_lock m p) _ _ (told p _ _ _) (test (not (is_duration budget)) _ _ (told p _ _ _) (test (of_row has_no_deadline (row_of s p)) _ _ (told p _ _ _)
        (test (of_row (λ r. reaches_past at budget r r.period) (row_of s p)) _ _ (told p _ _ _) (told_then p _ _ _ _ (replenishes_goes at budget)))))

-- ---- the normal start

start_from_goes : (tick : ℕ) (at : At) (next n place : ℕ) (t : Told) (s : Processes) → Agrees t s → Goes (worker_by_lines tick) tick t (start_from at next n place s)
start_from_goes tick at next zero place t s h = here tick t s h (worker_by_lines tick) []
start_from_goes tick at next (suc n) place t s h =
    let u = starts_waiting at next s (runner.Process (index place)) (row_of s (runner.Process (index place))) in
    let k = starts_waiting_goes tick t s h at next (index place) in
    in_turn (worker_by_lines tick) tick t u (start_from at next n (place + 1) u.part) k (start_from_goes tick at next n (place + 1) (reads tick t u.lines) u.part k.agrees)

pub all_start_go : (tick : ℕ) (at : At) (next : ℕ) (t : Told) (s : Processes) → Agrees t s → Goes (worker_by_lines tick) tick t (start_all_waiting at next s)
all_start_go tick at next t s h = start_from_goes tick at next (length s.rows - 2) 0 t s h
