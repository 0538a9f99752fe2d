-- The services on processes and on time, and the starts, keep the agreement of the waiting lists with the records.
use Rattle.kernel_laws.proofs.Prelude.{◌≡◌, ℕ, zero, suc, ◌+◌, ℤ, Bool, true, false, length, Option, Some, None, refl, sym, subst, ◌∙◌, ◌==◌, ◌||◌, if◌then◌else◌, is_some, nat_le, not, pos, negsuc, MOST_LOCK_LEVEL, Mode, Waiting, At, Priority, ProcessIndex, Runner, Ticks, Due, ProcessStatus, Wait, amount, is_delay, is_duration, is_zero, is_ready, get_process_id, get_process_status, tells_status, create_process, creates, set_priority, takes_priority, is_priority, priority_of, is_ready_state, suspend_self, suspends_self, of_row, is_holder, suspend, suspends, resume, resumes, resumes_from, stop, start, delayed_start, is_beyond, level_of, may_not_lock, lock_preemption, unlock_preemption, get_my_id, Processes, row_of, waits, index, process_at, on, is_created, is_dormant, is_held, is_periodic, is_suspended, is_unknown, is_no_other, is_busy, is_normal, put_row, put_ready, starts, starts_in_normal, starts_if_waiting, starts_waiting, start_from, released_at, ticks, Step, timed_wait, delays, yields, waits_until, periodic_wait, waits_periodically, waits_for_period, replenish, replenishes, deadline_in, has_no_deadline, reaches_past, RecordsAgree, record_at}
use Rattle.std.proofs.Common.{ap}
use Rattle.std.proofs.lemmas.Bool.{false≢true}
use Rattle.std.specs.Prelude.{◌-◌}
use Rattle.apex_types.specs.declared.codes.ReturnCode.TheVariants as code
use Rattle.apex_types.specs.declared.identity.Runner.TheVariants as runner
use Rattle.apex_types.specs.declared.process.Wait.TheVariants as wait
use Rattle.apex_types.specs.declared.service.Service.TheVariants as service
use Rattle.kernel_meaning.specs.ProcessServices.{stop_self}
use Rattle.kernel_meaning.specs.Processes.{has, is_dormant_state}
use Rattle.kernel_meaning.specs.Times.{start_all_waiting}
use Rattle.kernel_laws.specs.WhoWaits.{WaitsForObject, is_at_object}
use Rattle.kernel_laws.proofs.RecordRows.{IsCaller, was_true}
use Rattle.kernel_laws.proofs.Records.{OfProcess, at_found}
use Rattle.kernel_laws.proofs.WaitSteps.{Hold, IsOut, either, on_holds, out_by_wait, out_like, ready_holds, released_holds, rests_found_holds, rests_holds, row_holds, same_like, waits_holds, waits_like, wakes_holds}

-- a process that waits for no object and no port
abbrev pub IsIdle : Processes → Runner → Type 0
IsIdle s p = (r : ProcessStatus) → row_of s p ≡ Some r → OfProcess p (is_at_object r.wait ≡ false)

-- a process that calls is READY or RUNNING, and waits for nothing
pub caller_idle : (s : Processes) → RecordsAgree s → (p : Runner) → IsCaller s p → IsIdle s p
caller_idle s h p caller r there q is =
    let was : row_of s (runner.Process q) ≡ Some r = subst (λ (o : Runner). row_of s o ≡ Some r) is there in
    let plain = h.plain q r was in
    ap is_at_object (plain.waits (sym (ap is_ready was) ∙ caller q is))

pub caller_waits_not : (s : Processes) → RecordsAgree s → (p : Runner) → IsCaller s p → (q : ProcessIndex) → p ≡ runner.Process q → WaitsForObject (record_at s.rows q) → ⊥
caller_waits_not s h p caller q is = by_row (record_at s.rows q) refl
  where
    by_row : (o : Option ProcessStatus) → record_at s.rows q ≡ o → WaitsForObject o → ⊥
    by_row None e a = false≢true a
    by_row (Some r) e a = false≢true (sym (caller_idle s h p caller r (subst (λ (o : Runner). row_of s o ≡ Some r) (sym is) e) q is) ∙ a)

module _ {few : Type 0} (s : Processes) (h : Hold few s) where
  unless : (b : Bool) (t u : Step Processes) → Hold few t.part → (b ≡ false → Hold few u.part) → Hold few (if b then t else u).part
  unless b t u k rest = either (λ v. v) b t u (λ e. k) rest

  -- a step for the process with a number
  on_it : (id : ℤ) (step : Runner → ProcessStatus → Step Processes) → ((q : Runner) (r : ProcessStatus) → process_at s id ≡ Some (q, r) → row_of s q ≡ Some r → Hold few (step q r).part)
      → Hold few (on (process_at s id) s step).part
  on_it id step k = on_holds s h (process_at s id) step (at_found s id) k

  -- another record with the same state that waits for the same
  pub same_holds : (q : Runner) (r x : ProcessStatus) → row_of s q ≡ Some r → x.state ≡ r.state → x.wait ≡ r.wait → Hold few (put_row s q x)
  same_holds q r x there state same = row_holds s h q r x there (λ i is. same_like r x state same)

  -- a process at no object waits for something else
  waits_elsewhere : (q : Runner) (r x : ProcessStatus) (reason : Wait) (due : Option Due) → row_of s q ≡ Some r → OfProcess q (IsOut r) → is_at_object reason ≡ false → Hold few (waits s q x reason due).part
  waits_elsewhere q r x reason due there out none = waits_holds s h q r x reason due there (λ i is. out_like r (record x { state = Waiting; wait = reason; due = due }) (out i is) none)

  -- ---- starts

  -- for a process that waits in no list
  in_normal_holds : (at : At) (next : ℕ) (q : Runner) (delay : Ticks) (r x : ProcessStatus) → row_of s q ≡ Some r → OfProcess q (IsOut r) → Hold few (starts_in_normal at next s q delay x).part
  in_normal_holds at next q delay r x there out =
      either (λ v. v) (is_periodic x) _ _ (λ e. waits_elsewhere q r x _ _ there out refl)
      (λ e. either (λ v. v) (delay.0 == 0) _ _ (λ n. wakes_holds s h q r (released_at at.now x) there out) (λ n. waits_elsewhere q r x _ _ there out refl))

  starts_holds : (m : Mode) (at : At) (next : ℕ) (q : Runner) (delay : Ticks) (r : ProcessStatus) → row_of s q ≡ Some r → IsOut r → Hold few (starts m at next s q delay r).part
  starts_holds m at next q delay r there out =
      let fresh : ProcessStatus = record r { current_priority = r.base_priority } in
      either (λ v. v) (is_normal m) _ _ (λ e. in_normal_holds at next q delay r fresh there (λ i is. out)) (λ e. waits_elsewhere q r fresh _ _ there (λ i is. out) refl)

  -- a dormant process waits in no list
  dormant_out : (r : ProcessStatus) → is_dormant_state r.state ≡ true → IsOut r
  dormant_out r e k w = false≢true (sym (ap is_dormant_state w.0) ∙ e)

  started_out : (id : ℤ) (q : Runner) (r : ProcessStatus) → not (has (process_at s id) is_dormant) ≡ false → process_at s id ≡ Some (q, r) → IsOut r
  started_out id q r e o = dormant_out r (sym (ap (λ (f : Option (Runner × ProcessStatus)). has f is_dormant) o) ∙ was_true (has (process_at s id) is_dormant) e)

  if_waiting : (at : At) (next : ℕ) (q : Runner) (r : ProcessStatus) → row_of s q ≡ Some r → (w : Wait) → r.wait ≡ w → Hold few (starts_if_waiting at next s q r w).part
  if_waiting at next q r there (wait.NormalStart delay) e = in_normal_holds at next q delay r r there (λ i is. out_by_wait r (ap is_at_object e))
  if_waiting at next q r there _ e = h

  starts_waiting_holds : (at : At) (next : ℕ) (q : Runner) → Hold few (starts_waiting at next s q (row_of s q)).part
  starts_waiting_holds at next q = by_row (row_of s q) refl
    where
      by_row : (o : Option ProcessStatus) → row_of s q ≡ o → Hold few (starts_waiting at next s q o).part
      by_row None e = h
      by_row (Some r) e = if_waiting at next q r e r.wait refl

start_from_holds : {few : Type 0} (at : At) (next n place : ℕ) (s : Processes) → Hold few s → Hold few (start_from at next n place s).part
start_from_holds at next zero place s h = h
start_from_holds at next (suc n) place s h = start_from_holds at next n (place + 1) _ (starts_waiting_holds s h at next (runner.Process (index place)))

-- all processes that wait for the normal start are started
pub all_start_hold : {few : Type 0} (at : At) (next : ℕ) (s : Processes) → Hold few s → Hold few (start_all_waiting at next s).part
all_start_hold at next s h = start_from_holds at next (length s.rows - 2) 0 s h

pub stop_self_holds : {few : Type 0} (s : Processes) → Hold few s → (p : Runner) → Hold few (stop_self s p).part
stop_self_holds s h runner.Init = h
stop_self_holds s h runner.Handler = rests_found_holds s h runner.Handler
stop_self_holds s h (runner.Process p) = rests_found_holds s h (runner.Process p)

-- ---- the services

module _ {few : Type 0} (s : Processes) (h : Hold few s) (p : Runner) where
  pub get_process_id_holds : (name : ℤ) → Hold few (get_process_id s p name).part
  get_process_id_holds name = unless s h (is_unknown s name) _ _ h (λ a. h)

  pub get_process_status_holds : (id : ℤ) → Hold few (get_process_status s p id).part
  get_process_status_holds id = unless s h (is_unknown s id) _ _ h (λ a. on_it s h id (tells_status s p) (λ q r o there. h))

  pub create_process_holds : (m : Mode) (name : ℤ) → Hold few (create_process m s p name).part
  create_process_holds m name =
      unless s h (is_normal m) _ _ h
      (λ a. unless s h (not (is_some (process_at s name))) _ _ h
      (λ b. unless s h (has (process_at s name) is_created) _ _ h (λ c. on_it s h name (creates s) (λ q r o there. same_holds s h q r (record r { created = true }) there refl refl))))

  takes_holds : (v : Priority) (q : Runner) (r : ProcessStatus) → row_of s q ≡ Some r → Hold few (takes_priority s v q r).part
  takes_holds v q r there = by_test (is_ready_state r.state)
    where
      raised : ProcessStatus
      raised = record r { current_priority = v }

      by_test : (b : Bool) → Hold few (if b then put_ready s q raised else put_row s q raised)
      by_test true = ready_holds s h q r raised there (λ i is. same_like r raised refl refl)
      by_test false = same_holds s h q r raised there refl refl

  pub set_priority_holds : (id v : ℤ) → Hold few (set_priority s p id v).part
  set_priority_holds id v =
      unless s h (is_unknown s id) _ _ h
      (λ a. unless s h (not (is_priority v)) _ _ h
      (λ b. unless s h (has (process_at s id) is_dormant) _ _ h
      (λ c. on_it s h id (takes_priority s (priority_of v)) (λ q r o there. takes_holds (priority_of v) q r there))))

  -- ---- the processes that suspend and resume

  suspends_self_holds : (at : At) (limit : ℤ) → IsIdle s p → Hold few (suspends_self at s p limit (row_of s p)).part
  suspends_self_holds at limit idle = by_row (row_of s p) refl
    where
      by_row : (o : Option ProcessStatus) → row_of s p ≡ o → Hold few (suspends_self at s p limit o).part
      by_row None e = h
      by_row (Some r) e = waits_elsewhere s h p r (record r { suspended = true }) _ _ e (λ q is. out_by_wait r (idle r e q is)) refl

  pub suspend_self_holds : (at : At) (limit : ℤ) → IsIdle s p → Hold few (suspend_self at s p limit).part
  suspend_self_holds at limit idle =
      unless s h (is_busy s p) _ _ h
      (λ a. unless s h (not (is_duration limit)) _ _ h
      (λ b. unless s h (of_row is_periodic (row_of s p)) _ _ h (λ c. unless s h (is_zero limit) _ _ h (λ d. suspends_self_holds at limit idle))))

  pub suspend_holds : (id : ℤ) → Hold few (suspend s p id).part
  suspend_holds id =
      unless s h (is_no_other s p id) _ _ h
      (λ a. unless s h (has (process_at s id) is_dormant || has (process_at s id) is_periodic || is_holder s.lock (process_at s id)) _ _ h
      (λ b. unless s h (has (process_at s id) is_suspended) _ _ h
      (λ c. on_it s h id (suspends s) (λ q r o there. waits_holds s h q r (record r { suspended = true }) r.wait r.due there (λ i is. waits_like r (record r { state = Waiting; suspended = true }) refl refl)))))

  resumes_from_holds : (q : Runner) (r : ProcessStatus) → row_of s q ≡ Some r → (w : Wait) → r.wait ≡ w → Hold few (resumes_from s q (record r { suspended = false }) w).part
  resumes_from_holds q r there wait.Nothing e = wakes_holds s h q r (record r { suspended = false }) there (λ i is. out_by_wait r (ap is_at_object e))
  resumes_from_holds q r there (wait.Service service.SuspendSelf) e = released_holds s h q r (record r { suspended = false }) code.NoError there
  resumes_from_holds q r there _ e = same_holds s h q r (record r { suspended = false }) there refl refl

  pub resume_holds : (id : ℤ) → Hold few (resume s p id).part
  resume_holds id =
      unless s h (is_no_other s p id) _ _ h
      (λ a. unless s h (has (process_at s id) is_dormant || has (process_at s id) is_periodic) _ _ h
      (λ b. unless s h (not (has (process_at s id) is_suspended)) _ _ h (λ c. on_it s h id (resumes s) (λ q r o there. resumes_from_holds q r there r.wait refl))))

  -- ---- the processes that stop and start

  pub stop_holds : (id : ℤ) → Hold few (stop s p id).part
  stop_holds id =
      unless s h (is_no_other s p id) _ _ h
      (λ a. unless s h (has (process_at s id) is_dormant) _ _ h (λ b. on_it s h id _ (λ q r o there. rests_holds s h q r there)))

  pub start_holds : (m : Mode) (at : At) (next : ℕ) (id : ℤ) → Hold few (start m at next s p id).part
  start_holds m at next id =
      unless s h (is_unknown s id) _ _ h
      (λ a. unless s h (not (has (process_at s id) is_dormant)) _ _ h
      (λ b. on_it s h id (λ q. starts m at next s q (ticks 0)) (λ q r o there. starts_holds s h m at next q (ticks 0) r there (started_out s h id q r b o))))

  pub delayed_start_holds : (m : Mode) (at : At) (next : ℕ) (id delay : ℤ) → Hold few (delayed_start m at next s p id delay).part
  delayed_start_holds m at next id delay =
      unless s h (is_unknown s id) _ _ h
      (λ a. unless s h (not (is_delay delay)) _ _ h
      (λ b. unless s h (has (process_at s id) (λ r. is_beyond (amount delay) r.period)) _ _ h
      (λ c. unless s h (not (has (process_at s id) is_dormant)) _ _ h
      (λ d. on_it s h id (λ q. starts m at next s q (ticks (amount delay))) (λ q r o there. starts_holds s h m at next q (ticks (amount delay)) r there (started_out s h id q r d o))))))

  -- ---- the lock

  pub lock_preemption_holds : (m : Mode) → Hold few (lock_preemption m s p).part
  lock_preemption_holds m = unless s h (may_not_lock m p) _ _ h (λ a. unless s h (nat_le MOST_LOCK_LEVEL (level_of s.lock)) _ _ h (λ b. h))

  pub unlock_preemption_holds : (m : Mode) → Hold few (unlock_preemption m s p).part
  unlock_preemption_holds m = unless s h (may_not_lock m p || not (is_held s.lock)) _ _ h (λ a. h)

  pub get_my_id_holds : (o : Option ℕ) → Hold few (get_my_id s p o).part
  get_my_id_holds None = h
  get_my_id_holds (Some n) = h

  -- ---- time

  yields_holds : Hold few (yields s p (row_of s p)).part
  yields_holds = by_row (row_of s p) refl
    where
      by_row : (o : Option ProcessStatus) → row_of s p ≡ o → Hold few (yields s p o).part
      by_row None e = h
      by_row (Some r) e = ready_holds s h p r r e (λ q is. same_like r r refl refl)

  until_holds : (tick : ℕ) → IsIdle s p → Hold few (waits_until s p (row_of s p) tick).part
  until_holds tick idle = by_row (row_of s p) refl
    where
      by_row : (o : Option ProcessStatus) → row_of s p ≡ o → Hold few (waits_until s p o tick).part
      by_row None e = h
      by_row (Some r) e = waits_elsewhere s h p r r _ _ e (λ q is. out_by_wait r (idle r e q is)) refl

  delays_holds : (at : At) (delay : ℤ) → IsIdle s p → Hold few (delays at s p delay).part
  delays_holds at (negsuc n) idle = h
  delays_holds at (pos zero) idle = yields_holds
  delays_holds at (pos (suc n)) idle = until_holds (at.now.0 + suc n) idle

  pub timed_wait_holds : (at : At) (delay : ℤ) → IsIdle s p → Hold few (timed_wait at s p delay).part
  timed_wait_holds at delay idle = unless s h (is_busy s p) _ _ h (λ a. unless s h (not (is_delay delay)) _ _ h (λ b. delays_holds at delay idle))

  for_period_holds : (r : ProcessStatus) → row_of s p ≡ Some r → OfProcess p (IsOut r) → (o : Option Ticks) → Hold few (waits_for_period s p r o).part
  for_period_holds r there out None = h
  for_period_holds r there out (Some period) = waits_elsewhere s h p r (record r { deadline = None }) _ _ there out refl

  periodically_holds : IsIdle s p → Hold few (waits_periodically s p (row_of s p)).part
  periodically_holds idle = by_row (row_of s p) refl
    where
      by_row : (o : Option ProcessStatus) → row_of s p ≡ o → Hold few (waits_periodically s p o).part
      by_row None e = h
      by_row (Some r) e = for_period_holds r e (λ q is. out_by_wait r (idle r e q is)) r.period

  pub periodic_wait_holds : IsIdle s p → Hold few (periodic_wait s p).part
  periodic_wait_holds idle = unless s h (is_busy s p) _ _ h (λ a. unless s h (not (of_row is_periodic (row_of s p))) _ _ h (λ b. periodically_holds idle))

  replenishes_holds : (at : At) (budget : ℤ) → Hold few (replenishes at s p budget (row_of s p)).part
  replenishes_holds at budget = by_row (row_of s p) refl
    where
      by_row : (o : Option ProcessStatus) → row_of s p ≡ o → Hold few (replenishes at s p budget o).part
      by_row None e = h
      by_row (Some r) e = same_holds s h p r (record r { deadline = deadline_in at budget }) e refl refl

  pub replenish_holds : (m : Mode) (at : At) (budget : ℤ) → Hold few (replenish m at s p budget).part
  replenish_holds m at budget =
      unless s h (may_not_lock m p) _ _ h
      (λ a. unless s h (not (is_duration budget)) _ _ h
      (λ b. unless s h (of_row has_no_deadline (row_of s p)) _ _ h
      (λ c. unless s h (of_row (λ r. reaches_past at budget r r.period) (row_of s p)) _ _ h (λ d. replenishes_holds at budget))))
