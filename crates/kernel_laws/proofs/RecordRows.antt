-- The services on processes and on time, and the starts, keep the agreement of the ready list with the records.
use Rattle.kernel_laws.proofs.Prelude.{◌≡◌, ℕ, zero, suc, ◌+◌, ℤ, Bool, true, false, length, Option, Some, None, refl, sym, ◌∙◌, ◌==◌, ◌||◌, if◌then◌else◌, is_some, nat_le, not, pos, negsuc, MOST_LOCK_LEVEL, Mode, ProcessState, Dormant, Ready, Running, Waiting, At, Priority, ProcessIndex, Runner, Ticks, Lock, ProcessStatus, Wait, amount, is_delay, is_duration, is_zero, is_ready, get_process_id, get_process_status, tells_status, create_process, creates, set_priority, takes_priority, is_priority, priority_of, is_ready_state, suspend_self, suspends_self, of_row, is_holder, suspend, suspends, resume, resumes, resumes_from, stop, start, delayed_start, is_beyond, level_of, may_not_lock, locked_by, unlocked, lock_preemption, unlock_preemption, get_my_id, Processes, row_of, index, process_at, on, is_created, is_dormant, is_held, is_periodic, is_suspended, is_unknown, is_no_other, is_busy, is_normal, put_row, put_ready, starts, starts_in_normal, starts_if_waiting, starts_waiting, start_from, released_at, ticks, Step, timed_wait, delays, yields, waits_until, periodic_wait, waits_periodically, waits_for_period, replenish, replenishes, deadline_in, has_no_deadline, reaches_past, IsPlain, RecordsAgree, record_at}
use Rattle.std.proofs.Common.{ap}
use Rattle.std.proofs.lemmas.Bool.{false≢true}
use Rattle.std.specs.Prelude.{◌-◌}
use Rattle.apex_types.specs.declared.codes.ReturnCode.TheVariants as code
use Rattle.apex_types.specs.declared.identity.Runner.TheVariants as runner
use Rattle.apex_types.specs.declared.process.Lock.TheVariants as lock
use Rattle.apex_types.specs.declared.process.Wait.TheVariants as wait
use Rattle.apex_types.specs.declared.service.Service.TheVariants as service
use Rattle.kernel_meaning.specs.ProcessServices.{holds, stop_self}
use Rattle.kernel_meaning.specs.Processes.{has, is_dormant_state}
use Rattle.kernel_meaning.specs.Times.{start_all_waiting}
use Rattle.kernel_laws.proofs.Records.{OfProcess, IsFree, at_found, either, free_of, is_free, kept_agrees, not_free, on_agrees, plain_of, ready_agrees, released_agrees, rests_agrees, rests_found_agrees, same_holder, waits_agrees, wakes_agrees, was_at}

-- ---- tests

or_right : (a b : Bool) → (a || b) ≡ false → b ≡ false
or_right true b e = absurd (false≢true (sym e))
or_right false b e = e

pub was_true : (b : Bool) → not b ≡ false → b ≡ true
was_true true e = refl
was_true false e = absurd (false≢true (sym e))

dormant_not_ready : (state : ProcessState) → is_dormant_state state ≡ true → is_ready_state state ≡ false
dormant_not_ready Dormant e = refl
dormant_not_ready Ready e = absurd (false≢true e)
dormant_not_ready Running e = absurd (false≢true e)
dormant_not_ready Waiting e = refl

is_nothing : Wait → Bool
is_nothing wait.Nothing = true
is_nothing _ = false

waits_for_something : (delay : Ticks) → wait.NormalStart delay ≡ wait.Nothing → ⊥
unfolding is_nothing
waits_for_something delay e = false≢true (ap is_nothing e)

-- a process that calls is READY or RUNNING
abbrev pub IsCaller : Processes → Runner → Type 0
IsCaller s p = (q : ProcessIndex) → p ≡ runner.Process q → is_ready (record_at s.rows q) ≡ true

module _ (s : Processes) (h : RecordsAgree s) where
  unless : (b : Bool) (t u : Step Processes) → RecordsAgree t.part → (b ≡ false → RecordsAgree u.part) → RecordsAgree (if b then t else u).part
  unless b t u k rest = either (λ v. v) b t u (λ e. k) rest

  -- a step for the process with a number
  on_it : (id : ℤ) (step : Runner → ProcessStatus → Step Processes) → ((q : Runner) (r : ProcessStatus) → process_at s id ≡ Some (q, r) → row_of s q ≡ Some r → RecordsAgree (step q r).part)
      → RecordsAgree (on (process_at s id) s step).part
  on_it id step k = on_agrees s h (process_at s id) step (at_found s id) k

  -- another record that is as ready, and has the same priority
  pub row_agrees : (q : Runner) (r x : ProcessStatus) → row_of s q ≡ Some r → is_ready_state x.state ≡ is_ready_state r.state → x.current_priority ≡ r.current_priority → (IsPlain r → IsPlain x)
      → RecordsAgree (put_row s q x)
  row_agrees q r x there state priority plain = kept_agrees s h q r x there (λ i is. state) (λ i is k. priority) (λ i is. plain (plain_of s h q r x there i is))

  -- another lock
  lock_agrees : (l : Lock) → ((level : ℕ) (q : ProcessIndex) → l ≡ lock.Held level q → is_ready (record_at s.rows q) ≡ true) → RecordsAgree (record s { lock = l })
  lock_agrees l held = record { listed = h.listed; plain = h.plain; runs = h.runs; holds = held; init = h.init; handler = h.handler }

  -- ---- starts

  -- for a process that is not ready
  in_normal_agrees : (at : At) (next : ℕ) (q : Runner) (delay : Ticks) (r x : ProcessStatus) → row_of s q ≡ Some r → OfProcess q (is_ready_state r.state ≡ false) → is_ready_state x.state ≡ is_ready_state r.state
      → (x.suspended ≡ true → r.suspended ≡ true) → RecordsAgree (starts_in_normal at next s q delay x).part
  in_normal_agrees at next q delay r x there never state suspended =
      let free : IsFree s q = free_of s h q r x there never in
      either (λ v. v) (is_periodic x) _ _ (λ e. waits_agrees s h q r x _ _ there free)
      (λ e. either (λ v. v) (delay.0 == 0) _ _ (λ n. wakes_agrees s h q r (released_at at.now x) there state suspended) (λ n. waits_agrees s h q r x _ _ there free))

  starts_agrees : (m : Mode) (at : At) (next : ℕ) (q : Runner) (delay : Ticks) (r : ProcessStatus) → row_of s q ≡ Some r → is_ready_state r.state ≡ false → RecordsAgree (starts m at next s q delay r).part
  starts_agrees m at next q delay r there never =
      let fresh : ProcessStatus = record r { current_priority = r.base_priority } in
      either (λ v. v) (is_normal m) _ _ (λ e. in_normal_agrees at next q delay r fresh there (λ i is. never) refl (λ k. k))
      (λ e. waits_agrees s h q r fresh _ _ there (free_of s h q r fresh there (λ i is. never)))

  -- a dormant process is not ready
  started_not_ready : (id : ℤ) (q : Runner) (r : ProcessStatus) → not (has (process_at s id) is_dormant) ≡ false → process_at s id ≡ Some (q, r) → is_ready_state r.state ≡ false
  started_not_ready id q r e o = dormant_not_ready r.state (sym (ap (λ (f : Option (Runner × ProcessStatus)). has f is_dormant) o) ∙ was_true (has (process_at s id) is_dormant) e)

  if_waiting : (at : At) (next : ℕ) (q : Runner) (r : ProcessStatus) → row_of s q ≡ Some r → (w : Wait) → r.wait ≡ w → RecordsAgree (starts_if_waiting at next s q r w).part
  if_waiting at next q r there (wait.NormalStart delay) e = in_normal_agrees at next q delay r r there never refl (λ k. k)
    where
      never : OfProcess q (is_ready_state r.state ≡ false)
      never i is = by_test (is_ready_state r.state) refl
        where
          by_test : (b : Bool) → is_ready_state r.state ≡ b → is_ready_state r.state ≡ false
          by_test true k = let plain = plain_of s h q r r there i is in absurd (waits_for_something delay (sym e ∙ plain.waits k))
          by_test false k = k
  if_waiting at next q r there _ e = h

  starts_waiting_agrees : (at : At) (next : ℕ) (q : Runner) → RecordsAgree (starts_waiting at next s q (row_of s q)).part
  starts_waiting_agrees at next q = by_row (row_of s q) refl
    where
      by_row : (o : Option ProcessStatus) → row_of s q ≡ o → RecordsAgree (starts_waiting at next s q o).part
      by_row None e = h
      by_row (Some r) e = if_waiting at next q r e r.wait refl

start_from_agrees : (at : At) (next n place : ℕ) (s : Processes) → RecordsAgree s → RecordsAgree (start_from at next n place s).part
start_from_agrees at next zero place s h = h
start_from_agrees at next (suc n) place s h = start_from_agrees at next n (place + 1) _ (starts_waiting_agrees s h at next (runner.Process (index place)))

-- all processes that wait for the normal start are started
pub all_start_agree : (at : At) (next : ℕ) (s : Processes) → RecordsAgree s → RecordsAgree (start_all_waiting at next s).part
all_start_agree at next s h = start_from_agrees at next (length s.rows - 2) 0 s h

pub stop_self_agrees : (s : Processes) → RecordsAgree s → (p : Runner) → RecordsAgree (stop_self s p).part
stop_self_agrees s h runner.Init = h
stop_self_agrees s h runner.Handler = rests_found_agrees s h runner.Handler
stop_self_agrees s h (runner.Process p) = rests_found_agrees s h (runner.Process p)

-- ---- the services

module _ (s : Processes) (h : RecordsAgree s) (p : Runner) where
  pub get_process_id_agrees : (name : ℤ) → RecordsAgree (get_process_id s p name).part
  get_process_id_agrees name = unless s h (is_unknown s name) _ _ h (λ a. h)

  pub get_process_status_agrees : (id : ℤ) → RecordsAgree (get_process_status s p id).part
  get_process_status_agrees id = unless s h (is_unknown s id) _ _ h (λ a. on_it s h id (tells_status s p) (λ q r o there. h))

  pub create_process_agrees : (m : Mode) (name : ℤ) → RecordsAgree (create_process m s p name).part
  create_process_agrees m name =
      unless s h (is_normal m) _ _ h
      (λ a. unless s h (not (is_some (process_at s name))) _ _ h
      (λ b. unless s h (has (process_at s name) is_created) _ _ h
      (λ c. on_it s h name (creates s) (λ q r o there. row_agrees s h q r (record r { created = true }) there refl refl (λ k. record { suspended = k.suspended; waits = k.waits; due = k.due })))))

  takes_agrees : (v : Priority) (q : Runner) (r : ProcessStatus) → row_of s q ≡ Some r → RecordsAgree (takes_priority s v q r).part
  takes_agrees v q r there = by_test (is_ready_state r.state) refl
    where
      raised : ProcessStatus
      raised = record r { current_priority = v }

      plain : OfProcess q (IsPlain raised)
      plain i is = let k = plain_of s h q r raised there i is in record { suspended = k.suspended; waits = k.waits; due = k.due }

      by_test : (b : Bool) → is_ready_state r.state ≡ b → RecordsAgree (if b then put_ready s q raised else put_row s q raised)
      by_test true e = ready_agrees s h q r raised there (λ i is. e) plain
      by_test false e = kept_agrees s h q r raised there (λ i is. refl) (λ i is k. absurd (false≢true (sym e ∙ k))) plain

  pub set_priority_agrees : (id v : ℤ) → RecordsAgree (set_priority s p id v).part
  set_priority_agrees id v =
      unless s h (is_unknown s id) _ _ h
      (λ a. unless s h (not (is_priority v)) _ _ h
      (λ b. unless s h (has (process_at s id) is_dormant) _ _ h
      (λ c. on_it s h id (takes_priority s (priority_of v)) (λ q r o there. takes_agrees (priority_of v) q r there))))

  -- ---- the processes that suspend and resume

  suspends_self_agrees : (at : At) (limit : ℤ) → IsFree s p → RecordsAgree (suspends_self at s p limit (row_of s p)).part
  suspends_self_agrees at limit free = by_row (row_of s p) refl
    where
      by_row : (o : Option ProcessStatus) → row_of s p ≡ o → RecordsAgree (suspends_self at s p limit o).part
      by_row None e = h
      by_row (Some r) e = waits_agrees s h p r (record r { suspended = true }) _ _ e free

  pub suspend_self_agrees : (at : At) (limit : ℤ) → RecordsAgree (suspend_self at s p limit).part
  suspend_self_agrees at limit =
      unless s h (is_busy s p) _ _ h
      (λ a. unless s h (not (is_duration limit)) _ _ h
      (λ b. unless s h (of_row is_periodic (row_of s p)) _ _ h
      (λ c. unless s h (is_zero limit) _ _ h (λ d. suspends_self_agrees at limit (is_free s p a)))))

  not_holder : (id : ℤ) (q : Runner) (r : ProcessStatus) → is_holder s.lock (process_at s id) ≡ false → process_at s id ≡ Some (q, r) → IsFree s q
  not_holder id q r e o level z k =
      sym (ap (λ (l : Lock). holds l q) k) ∙ (sym (ap (λ (f : Option (Runner × ProcessStatus)). is_holder s.lock f) o) ∙ e)

  pub suspend_agrees : (id : ℤ) → RecordsAgree (suspend s p id).part
  suspend_agrees id =
      unless s h (is_no_other s p id) _ _ h
      (λ a. unless s h (has (process_at s id) is_dormant || has (process_at s id) is_periodic || is_holder s.lock (process_at s id)) _ _ h
      (λ b. unless s h (has (process_at s id) is_suspended) _ _ h
      (λ c. on_it s h id (suspends s) (λ q r o there. waits_agrees s h q r (record r { suspended = true }) r.wait r.due there
      (not_holder id q r (or_right (has (process_at s id) is_dormant || has (process_at s id) is_periodic) (is_holder s.lock (process_at s id)) b) o)))))

  resumes_from_agrees : (q : Runner) (r : ProcessStatus) → row_of s q ≡ Some r → (w : Wait) → RecordsAgree (resumes_from s q (record r { suspended = false }) w).part
  resumes_from_agrees q r there wait.Nothing = wakes_agrees s h q r (record r { suspended = false }) there refl (λ k. absurd (false≢true k))
  resumes_from_agrees q r there (wait.Service service.SuspendSelf) = released_agrees s h q r (record r { suspended = false }) code.NoError there refl (λ k. absurd (false≢true k))
  resumes_from_agrees q r there _ = row_agrees s h q r (record r { suspended = false }) there refl refl (λ k. record { suspended = λ e. refl; waits = k.waits; due = k.due })

  pub resume_agrees : (id : ℤ) → RecordsAgree (resume s p id).part
  resume_agrees id =
      unless s h (is_no_other s p id) _ _ h
      (λ a. unless s h (has (process_at s id) is_dormant || has (process_at s id) is_periodic) _ _ h
      (λ b. unless s h (not (has (process_at s id) is_suspended)) _ _ h
      (λ c. on_it s h id (resumes s) (λ q r o there. resumes_from_agrees q r there r.wait))))

  -- ---- the processes that stop and start

  pub stop_agrees : (id : ℤ) → RecordsAgree (stop s p id).part
  stop_agrees id =
      unless s h (is_no_other s p id) _ _ h
      (λ a. unless s h (has (process_at s id) is_dormant) _ _ h (λ b. on_it s h id _ (λ q r o there. rests_agrees s h q r there)))

  pub start_agrees : (m : Mode) (at : At) (next : ℕ) (id : ℤ) → RecordsAgree (start m at next s p id).part
  start_agrees m at next id =
      unless s h (is_unknown s id) _ _ h
      (λ a. unless s h (not (has (process_at s id) is_dormant)) _ _ h
      (λ b. on_it s h id (λ q. starts m at next s q (ticks 0)) (λ q r o there. starts_agrees s h m at next q (ticks 0) r there (started_not_ready s h id q r b o))))

  pub delayed_start_agrees : (m : Mode) (at : At) (next : ℕ) (id delay : ℤ) → RecordsAgree (delayed_start m at next s p id delay).part
  delayed_start_agrees m at next id delay =
      unless s h (is_unknown s id) _ _ h
      (λ a. unless s h (not (is_delay delay)) _ _ h
      (λ b. unless s h (has (process_at s id) (λ r. is_beyond (amount delay) r.period)) _ _ h
      (λ c. unless s h (not (has (process_at s id) is_dormant)) _ _ h
      (λ d. on_it s h id (λ q. starts m at next s q (ticks (amount delay))) (λ q r o there. starts_agrees s h m at next q (ticks (amount delay)) r there (started_not_ready s h id q r d o))))))

  -- ---- the lock

  held_by_caller : IsCaller s p → (o : Runner) → p ≡ o → (l : Lock) → s.lock ≡ l → (level : ℕ) (q : ProcessIndex) → locked_by o l ≡ lock.Held level q → is_ready (record_at s.rows q) ≡ true
  held_by_caller caller runner.Init is lock.Free e level q k = absurd (not_free level q k)
  held_by_caller caller runner.Handler is lock.Free e level q k = absurd (not_free level q k)
  held_by_caller caller (runner.Process i) is lock.Free e level q k = caller q (is ∙ ap (λ (z : ProcessIndex). runner.Process z) (same_holder 1 level i q k))
  held_by_caller caller runner.Init is (lock.Held n z) e level q k = h.holds n q (e ∙ ap (λ (y : ProcessIndex). lock.Held n y) (same_holder (n + 1) level z q k))
  held_by_caller caller runner.Handler is (lock.Held n z) e level q k = h.holds n q (e ∙ ap (λ (y : ProcessIndex). lock.Held n y) (same_holder (n + 1) level z q k))
  held_by_caller caller (runner.Process i) is (lock.Held n z) e level q k = h.holds n q (e ∙ ap (λ (y : ProcessIndex). lock.Held n y) (same_holder (n + 1) level z q k))

  pub lock_preemption_agrees : (m : Mode) → IsCaller s p → RecordsAgree (lock_preemption m s p).part
  lock_preemption_agrees m caller =
      unless s h (may_not_lock m p) _ _ h
      (λ a. unless s h (nat_le MOST_LOCK_LEVEL (level_of s.lock)) _ _ h (λ b. lock_agrees s h (locked_by p s.lock) (held_by_caller caller p refl s.lock refl)))

  still_held : (l : Lock) → s.lock ≡ l → (level : ℕ) (q : ProcessIndex) → unlocked l ≡ lock.Held level q → is_ready (record_at s.rows q) ≡ true
  still_held lock.Free e level q k = absurd (not_free level q k)
  still_held (lock.Held zero z) e level q k = absurd (not_free level q k)
  still_held (lock.Held (suc zero) z) e level q k = absurd (not_free level q k)
  still_held (lock.Held (suc (suc n)) z) e level q k = h.holds (suc (suc n)) q (e ∙ ap (λ (y : ProcessIndex). lock.Held (suc (suc n)) y) (same_holder (suc n) level z q k))

  pub unlock_preemption_agrees : (m : Mode) → RecordsAgree (unlock_preemption m s p).part
  unlock_preemption_agrees m = unless s h (may_not_lock m p || not (is_held s.lock)) _ _ h (λ a. lock_agrees s h (unlocked s.lock) (still_held s.lock refl))

  pub get_my_id_agrees : (o : Option ℕ) → RecordsAgree (get_my_id s p o).part
  get_my_id_agrees None = h
  get_my_id_agrees (Some n) = h

  -- ---- time

  yields_agrees : IsCaller s p → RecordsAgree (yields s p (row_of s p)).part
  yields_agrees caller = by_row (row_of s p) refl
    where
      by_row : (o : Option ProcessStatus) → row_of s p ≡ o → RecordsAgree (yields s p o).part
      by_row None e = h
      by_row (Some r) e = ready_agrees s h p r r e (λ q is. sym (ap is_ready (was_at s h p r r e q is)) ∙ caller q is) (plain_of s h p r r e)

  until_agrees : (tick : ℕ) → IsFree s p → RecordsAgree (waits_until s p (row_of s p) tick).part
  until_agrees tick free = by_row (row_of s p) refl
    where
      by_row : (o : Option ProcessStatus) → row_of s p ≡ o → RecordsAgree (waits_until s p o tick).part
      by_row None e = h
      by_row (Some r) e = waits_agrees s h p r r _ _ e free

  delays_agrees : (at : At) (delay : ℤ) → IsCaller s p → IsFree s p → RecordsAgree (delays at s p delay).part
  delays_agrees at (negsuc n) caller free = h
  delays_agrees at (pos zero) caller free = yields_agrees caller
  delays_agrees at (pos (suc n)) caller free = until_agrees (at.now.0 + suc n) free

  pub timed_wait_agrees : (at : At) (delay : ℤ) → IsCaller s p → RecordsAgree (timed_wait at s p delay).part
  timed_wait_agrees at delay caller =
      unless s h (is_busy s p) _ _ h (λ a. unless s h (not (is_delay delay)) _ _ h (λ b. delays_agrees at delay caller (is_free s p a)))

  for_period_agrees : (r : ProcessStatus) → row_of s p ≡ Some r → IsFree s p → (o : Option Ticks) → RecordsAgree (waits_for_period s p r o).part
  for_period_agrees r there free None = h
  for_period_agrees r there free (Some period) = waits_agrees s h p r (record r { deadline = None }) _ _ there free

  periodically_agrees : IsFree s p → RecordsAgree (waits_periodically s p (row_of s p)).part
  periodically_agrees free = by_row (row_of s p) refl
    where
      by_row : (o : Option ProcessStatus) → row_of s p ≡ o → RecordsAgree (waits_periodically s p o).part
      by_row None e = h
      by_row (Some r) e = for_period_agrees r e free r.period

  pub periodic_wait_agrees : RecordsAgree (periodic_wait s p).part
  periodic_wait_agrees =
      unless s h (is_busy s p) _ _ h (λ a. unless s h (not (of_row is_periodic (row_of s p))) _ _ h (λ b. periodically_agrees (is_free s p a)))

  replenishes_agrees : (at : At) (budget : ℤ) → RecordsAgree (replenishes at s p budget (row_of s p)).part
  replenishes_agrees at budget = by_row (row_of s p) refl
    where
      by_row : (o : Option ProcessStatus) → row_of s p ≡ o → RecordsAgree (replenishes at s p budget o).part
      by_row None e = h
      by_row (Some r) e = row_agrees s h p r (record r { deadline = deadline_in at budget }) e refl refl (λ k. record { suspended = k.suspended; waits = k.waits; due = k.due })

  pub replenish_agrees : (m : Mode) (at : At) (budget : ℤ) → RecordsAgree (replenish m at s p budget).part
  replenish_agrees m at budget =
      unless s h (may_not_lock m p) _ _ h
      (λ a. unless s h (not (is_duration budget)) _ _ h
      (λ b. unless s h (of_row has_no_deadline (row_of s p)) _ _ h
      (λ c. unless s h (of_row (λ r. reaches_past at budget r r.period) (row_of s p)) _ _ h (λ d. replenishes_agrees at budget))))
