-- Whoever holds the preemption lock by the lines holds it in the kernel: the services on processes and on time, and the starts.
use Rattle.std.proofs.Common.{◌≡◌, ℕ, zero, suc, ℤ, pos, negsuc, Bool, true, false, not, List, length, Option, Some, None, refl, sym, ap, ◌∙◌, subst}
use Rattle.std.specs.Prelude.{◌+◌, ◌-◌, ◌==◌, ◌||◌, if◌then◌else◌, is_some, nat_le}
use Rattle.std.proofs.lemmas.Bool.{false≢true}
use Rattle.apex_types.specs.declared.codes.Mode.{Mode}
use Rattle.apex_types.specs.declared.codes.ReturnCode.TheVariants as code
use Rattle.apex_types.specs.declared.identity.At.{At}
use Rattle.apex_types.specs.declared.identity.Priority.{Priority}
use Rattle.apex_types.specs.declared.identity.ProcessIndex.{ProcessIndex}
use Rattle.apex_types.specs.declared.identity.Runner.{Runner}
use Rattle.apex_types.specs.declared.identity.Runner.TheVariants as runner
use Rattle.apex_types.specs.declared.identity.Ticks.{Ticks}
use Rattle.apex_types.specs.declared.limits.TheConstants.{MOST_LOCK_LEVEL}
use Rattle.apex_types.specs.declared.process.Lock.{Lock}
use Rattle.apex_types.specs.declared.process.Lock.TheVariants as lock
use Rattle.apex_types.specs.declared.process.ProcessStatus.{ProcessStatus}
use Rattle.apex_types.specs.declared.process.Wait.{Wait}
use Rattle.apex_types.specs.declared.process.Wait.TheVariants as wait
use Rattle.apex_types.specs.declared.service.Service.{Service}
use Rattle.apex_types.specs.declared.service.Service.TheVariants as service
use Rattle.apex_types.specs.declared.codes.ReturnCode.{ReturnCode}
use Rattle.apex_types.specs.Runners.{place_of}
use Rattle.engine_meaning.specs.Operators.{is_zero}
use Rattle.kernel_laws.proofs.Records.{at_found}
use Rattle.kernel_meaning.specs.Processes.{Processes, row_of, subject, index, process_at, has, on, answers, rests, zeros_of_wait, put_ready, put_row, is_created, is_dormant, is_suspended, is_periodic, is_unknown, is_no_other, is_busy, is_held, is_normal}
use Rattle.kernel_meaning.specs.ProcessServices.{get_process_id, get_process_status, tells_status, create_process, creates, set_priority, takes_priority, priority_of, is_priority, is_ready_state, suspend_self, suspends_self, of_row, suspend, suspends, is_holder, resume, resumes, resumes_from, stop, stop_self, start, delayed_start, is_beyond, lock_preemption, unlock_preemption, locked_by, unlocked, with_lock, level_of, may_not_lock, get_my_id, timed_wait, delays, yields, waits_until, periodic_wait, waits_periodically, waits_for_period, replenish, replenishes, has_no_deadline, reaches_past}
use Rattle.kernel_meaning.specs.Step.{Step, nothing, after}
use Rattle.kernel_meaning.specs.Times.{is_delay, is_duration, amount, released_at, ticks, start_all_waiting, start_from, starts, starts_if_waiting, starts_in_normal, starts_waiting}
use Rattle.state_laws.specs.Locks.{Held, held_by, one_down, one_up, returns}
use Rattle.state_laws.proofs.LockSteps.{FitsIn, HasHolder, LockGoes, all_lock, is_on_lock, waits_on_lock, lock_here, lock_either, lock_in_turn, lock_passed, lock_set, lock_wakes, lock_waits, lock_rests, lock_rests_found, lock_answers, lock_released_with, others_leave}

-- A runner that may lock is a process with a record: in mode NORMAL it is not INIT.
abbrev pub MayCall : Mode → Processes → Runner → Type 0
MayCall m s runner.Init = is_normal m ≡ false
MayCall m s runner.Handler = Unit {0}
MayCall m s (runner.Process i) = is_some (row_of s (runner.Process i)) ≡ true

module _ (o : Option Held) (s : Processes) (h : FitsIn o s) where
  abbrev Kept : Step Processes → Type 0
  Kept u = LockGoes o u

  test : (b : Bool) (u v : Step Processes) → Kept u → Kept v → Kept (if b then u else v)
  test = lock_either o

  unless : (b : Bool) (u v : Step Processes) → Kept u → (b ≡ false → Kept v) → Kept (if b then u else v)
  unless = lock_passed o

  told : (p : Runner) (v : Service) (c : ReturnCode) (outputs : List ℤ) → is_on_lock v ≡ false → Kept (answers s p v c outputs)
  told p v c outputs free = lock_answers o s h p v c outputs free

  told_then : (p : Runner) (v : Service) (c : ReturnCode) (outputs : List ℤ) (u : Step Processes) → is_on_lock v ≡ false → Kept u → Kept (after (answers s p v c outputs) u)
  told_then p v c outputs u free k = record { fits = subst (λ (x : Option Held). FitsIn (all_lock x u.lines) u.part) (sym (others_leave (subject s p) v c o free)) k.fits }

  still : Kept (nothing s)
  still = lock_here o s h

  -- a step for the process with a number
  on_it : (id : ℤ) (step : Runner → ProcessStatus → Step Processes) → ((q : Runner) (r : ProcessStatus) → row_of s q ≡ Some r → Kept (step q r)) → Kept (on (process_at s id) s step)
  on_it id step k = by_found (process_at s id) refl
    where
      by_found : (f : Option (Runner × ProcessStatus)) → process_at s id ≡ f → Kept (on f s step)
      by_found None e = still
      by_found (Some f) e = k f.0 f.1 (at_found s id f e)

  -- another record with the same subject, which waits for the same
  set : (q : Runner) (r x : ProcessStatus) → row_of s q ≡ Some r → x.who ≡ r.who → x.wait ≡ r.wait → FitsIn o (put_row s q x)
  set q r x there who same = lock_set o s h q r x there who (ap waits_on_lock same ∙ h.waits (place_of q) r there)

  row_goes : (q : Runner) (r x : ProcessStatus) → row_of s q ≡ Some r → x.who ≡ r.who → x.wait ≡ r.wait → Kept (nothing (put_row s q x))
  row_goes q r x there who same = record { fits = set q r x there who same }

  ready_goes : (q : Runner) (r x : ProcessStatus) → row_of s q ≡ Some r → x.who ≡ r.who → x.wait ≡ r.wait → Kept (nothing (put_ready s q x))
  ready_goes q r x there who same = record { fits = set q r x there who same }

  -- ---- starts

  in_normal_goes : (at : At) (next : ℕ) (q : Runner) (delay : Ticks) (r x : ProcessStatus) → row_of s q ≡ Some r → x.who ≡ r.who → Kept (starts_in_normal at next s q delay x)
  in_normal_goes at next q delay r x there who =
      test (is_periodic x) _ _ (lock_waits o s h q r x _ _ there who refl)
      (test (delay.0 == 0) _ _ (lock_wakes o s h q r (released_at at.now x) there who) (lock_waits o s h q r x _ _ there who refl))

  starts_goes : (m : Mode) (at : At) (next : ℕ) (q : Runner) (delay : Ticks) (r : ProcessStatus) → row_of s q ≡ Some r → Kept (starts m at next s q delay r)
  starts_goes m at next q delay r there =
      let fresh : ProcessStatus = record r { current_priority = r.base_priority } in
      let k = test (is_normal m) _ _ (in_normal_goes at next q delay r fresh there refl) (lock_waits o s h q r fresh (wait.NormalStart delay) None there refl refl) in
      record { fits = k.fits }

  if_waiting : (at : At) (next : ℕ) (i : ProcessIndex) (r : ProcessStatus) → row_of s (runner.Process i) ≡ Some r → (w : Wait) → Kept (starts_if_waiting at next s (runner.Process i) r w)
  if_waiting at next i r there (wait.NormalStart delay) = in_normal_goes at next (runner.Process i) delay r r there refl
  if_waiting at next i r there _ = still

  pub lock_starts_waiting : (at : At) (next : ℕ) (i : ProcessIndex) → Kept (starts_waiting at next s (runner.Process i) (row_of s (runner.Process i)))
  lock_starts_waiting at next i = by_row (row_of s (runner.Process i)) refl
    where
      by_row : (y : Option ProcessStatus) → row_of s (runner.Process i) ≡ y → Kept (starts_waiting at next s (runner.Process i) y)
      by_row None e = still
      by_row (Some r) e = if_waiting at next i r e r.wait

  -- ---- the services

  module _ (p : Runner) where
    pub lock_get_process_id : (id : ℤ) → Kept (get_process_id s p id)
    lock_get_process_id id = test (is_unknown s id) _ _ (told p _ _ _ refl) (told p _ _ _ refl)

    pub lock_get_process_status : (id : ℤ) → Kept (get_process_status s p id)
    lock_get_process_status id = test (is_unknown s id) _ _ (told p _ _ _ refl) (on_it id (tells_status s p) (λ q r there. told p _ _ _ refl))

    pub lock_create_process : (m : Mode) (id : ℤ) → Kept (create_process m s p id)
    lock_create_process m id =
        test (is_normal m) _ _ (told p _ _ _ refl) (test (not (is_some (process_at s id))) _ _ (told p _ _ _ refl) (test (has (process_at s id) is_created) _ _ (told p _ _ _ refl)
        (told_then p _ _ _ _ refl (on_it id (creates s) (λ q r there. row_goes q r (record r { created = true }) there refl refl)))))

    takes_goes : (v : Priority) (q : Runner) (r : ProcessStatus) → row_of s q ≡ Some r → Kept (takes_priority s v q r)
    takes_goes v q r there = by_test (is_ready_state r.state)
      where
        raised : ProcessStatus
        raised = record r { current_priority = v }

        by_test : (b : Bool) → Kept (nothing (if b then put_ready s q raised else put_row s q raised))
        by_test true = ready_goes q r raised there refl refl
        by_test false = row_goes q r raised there refl refl

    pub lock_set_priority : (id v : ℤ) → Kept (set_priority s p id v)
    lock_set_priority id v =
        test (is_unknown s id) _ _ (told p _ _ _ refl) (test (not (is_priority v)) _ _ (told p _ _ _ refl) (test (has (process_at s id) is_dormant) _ _ (told p _ _ _ refl)
        (told_then p _ _ _ _ refl (on_it id (takes_priority s (priority_of v)) (takes_goes (priority_of v))))))

    suspends_self_goes : (at : At) (limit : ℤ) → Kept (suspends_self at s p limit (row_of s p))
    suspends_self_goes at limit = by_row (row_of s p) refl
      where
        by_row : (y : Option ProcessStatus) → row_of s p ≡ y → Kept (suspends_self at s p limit y)
        by_row None e = still
        by_row (Some r) e = lock_waits o s h p r (record r { suspended = true }) _ _ e refl refl

    pub lock_suspend_self : (at : At) (limit : ℤ) → Kept (suspend_self at s p limit)
    lock_suspend_self at limit =
        test (is_busy s p) _ _ (told p _ _ _ refl) (test (not (is_duration limit)) _ _ (told p _ _ _ refl) (test (of_row is_periodic (row_of s p)) _ _ (told p _ _ _ refl)
        (test (is_zero limit) _ _ (told p _ _ _ refl) (suspends_self_goes at limit))))

    pub lock_suspend : (id : ℤ) → Kept (suspend s p id)
    lock_suspend id =
        test (is_no_other s p id) _ _ (told p _ _ _ refl) (test (has (process_at s id) is_dormant || has (process_at s id) is_periodic || is_holder s.lock (process_at s id)) _ _ (told p _ _ _ refl)
        (test (has (process_at s id) is_suspended) _ _ (told p _ _ _ refl)
        (told_then p _ _ _ _ refl (on_it id (suspends s) (λ q r there. lock_waits o s h q r (record r { suspended = true }) r.wait r.due there refl (h.waits (place_of q) r there))))))

    resumes_from_goes : (q : Runner) (r : ProcessStatus) (w : Wait) → row_of s q ≡ Some r → Kept (resumes_from s q (record r { suspended = false }) w)
    resumes_from_goes q r wait.Nothing there = lock_wakes o s h q r (record r { suspended = false }) there refl
    resumes_from_goes q r (wait.Service service.SuspendSelf) there = lock_released_with o s h q r (record r { suspended = false }) code.NoError (zeros_of_wait r.wait) there refl (h.waits (place_of q) r there)
    resumes_from_goes q r _ there = row_goes q r (record r { suspended = false }) there refl refl

    pub lock_resume : (id : ℤ) → Kept (resume s p id)
    lock_resume id =
        test (is_no_other s p id) _ _ (told p _ _ _ refl) (test (has (process_at s id) is_dormant || has (process_at s id) is_periodic) _ _ (told p _ _ _ refl)
        (test (not (has (process_at s id) is_suspended)) _ _ (told p _ _ _ refl) (told_then p _ _ _ _ refl (on_it id (resumes s) (λ q r there. resumes_from_goes q r r.wait there)))))

    pub lock_stop : (id : ℤ) → Kept (stop s p id)
    lock_stop id =
        test (is_no_other s p id) _ _ (told p _ _ _ refl) (test (has (process_at s id) is_dormant) _ _ (told p _ _ _ refl) (told_then p _ _ _ _ refl (on_it id (rests s) (lock_rests o s h))))

    pub lock_stop_self : Kept (stop_self s p)
    lock_stop_self = by_runner p
      where
        by_runner : (q : Runner) → Kept (stop_self s q)
        by_runner runner.Init = still
        by_runner runner.Handler = lock_rests_found o s h runner.Handler
        by_runner (runner.Process i) = lock_rests_found o s h (runner.Process i)

    pub lock_start : (m : Mode) (at : At) (next : ℕ) (id : ℤ) → Kept (start m at next s p id)
    lock_start m at next id =
        test (is_unknown s id) _ _ (told p _ _ _ refl) (test (not (has (process_at s id) is_dormant)) _ _ (told p _ _ _ refl)
        (told_then p _ _ _ _ refl (on_it id (λ q. starts m at next s q (ticks 0)) (λ q r there. starts_goes m at next q (ticks 0) r there))))

    pub lock_delayed_start : (m : Mode) (at : At) (next : ℕ) (id delay : ℤ) → Kept (delayed_start m at next s p id delay)
    lock_delayed_start m at next id delay =
        test (is_unknown s id) _ _ (told p _ _ _ refl) (test (not (is_delay delay)) _ _ (told p _ _ _ refl) (test (has (process_at s id) (λ r. is_beyond (amount delay) r.period)) _ _ (told p _ _ _ refl)
        (test (not (has (process_at s id) is_dormant)) _ _ (told p _ _ _ refl)
        (told_then p _ _ _ _ refl (on_it id (λ q. starts m at next s q (ticks (amount delay))) (λ q r there. starts_goes m at next q (ticks (amount delay)) r there))))))

    -- ---- the lock

    up : (i : ProcessIndex) → is_some (row_of s (runner.Process i)) ≡ true → (l : Lock) → HasHolder s.rows l
        → (HasHolder s.rows (locked_by (runner.Process i) l)) × (one_up (subject s (runner.Process i)) (held_by s.rows l) ≡ held_by s.rows (locked_by (runner.Process i) l))
    up i there lock.Free g = (there, refl)
    up i there (lock.Held level q) g = (g, refl)

    down : (l : Lock) → HasHolder s.rows l → (HasHolder s.rows (unlocked l)) × (one_down (held_by s.rows l) ≡ held_by s.rows (unlocked l))
    down lock.Free g = (tt, refl)
    down (lock.Held zero q) g = (tt, refl)
    down (lock.Held (suc zero) q) g = (tt, refl)
    down (lock.Held (suc (suc level)) q) g = (g, refl)

    refuses_lock : (v : Service) (c : ReturnCode) (outputs : List ℤ) → returns (subject s p) v c o ≡ o → Kept (answers s p v c outputs)
    refuses_lock v c outputs e = record { fits = subst (λ (x : Option Held). FitsIn x s) (sym e) h }

    locks_up : (m : Mode) → MayCall m s p → may_not_lock m p ≡ false → Kept (with_lock s p service.LockPreemption (locked_by p s.lock))
    locks_up m may e = by_runner p may e
      where
        by_runner : (q : Runner) → MayCall m s q → may_not_lock m q ≡ false → Kept (with_lock s q service.LockPreemption (locked_by q s.lock))
        by_runner runner.Init k f = absurd (false≢true (sym f ∙ ap not k))
        by_runner runner.Handler k f = absurd (false≢true (sym f))
        by_runner (runner.Process i) k f =
            let u = up i k s.lock h.holder in
            record { fits = record { named = h.named; waits = h.waits; holder = u.0; held = ap (one_up (subject s (runner.Process i))) h.held ∙ u.1 } }

    pub lock_lock_preemption : (m : Mode) → MayCall m s p → Kept (lock_preemption m s p)
    lock_lock_preemption m may =
        unless (may_not_lock m p) _ _ (refuses_lock service.LockPreemption code.NoAction _ refl)
        (λ e. test (nat_le MOST_LOCK_LEVEL (level_of s.lock)) _ _ (refuses_lock service.LockPreemption code.InvalidConfig _ refl) (locks_up m may e))

    pub lock_unlock_preemption : (m : Mode) → Kept (unlock_preemption m s p)
    lock_unlock_preemption m =
        let d = down s.lock h.holder in
        test (may_not_lock m p || not (is_held s.lock)) _ _ (refuses_lock service.UnlockPreemption code.NoAction _ refl)
        (record { fits = record { named = h.named; waits = h.waits; holder = d.0; held = ap one_down h.held ∙ d.1 } })

    -- ---- the others

    pub lock_get_my_id : (n : Option ℕ) → Kept (get_my_id s p n)
    lock_get_my_id None = told p _ _ _ refl
    lock_get_my_id (Some n) = told p _ _ _ refl

    yields_goes : Kept (yields s p (row_of s p))
    yields_goes = by_row (row_of s p) refl
      where
        by_row : (y : Option ProcessStatus) → row_of s p ≡ y → Kept (yields s p y)
        by_row None e = still
        by_row (Some r) e = ready_goes p r r e refl refl

    until_goes : (due : ℕ) → Kept (waits_until s p (row_of s p) due)
    until_goes due = by_row (row_of s p) refl
      where
        by_row : (y : Option ProcessStatus) → row_of s p ≡ y → Kept (waits_until s p y due)
        by_row None e = still
        by_row (Some r) e = lock_waits o s h p r r _ _ e refl refl

    delays_goes : (at : At) (delay : ℤ) → Kept (delays at s p delay)
    delays_goes at (negsuc n) = still
    delays_goes at (pos zero) = told_then p _ _ _ _ refl yields_goes
    delays_goes at (pos (suc n)) = until_goes (at.now.0 + suc n)

    pub lock_timed_wait : (at : At) (delay : ℤ) → Kept (timed_wait at s p delay)
    lock_timed_wait at delay = test (is_busy s p) _ _ (told p _ _ _ refl) (test (not (is_delay delay)) _ _ (told p _ _ _ refl) (delays_goes at delay))

    periodically_goes : Kept (waits_periodically s p (row_of s p))
    periodically_goes = by_row (row_of s p) refl
      where
        by_period : (r : ProcessStatus) → row_of s p ≡ Some r → (n : Option Ticks) → Kept (waits_for_period s p r n)
        by_period r e None = still
        by_period r e (Some period) = lock_waits o s h p r (record r { deadline = None }) _ _ e refl refl

        by_row : (y : Option ProcessStatus) → row_of s p ≡ y → Kept (waits_periodically s p y)
        by_row None e = still
        by_row (Some r) e = by_period r e r.period

    pub lock_periodic_wait : Kept (periodic_wait s p)
    lock_periodic_wait = test (is_busy s p) _ _ (told p _ _ _ refl) (test (not (of_row is_periodic (row_of s p))) _ _ (told p _ _ _ refl) periodically_goes)

    replenishes_goes : (at : At) (budget : ℤ) → Kept (replenishes at s p budget (row_of s p))
    replenishes_goes at budget = by_row (row_of s p) refl
      where
        by_row : (y : Option ProcessStatus) → row_of s p ≡ y → Kept (replenishes at s p budget y)
        by_row None e = still
        by_row (Some r) e = row_goes p r _ e refl refl

    pub lock_replenish : (m : Mode) (at : At) (budget : ℤ) → Kept (replenish m at s p budget)
    lock_replenish m at budget =
        test (may_not_lock m p) _ _ (told p _ _ _ refl) (test (not (is_duration budget)) _ _ (told p _ _ _ refl) (test (of_row has_no_deadline (row_of s p)) _ _ (told p _ _ _ refl)
        (test (of_row (λ r. reaches_past at budget r r.period) (row_of s p)) _ _ (told p _ _ _ refl) (told_then p _ _ _ _ refl (replenishes_goes at budget)))))

-- ---- the normal start

start_from_goes : (at : At) (next n place : ℕ) (o : Option Held) (s : Processes) → FitsIn o s → LockGoes o (start_from at next n place s)
start_from_goes at next zero place o s h = lock_here o s h
start_from_goes at next (suc n) place o s h =
    let u = starts_waiting at next s (runner.Process (index place)) (row_of s (runner.Process (index place))) in
    let k = lock_starts_waiting o s h at next (index place) in
    lock_in_turn o u (start_from at next n (place + 1) u.part) k (start_from_goes at next n (place + 1) (all_lock o u.lines) u.part k.fits)

pub lock_start_all : (at : At) (next : ℕ) (o : Option Held) (s : Processes) → FitsIn o s → LockGoes o (start_all_waiting at next s)
lock_start_all at next o s h = start_from_goes at next (length s.rows - 2) 0 o s h
