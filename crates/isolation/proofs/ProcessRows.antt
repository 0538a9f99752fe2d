-- The services on processes and on time keep the property of the processes that wait at ports.
use Rattle.isolation.proofs.Prelude.{ℕ, zero, suc, ◌+◌, ℤ, Bool, true, false, List, length, Option, Some, None, not, pos, negsuc, if◌then◌else◌, Mode, At, Runner, ProcessStatus, Wait, PortRow, is_duration, is_zero, Processes, row_of, index, is_busy}
use Rattle.std.specs.Prelude.{◌-◌}
use Rattle.apex_types.specs.declared.codes.ReturnCode.TheVariants as code
use Rattle.apex_types.specs.declared.identity.Priority.{Priority}
use Rattle.apex_types.specs.declared.identity.Runner.TheVariants as runner
use Rattle.apex_types.specs.declared.identity.Ticks.{Ticks}
use Rattle.apex_types.specs.declared.process.Wait.TheVariants as wait
use Rattle.apex_types.specs.declared.service.Service.TheVariants as service
use Rattle.kernel_meaning.specs.Times.{is_delay}
use Rattle.kernel_meaning.specs.Processes.{is_periodic}
use Rattle.kernel_meaning.specs.ProcessServices.{get_process_id, get_process_status, create_process, set_priority, takes_priority, is_ready_state, suspend_self, suspends_self, of_row, may_not_lock, time_out, suspend, resume, resumes, resumes_from, stop, stop_self, start, delayed_start, lock_preemption, unlock_preemption, get_my_id}
use Rattle.kernel_meaning.specs.Times.{starts, starts_in_normal, starts_if_waiting, starts_waiting, start_from, start_all_waiting}
use Rattle.kernel_meaning.specs.ProcessServices.{timed_wait, delays, yields, waits_until, periodic_wait, waits_periodically, waits_for_period, replenish, replenishes, deadline_in, has_no_deadline, reaches_past}
use Rattle.isolation.proofs.Handed.{IsSoundProcesses, either, row_sound, ready_sound, lock_sound, wakes_sound, waits_sound, rests_sound, rests_found_sound, released_sound, on_sound}

module _ (rows : List PortRow) where
  abbrev Sound : Processes → Type 0
  Sound s = IsSoundProcesses rows s

  -- one of two states
  either_state : (b : Bool) (s t : Processes) → Sound s → Sound t → Sound (if b then s else t)
  either_state true s t h k = h
  either_state false s t h k = k

  -- ---- starts
  in_normal_sound : (at : At) (next : ℕ) (s : Processes) (q : Runner) (delay : Ticks) (r : ProcessStatus) → Sound s → Sound (starts_in_normal at next s q delay r).part
  in_normal_sound at next s q delay r h = search (either, waits_sound, wakes_sound)

  starts_sound : (m : Mode) (at : At) (next : ℕ) (s : Processes) (q : Runner) (delay : Ticks) (r : ProcessStatus) → Sound s → Sound (starts m at next s q delay r).part
  starts_sound m at next s q delay r h = search (either, in_normal_sound, waits_sound)

  from_sound : (at : At) (next n place : ℕ) (s : Processes) → Sound s → Sound (start_from at next n place s).part
  from_sound at next zero place s h = h
  from_sound at next (suc n) place s h =
      from_sound at next n (place + 1) (starts_waiting at next s (runner.Process (index place)) (row_of s (runner.Process (index place)))).part (found (runner.Process (index place)) (row_of s (runner.Process (index place))))
    where
      if_waiting : (q : Runner) (r : ProcessStatus) (w : Wait) → Sound (starts_if_waiting at next s q r w).part
      if_waiting q r (wait.NormalStart delay) = in_normal_sound at next s q delay r h
      if_waiting q r w = h

      found : (q : Runner) (o : Option ProcessStatus) → Sound (starts_waiting at next s q o).part
      found q None = h
      found q (Some r) = if_waiting q r r.wait

  -- all processes that wait for the normal start are started
  pub all_start_sound : (at : At) (next : ℕ) (s : Processes) → Sound s → Sound (start_all_waiting at next s).part
  all_start_sound at next s h = from_sound at next (length s.rows - 2) 0 s h

  -- ---- the services
  module _ (s : Processes) (h : IsSoundProcesses rows s) (p : Runner) where
    pub get_process_id_sound : (name : ℤ) → Sound (get_process_id s p name).part
    get_process_id_sound name = search (either)

    pub get_process_status_sound : (id : ℤ) → Sound (get_process_status s p id).part
    get_process_status_sound id = search (either, on_sound)

    pub create_process_sound : (m : Mode) (name : ℤ) → Sound (create_process m s p name).part
    create_process_sound m name = search (either, on_sound, row_sound)

    takes_sound : (v : Priority) (q : Runner) (r : ProcessStatus) → Sound (takes_priority s v q r).part
    takes_sound v q r = either_state (is_ready_state r.state) _ _ (ready_sound rows s q (record r { current_priority = v }) h) (row_sound rows s q (record r { current_priority = v }) h)

    pub set_priority_sound : (id v : ℤ) → Sound (set_priority s p id v).part
    set_priority_sound id v = search (either, on_sound, takes_sound)

    suspends_sound : (at : At) (limit : ℤ) (o : Option ProcessStatus) → Sound (suspends_self at s p limit o).part
    suspends_sound at limit None = h
    suspends_sound at limit (Some r) = waits_sound rows s p (record r { suspended = true }) (wait.Service service.SuspendSelf) (time_out at limit) h

    pub suspend_self_sound : (at : At) (limit : ℤ) → Sound (suspend_self at s p limit).part
    suspend_self_sound at limit =
        either rows (is_busy s p) _ _ h (either rows (not (is_duration limit)) _ _ h (either rows (of_row is_periodic (row_of s p)) _ _ h (either rows (is_zero limit) _ _ h (suspends_sound at limit (row_of s p)))))

    pub suspend_sound : (id : ℤ) → Sound (suspend s p id).part
    suspend_sound id = search (either, on_sound, waits_sound)

    resumes_from_sound : (q : Runner) (r : ProcessStatus) (w : Wait) → Sound (resumes_from s q r w).part
    resumes_from_sound q r wait.Nothing = wakes_sound rows s q r h
    resumes_from_sound q r (wait.Service service.SuspendSelf) = released_sound rows s q r code.NoError h
    resumes_from_sound q r w = row_sound rows s q r h

    resumes_sound : (q : Runner) (r : ProcessStatus) → Sound (resumes s q r).part
    resumes_sound q r = resumes_from_sound q (record r { suspended = false }) r.wait

    pub resume_sound : (id : ℤ) → Sound (resume s p id).part
    resume_sound id = search (either, on_sound, resumes_sound)

    pub stop_sound : (id : ℤ) → Sound (stop s p id).part
    stop_sound id = search (either, on_sound, rests_sound)

    pub start_sound : (m : Mode) (at : At) (next : ℕ) (id : ℤ) → Sound (start m at next s p id).part
    start_sound m at next id = search (either, on_sound, starts_sound)

    pub delayed_start_sound : (m : Mode) (at : At) (next : ℕ) (id delay : ℤ) → Sound (delayed_start m at next s p id delay).part
    delayed_start_sound m at next id delay = search (either, on_sound, starts_sound) depth 8

    pub lock_preemption_sound : (m : Mode) → Sound (lock_preemption m s p).part
    lock_preemption_sound m = search (either, lock_sound)

    pub unlock_preemption_sound : (m : Mode) → Sound (unlock_preemption m s p).part
    unlock_preemption_sound m = search (either, lock_sound)

    pub get_my_id_sound : (o : Option ℕ) → Sound (get_my_id s p o).part
    get_my_id_sound None = h
    get_my_id_sound (Some n) = h

    yields_sound : (o : Option ProcessStatus) → Sound (yields s p o).part
    yields_sound None = h
    yields_sound (Some r) = ready_sound rows s p r h

    waits_until_sound : (o : Option ProcessStatus) (tick : ℕ) → Sound (waits_until s p o tick).part
    waits_until_sound None tick = h
    waits_until_sound (Some r) tick = waits_sound rows s p r _ _ h

    delays_sound : (at : At) (delay : ℤ) → Sound (delays at s p delay).part
    delays_sound at (negsuc n) = h
    delays_sound at (pos zero) = yields_sound (row_of s p)
    delays_sound at (pos (suc n)) = waits_until_sound (row_of s p) (at.now.0 + suc n)

    pub timed_wait_sound : (at : At) (delay : ℤ) → Sound (timed_wait at s p delay).part
    timed_wait_sound at delay = either rows (is_busy s p) _ _ h (either rows (not (is_delay delay)) _ _ h (delays_sound at delay))

    waits_for_period_sound : (r : ProcessStatus) (o : Option Ticks) → Sound (waits_for_period s p r o).part
    waits_for_period_sound r None = h
    waits_for_period_sound r (Some period) = waits_sound rows s p (record r { deadline = None }) _ _ h

    waits_periodically_sound : (o : Option ProcessStatus) → Sound (waits_periodically s p o).part
    waits_periodically_sound None = h
    waits_periodically_sound (Some r) = waits_for_period_sound r r.period

    pub periodic_wait_sound : Sound (periodic_wait s p).part
    periodic_wait_sound = either rows (is_busy s p) _ _ h (either rows (not (of_row is_periodic (row_of s p))) _ _ h (waits_periodically_sound (row_of s p)))

    replenishes_sound : (at : At) (budget : ℤ) (o : Option ProcessStatus) → Sound (replenishes at s p budget o).part
    replenishes_sound at budget None = h
    replenishes_sound at budget (Some r) = row_sound rows s p (record r { deadline = deadline_in at budget }) h

    pub replenish_sound : (m : Mode) (at : At) (budget : ℤ) → Sound (replenish m at s p budget).part
    replenish_sound m at budget =
        either rows (may_not_lock m p) _ _ h (either rows (not (is_duration budget)) _ _ h (either rows (of_row has_no_deadline (row_of s p)) _ _ h
        (either rows (of_row (λ r. reaches_past at budget r r.period) (row_of s p)) _ _ h (replenishes_sound at budget (row_of s p)))))

    pub stop_self_sound : Sound (stop_self s p).part
    stop_self_sound = of_runner p
      where
        of_runner : (q : Runner) → Sound (stop_self s q).part
        of_runner runner.Init = h
        of_runner runner.Handler = rests_found_sound rows s runner.Handler (row_of s runner.Handler) h
        of_runner (runner.Process q) = rests_found_sound rows s (runner.Process q) (row_of s (runner.Process q)) h
