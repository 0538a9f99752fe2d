-- Clear, the services on the mode and on errors, what is due, and the choice keep the agreement of
-- the ready list with the records. The picked runner runs.
use Rattle.kernel_laws.proofs.Prelude.{◌≡◌, ℕ, zero, suc, ◌+◌, ℤ, Bool, true, false, List, ◌∷◌, map, Option, Some, None, refl, sym, subst, ◌∙◌, none-some, same_Some, ◌&&◌, if◌then◌else◌, is_some, nat_le, not, slice_get, place_of, ErrorKind, Mode, PartitionAction, Ready, StartCondition, At, Priority, ProcessIndex, Runner, Due, ProcessStatus, Wait, WaitingError, ArrayPlace, Treated, timed_out, ends_wait, misses, treats_deadline, treats, due_from, is_past, tick_of, mode_of_action, Errors, action_of, acts_on_error, begins_if_dormant, breaks, create_error_handler, creates_found, faults, get_error_status, is_fault, is_waiting, raise_application_error, raises, raises_application_error, starts_handler, takes_error, then_clears, Kernel, of_processes, with_errors, clears, ends_body, enters_mode, forgotten, is_cold, is_warm, mode_of, next_release_of, ready_init, set_partition_mode, started_rows, starts_normally, wants, is_ready_state, Processes, row_of, index, is_dormant, is_normal, rests_found, Sharing, released_at, Step, IsReadyAt, RecordsAgree, record_at}
use Rattle.std.proofs.Common.{[]}
use Rattle.std.proofs.lemmas.Bool.{false≢true}
use Rattle.apex_types.specs.declared.codes.ErrorKind.TheVariants as error
use Rattle.apex_types.specs.declared.codes.Mode.TheVariants as mode
use Rattle.apex_types.specs.declared.codes.ReturnCode.TheVariants as code
use Rattle.apex_types.specs.declared.codes.StartCondition.TheVariants as condition
use Rattle.apex_types.specs.declared.identity.Runner.TheVariants as runner
use Rattle.apex_types.specs.declared.process.Due.TheVariants as due_time
use Rattle.apex_types.specs.declared.process.Wait.TheVariants as wait
use Rattle.apex_types.specs.declared.service.Service.TheVariants as service
use Rattle.kernel_meaning.specs.Times.{treats_due}
use Rattle.kernel_meaning.specs.HealthServices.{enters_mode as enters_mode_of_action, ignores}
use Rattle.kernel_meaning.specs.PartitionServices.{cleared_processes}
use Rattle.kernel_laws.proofs.Places.{get_set_other, some_map, some_set}
use Rattle.kernel_laws.proofs.RecordObjects.{either as either_shared}
use Rattle.kernel_laws.proofs.RecordRows.{all_start_agree, row_agrees, stop_self_agrees}
use Rattle.kernel_laws.proofs.Records.{either, not_free, not_ready_plain, released_agrees, rests_found_agrees, wakes_agrees}

-- ---- Clear

-- no process is READY or RUNNING whose record is forgotten
forgotten_at : (rows : List ProcessStatus) (place : ℕ) (r : ProcessStatus) → slice_get (map forgotten rows) place ≡ Some r → is_ready_state r.state ≡ false
forgotten_at [] place r e = absurd (none-some r e)
forgotten_at (x ∷ xs) zero r e = subst (λ (y : ProcessStatus). is_ready_state y.state ≡ false) (same_Some (forgotten x) r e) refl
forgotten_at (x ∷ xs) (suc place) r e = forgotten_at xs place r e

init_at : (o : Option ProcessStatus) (rows : List ProcessStatus) (q : ProcessIndex) → record_at (ready_init o rows) q ≡ record_at rows q
init_at None rows q = refl
init_at (Some r) rows q = get_set_other rows 0 (place_of (runner.Process q)) (record r { state = Ready }) (λ e. cc)

pub started_at : (m : Mode) (rows : List ProcessStatus) (q : ProcessIndex) → record_at (started_rows m rows) q ≡ record_at rows q
started_at mode.Idle rows q = refl
started_at mode.ColdStart rows q = init_at (slice_get rows 0) rows q
started_at mode.WarmStart rows q = init_at (slice_get rows 0) rows q
started_at mode.Normal rows q = init_at (slice_get rows 0) rows q

init_some : (o : Option ProcessStatus) (rows : List ProcessStatus) (i : ℕ) → is_some (slice_get rows i) ≡ true → is_some (slice_get (ready_init o rows) i) ≡ true
init_some None rows i h = h
init_some (Some r) rows i h = some_set rows 0 i (record r { state = Ready }) h

started_some : (m : Mode) (rows : List ProcessStatus) (i : ℕ) → is_some (slice_get rows i) ≡ true → is_some (slice_get (started_rows m rows) i) ≡ true
started_some mode.Idle rows i h = h
started_some mode.ColdStart rows i h = init_some (slice_get rows 0) rows i h
started_some mode.WarmStart rows i h = init_some (slice_get rows 0) rows i h
started_some mode.Normal rows i h = init_some (slice_get rows 0) rows i h

module _ (m : Mode) (rows : List ProcessStatus) where
  cleared_at : (q : ProcessIndex) (r : ProcessStatus) → record_at (started_rows m (map forgotten rows)) q ≡ Some r → is_ready_state r.state ≡ false
  cleared_at q r e = forgotten_at rows (place_of (runner.Process q)) r (sym (started_at m (map forgotten rows) q) ∙ e)

  none_ready : (q : ProcessIndex) (priority : Priority) (o : Option ProcessStatus) → record_at (started_rows m (map forgotten rows)) q ≡ o → IsReadyAt o priority → ⊥
  none_ready q priority None e k = k
  none_ready q priority (Some r) e k = false≢true (sym (cleared_at q r e) ∙ k.0)

cleared_agree : (m : Mode) (s : Processes) → RecordsAgree s → RecordsAgree (cleared_processes m s)
cleared_agree m s h = record {
  listed = λ e. ((λ a. absurd a), (λ k. absurd (none_ready m s.rows e.process e.priority (record_at (started_rows m (map forgotten s.rows)) e.process) refl k)));
  plain = λ q r e. not_ready_plain r (cleared_at m s.rows q r e);
  runs = λ q e. absurd (none-some (runner.Process q) e);
  holds = λ level q e. absurd (not_free level q e);
  init = started_some m (map forgotten s.rows) 0 (some_map forgotten s.rows 0 h.init);
  handler = started_some m (map forgotten s.rows) 1 (some_map forgotten s.rows 1 h.handler);
}

abbrev pub KernelAgrees : Kernel → Type 0
KernelAgrees k = RecordsAgree k.processes

abbrev Kept : Step Kernel → Type 0
Kept s = KernelAgrees s.part

pub clears_agrees : (k : Kernel) (m : Mode) (c : StartCondition) → KernelAgrees k → Kept (clears k m c)
clears_agrees k m c h = cleared_agree m k.processes h

-- ---- the mode, and the end of a body

either_kernel : (b : Bool) (s t : Step Kernel) → Kept s → Kept t → Kept (if b then s else t)
either_kernel b s t h k = either (λ (c : Kernel). c.processes) b s t (λ e. h) (λ e. k)

pub ends_body_agrees : (k : Kernel) (p : Runner) → KernelAgrees k → Kept (ends_body k p)
ends_body_agrees k runner.Init h = clears_agrees k mode.Idle condition.PartitionRestart h
ends_body_agrees k runner.Handler h = stop_self_agrees k.processes h runner.Handler
ends_body_agrees k (runner.Process q) h = stop_self_agrees k.processes h (runner.Process q)

normally_agrees : (at : At) (k : Kernel) → KernelAgrees k → Kept (starts_normally at k)
normally_agrees at k h = all_start_agree at (next_release_of at k) (rests_found k.processes runner.Init (row_of k.processes runner.Init)).part (rests_found_agrees k.processes h runner.Init)

enters_agrees : (at : At) (k : Kernel) (o : Option Mode) → KernelAgrees k → Kept (enters_mode at k o)
enters_agrees at k None h = h
enters_agrees at k (Some mode.Normal) h = normally_agrees at k h
enters_agrees at k (Some mode.Idle) h = clears_agrees k mode.Idle condition.PartitionRestart h
enters_agrees at k (Some mode.ColdStart) h = clears_agrees k mode.ColdStart condition.PartitionRestart h
enters_agrees at k (Some mode.WarmStart) h = clears_agrees k mode.WarmStart condition.PartitionRestart h

pub set_mode_agrees : (at : At) (k : Kernel) (p : Runner) (m : ℤ) → KernelAgrees k → Kept (set_partition_mode at k p m)
set_mode_agrees at k p m h =
    either_kernel (not (is_some (mode_of m))) _ _ h
    (either_kernel (wants is_normal (mode_of m) && is_normal k.mode) _ _ h (either_kernel (wants is_warm (mode_of m) && is_cold k.mode) _ _ h (enters_agrees at k (mode_of m) h)))

-- ---- errors

module _ (b : Sharing Errors) (h : RecordsAgree b.processes) (p : Runner) where
  abbrev IsKept : Step (Sharing Errors) → Type 0
  IsKept s = RecordsAgree s.part.processes

  creates_found_agrees : RecordsAgree (creates_found b.processes runner.Handler (row_of b.processes runner.Handler)).part
  creates_found_agrees = by_row (row_of b.processes runner.Handler) refl
    where
      by_row : (o : Option ProcessStatus) → row_of b.processes runner.Handler ≡ o → RecordsAgree (creates_found b.processes runner.Handler o).part
      by_row None e = h
      by_row (Some r) e = row_agrees b.processes h runner.Handler r (record r { created = true }) e refl refl (λ k. record { suspended = k.suspended; waits = k.waits; due = k.due })

  pub create_handler_agrees : (m : Mode) → IsKept (create_error_handler m b p)
  create_handler_agrees m = search (either_shared, creates_found_agrees)

  takes_error_agrees : (array : ArrayPlace) (es : List WaitingError) → IsKept (takes_error b p array es)
  takes_error_agrees array [] = h
  takes_error_agrees array (e ∷ rest) = h

  pub error_status_agrees : (array : ArrayPlace) → IsKept (get_error_status b p array)
  error_status_agrees array = search (either_shared, takes_error_agrees array b.shared.waiting)

ignores_agrees : (k : Kernel) (p : Runner) (e : ErrorKind) → KernelAgrees k → Kept (ignores k p e)
ignores_agrees k runner.Init e h = either_kernel (is_fault e) _ _ (clears_agrees k mode.Idle condition.HmPartitionRestart h) h
ignores_agrees k runner.Handler e h = h
ignores_agrees k (runner.Process q) e h = h

enters_of_action_agrees : (k : Kernel) (p : Runner) (e : ErrorKind) (o : Option Mode) → KernelAgrees k → Kept (enters_mode_of_action k p e o)
enters_of_action_agrees k p e None h = ignores_agrees k p e h
enters_of_action_agrees k p e (Some m) h = clears_agrees k m condition.HmPartitionRestart h

acts_agrees : (k : Kernel) (p : Runner) (e : ErrorKind) (o : Option PartitionAction) → KernelAgrees k → Kept (acts_on_error k p e o)
acts_agrees k p e None h = h
acts_agrees k p e (Some a) h = enters_of_action_agrees k p e (mode_of_action a) h

-- a service that raises an error, and a fault
pub raise_agrees : (k : Kernel) (p : Runner) (e : ℤ) (array : ArrayPlace) (size : ℤ) (words : List ℤ) → KernelAgrees k → Kept (raises_application_error k p e array size words)
raise_agrees k p e array size words h = acts_agrees k p error.ApplicationError (raise_application_error k.fixed.health k.mode (with_errors k) p e array size words).part h

pub faults_agrees : (k : Kernel) (p : Runner) (e : ErrorKind) → KernelAgrees k → Kept (faults k p e)
faults_agrees k p e h =
    let j = (of_processes k (rests_found k.processes p (row_of k.processes p))).part in
    acts_agrees j p e (raises j.fixed.health j.mode (with_errors j) p e []).part (rests_found_agrees k.processes h p)

pub then_clears_agrees : (k : Kernel) (o : Option Mode) → KernelAgrees k → Kept (then_clears k o)
then_clears_agrees k None h = h
then_clears_agrees k (Some m) h = clears_agrees k m condition.HmPartitionRestart h

pub breaks_agrees : (k : Kernel) → KernelAgrees k → Kept (breaks k)
breaks_agrees k h = then_clears_agrees k (mode_of_action (action_of k.fixed.health error.HardwareFault)) h

-- ---- what is due

module _ (s : Processes) (h : RecordsAgree s) where
  ends_wait_agrees : (p : Runner) (r : ProcessStatus) (d : Due) → row_of s p ≡ Some r → RecordsAgree (ends_wait s p r d).part
  ends_wait_agrees p r (due_time.Release at) there = released_agrees s h p r (released_at at r) code.NoError there refl (λ k. k)
  ends_wait_agrees p r (due_time.Delay at) there = released_agrees s h p r r code.NoError there refl (λ k. k)
  ends_wait_agrees p r (due_time.TimeOut at) there = released_agrees s h p r (timed_out r r.wait) code.TimedOut there (same_state r.wait) (suspended r.wait)
    where
      same_state : (w : Wait) → is_ready_state (timed_out r w).state ≡ is_ready_state r.state
      same_state (wait.Service service.SuspendSelf) = refl
      same_state _ = refl

      suspended : (w : Wait) → (timed_out r w).suspended ≡ true → r.suspended ≡ true
      suspended (wait.Service service.SuspendSelf) k = absurd (false≢true k)
      suspended _ k = k

  treats_due_agrees : (at : At) (p : Runner) (r : ProcessStatus) (o : Option Due) → row_of s p ≡ Some r → RecordsAgree (treats_due at s p r o).part
  treats_due_agrees at p r None there = h
  treats_due_agrees at p r (Some d) there = either (λ v. v) (nat_le (tick_of d) at.now.0) _ _ (λ e. ends_wait_agrees p r d there) (λ e. h)

  misses_agrees : (free : ℕ) (action : PartitionAction) (p : ProcessIndex) (r : ProcessStatus) → row_of s (runner.Process p) ≡ Some r → RecordsAgree (misses free action s p r).step.part
  misses_agrees zero action p r there = row_agrees s h (runner.Process p) r (record r { deadline = None }) there refl refl (λ k. record { suspended = k.suspended; waits = k.waits; due = k.due })
  misses_agrees (suc free) action p r there = row_agrees s h (runner.Process p) r (record r { deadline = None }) there refl refl (λ k. record { suspended = k.suspended; waits = k.waits; due = k.due })

  deadline_agrees : (at : At) (free : ℕ) (action : PartitionAction) (p : ProcessIndex) → RecordsAgree (treats_deadline at free action s p (row_of s (runner.Process p))).step.part
  deadline_agrees at free action p = by_row (row_of s (runner.Process p)) refl
    where
      by_test : (r : ProcessStatus) → row_of s (runner.Process p) ≡ Some r → (b : Bool) (t : Treated) → RecordsAgree t.step.part → RecordsAgree (if b then misses free action s p r else t).step.part
      by_test r e true t k = misses_agrees free action p r e
      by_test r e false t k = k

      by_row : (o : Option ProcessStatus) → row_of s (runner.Process p) ≡ o → RecordsAgree (treats_deadline at free action s p o).step.part
      by_row None e = h
      by_row (Some r) e = by_test r e (is_past at.now.0 r.deadline) _ h

treats_agrees : (at : At) (free : ℕ) (action : PartitionAction) (s : Processes) (p : ProcessIndex) → RecordsAgree s → RecordsAgree (treats at free action s p (row_of s (runner.Process p))).step.part
treats_agrees at free action s p h = by_row (row_of s (runner.Process p)) refl
  where
    by_row : (o : Option ProcessStatus) → row_of s (runner.Process p) ≡ o → RecordsAgree (treats at free action s p o).step.part
    by_row None e = h
    by_row (Some r) e = deadline_agrees (treats_due at s (runner.Process p) r r.due).part (treats_due_agrees s h at (runner.Process p) r r.due e) at free action p

either_treated : (b : Bool) (s t : Treated) → RecordsAgree s.step.part → RecordsAgree t.step.part → RecordsAgree (if b then s else t).step.part
either_treated true s t h k = h
either_treated false s t h k = k

pub due_from_agrees : (at : At) (action : PartitionAction) (n place free : ℕ) (s : Processes) → RecordsAgree s → RecordsAgree (due_from at action n place free s).step.part
due_from_agrees at action zero place free s h = h
due_from_agrees at action (suc n) place free s h =
    let t = treats at free action s (index place) (row_of s (runner.Process (index place))) in
    let g = treats_agrees at free action s (index place) h in
    either_treated (is_some t.clears) _ _ g (due_from_agrees at action n (place + 1) t.free t.step.part g)

-- ---- the handler starts

pub handler_agrees : (m : Mode) (b : Sharing Errors) → RecordsAgree b.processes → RecordsAgree (starts_handler m b).part
handler_agrees m b h = either (λ v. v) (is_normal m && is_waiting b.shared.waiting) _ _ (λ e. by_row (row_of b.processes runner.Handler) refl) (λ e. h)
  where
    by_row : (o : Option ProcessStatus) → row_of b.processes runner.Handler ≡ o → RecordsAgree (begins_if_dormant b.processes o).part
    by_row None e = h
    by_row (Some r) e = either (λ v. v) (r.created && is_dormant r) _ _ (λ k. wakes_agrees b.processes h runner.Handler r r e refl (λ n. n)) (λ k. h)
