-- Clear, the services on the mode and on errors, what is due, and the choice keep the agreement of
-- the waiting lists with the records.
use Rattle.kernel_laws.proofs.Prelude.{◌≡◌, ℕ, zero, suc, ◌+◌, ℤ, Bool, true, false, List, ◌∷◌, map, Option, Some, None, refl, subst, arith, ◌&&◌, if◌then◌else◌, is_some, nat_le, not, slice_get, place_of, ErrorKind, Mode, PartitionAction, Ready, Running, StartCondition, At, ListKey, ProcessIndex, Runner, Due, ProcessStatus, WaitingError, ArrayPlace, Treated, timed_out, ends_wait, misses, treats_deadline, treats, due_from, is_past, tick_of, mode_of_action, Errors, action_of, acts_on_error, are_same, begins_if_dormant, breaks, chooses, create_error_handler, creates_found, faults, get_error_status, is_fault, is_waiting, leaves_processor, pick, preempts, raise_application_error, raises, raises_application_error, runs, starts_handler, takes_error, takes_processor, then_clears, Kernel, of_processes, with_errors, clears, ends_body, enters_mode, forgotten, is_cold, is_warm, mode_of, next_release_of, set_partition_mode, started_rows, starts_normally, wants, Processes, row_of, index, is_dormant, is_normal, rests_found, Sharing, released_at, Step, RecordsAgree, record_at}
use Rattle.std.proofs.Common.{[]}
use Rattle.std.proofs.lemmas.Bool.{false≢true}
use Rattle.apex_types.specs.declared.codes.ErrorKind.TheVariants as error
use Rattle.apex_types.specs.declared.codes.Mode.TheVariants as mode
use Rattle.apex_types.specs.declared.codes.ReturnCode.TheVariants as code
use Rattle.apex_types.specs.declared.codes.StartCondition.TheVariants as condition
use Rattle.apex_types.specs.declared.identity.Runner.TheVariants as runner
use Rattle.apex_types.specs.declared.process.Due.TheVariants as due_time
use Rattle.kernel_meaning.specs.Times.{treats_due}
use Rattle.kernel_meaning.specs.HealthServices.{enters_mode as enters_mode_of_action, ignores}
use Rattle.kernel_meaning.specs.PartitionServices.{cleared_processes}
use Rattle.kernel_meaning.specs.Queues.{emptied}
use Rattle.kernel_laws.specs.WhoWaits.{Stands, WaitsForObject}
use Rattle.kernel_laws.proofs.InRange.{AreInRange, PortsAreInRange, cleared_in_range, cleared_ports_in_range}
use Rattle.kernel_laws.proofs.RecordChoice.{leaves_agrees, not_handler, picked_after, runs_ready}
use Rattle.kernel_laws.proofs.RecordKernel.{started_at}
use Rattle.kernel_laws.proofs.WaitObjects.{either as either_shared}
use Rattle.kernel_laws.proofs.WaitRows.{IsIdle, all_start_hold, caller_idle, same_holds, stop_self_holds}
use Rattle.kernel_laws.proofs.WaitSteps.{Hold, either, kept, out_by_wait, out_like, released_holds, rests_found_holds, wakes_holds}
use Rattle.kernel_laws.proofs.WaitingCounts.{lists_emptied, none_emptied}

-- ---- Clear

-- no record that is forgotten waits
forgotten_waits : (rows : List ProcessStatus) (place : ℕ) → WaitsForObject (slice_get (map forgotten rows) place) → ⊥
forgotten_waits [] place a = false≢true a
forgotten_waits (x ∷ xs) zero a = false≢true a
forgotten_waits (x ∷ xs) (suc place) a = forgotten_waits xs place a

module _ (m : Mode) (s : Processes) where
  none_waits : (q : ProcessIndex) → WaitsForObject (record_at (started_rows m (map forgotten s.rows)) q) → ⊥
  none_waits q a = forgotten_waits s.rows (place_of (runner.Process q)) (subst WaitsForObject (started_at m (map forgotten s.rows) q) a)

  none_stands : (k : ListKey) (q : ProcessIndex) → Stands (emptied s.queues) k q → ⊥
  none_stands k q n = let none = none_emptied s.queues k q in omega (arith, none, n)

  cleared_hold : {few : Type 0} → Hold few s → Hold few (cleared_processes m s)
  cleared_hold h = record {
    waiting = record {
      waits = λ k q n. absurd (none_stands k q n);
      alone = λ j k q n o. absurd (none_stands j q n);
      once = λ k q. let none = none_emptied s.queues k q in omega (arith, none);
    };
    all = λ few q a. absurd (none_waits q a);
    lists = lists_emptied s.queues h.lists;
  }

-- the waiting lists agree with the records, and no object is without a list
pub record KernelHolds (few : Type 0) (k : Kernel) : Type 0 where
  pub holds : Hold few k.processes
  pub objects : few → AreInRange k.objects
  pub ports : few → PortsAreInRange k.ports

abbrev Kept : Type 0 → Step Kernel → Type 0
Kept few s = KernelHolds few s.part

module _ {few : Type 0} where
  -- with other processes
  pub of_holds : (k : Kernel) (s : Processes) → KernelHolds few k → Hold few s → KernelHolds few (record k { processes = s })
  of_holds k s h g = record { holds = g; objects = h.objects; ports = h.ports }

  pub clears_hold : (k : Kernel) (m : Mode) (c : StartCondition) → KernelHolds few k → Kept few (clears k m c)
  clears_hold k m c h = record {
    holds = cleared_hold m k.processes h.holds;
    objects = λ so. cleared_in_range k.objects (h.objects so);
    ports = λ so. cleared_ports_in_range k.ports (h.ports so);
  }

  -- ---- the mode, and the end of a body

  either_kernel : (b : Bool) (s t : Step Kernel) → Kept few s → Kept few t → Kept few (if b then s else t)
  either_kernel true s t h k = h
  either_kernel false s t h k = k

  pub ends_body_holds : (k : Kernel) (p : Runner) → KernelHolds few k → Kept few (ends_body k p)
  ends_body_holds k runner.Init h = clears_hold k mode.Idle condition.PartitionRestart h
  ends_body_holds k runner.Handler h = of_holds k _ h (stop_self_holds k.processes h.holds runner.Handler)
  ends_body_holds k (runner.Process q) h = of_holds k _ h (stop_self_holds k.processes h.holds (runner.Process q))

  normally_holds : (at : At) (k : Kernel) → KernelHolds few k → Kept few (starts_normally at k)
  normally_holds at k h = record {
    holds = all_start_hold at (next_release_of at k) (rests_found k.processes runner.Init (row_of k.processes runner.Init)).part (rests_found_holds k.processes h.holds runner.Init);
    objects = h.objects;
    ports = h.ports;
  }

  enters_hold : (at : At) (k : Kernel) (o : Option Mode) → KernelHolds few k → Kept few (enters_mode at k o)
  enters_hold at k None h = h
  enters_hold at k (Some mode.Normal) h = normally_holds at k h
  enters_hold at k (Some mode.Idle) h = clears_hold k mode.Idle condition.PartitionRestart h
  enters_hold at k (Some mode.ColdStart) h = clears_hold k mode.ColdStart condition.PartitionRestart h
  enters_hold at k (Some mode.WarmStart) h = clears_hold k mode.WarmStart condition.PartitionRestart h

  pub set_mode_holds : (at : At) (k : Kernel) (p : Runner) (m : ℤ) → KernelHolds few k → Kept few (set_partition_mode at k p m)
  set_mode_holds at k p m h =
      either_kernel (not (is_some (mode_of m))) _ _ h
      (either_kernel (wants is_normal (mode_of m) && is_normal k.mode) _ _ h (either_kernel (wants is_warm (mode_of m) && is_cold k.mode) _ _ h (enters_hold at k (mode_of m) h)))

-- ---- errors

module _ {few : Type 0} (b : Sharing Errors) (h : Hold few b.processes) (p : Runner) where
  abbrev IsKept : Step (Sharing Errors) → Type 0
  IsKept s = Hold few s.part.processes

  creates_found_holds : Hold few (creates_found b.processes runner.Handler (row_of b.processes runner.Handler)).part
  creates_found_holds = by_row (row_of b.processes runner.Handler) refl
    where
      by_row : (o : Option ProcessStatus) → row_of b.processes runner.Handler ≡ o → Hold few (creates_found b.processes runner.Handler o).part
      by_row None e = h
      by_row (Some r) e = same_holds b.processes h runner.Handler r (record r { created = true }) e refl refl

  pub create_handler_holds : (m : Mode) → IsKept (create_error_handler m b p)
  create_handler_holds m = search (either_shared, creates_found_holds)

  takes_error_holds : (array : ArrayPlace) (es : List WaitingError) → IsKept (takes_error b p array es)
  takes_error_holds array [] = h
  takes_error_holds array (e ∷ rest) = h

  pub error_status_holds : (array : ArrayPlace) → IsKept (get_error_status b p array)
  error_status_holds array = search (either_shared, takes_error_holds array b.shared.waiting)

module _ {few : Type 0} where
  ignores_hold : (k : Kernel) (p : Runner) (e : ErrorKind) → KernelHolds few k → KernelHolds few (ignores k p e).part
  ignores_hold k runner.Init e h = either_kernel (is_fault e) _ _ (clears_hold k mode.Idle condition.HmPartitionRestart h) h
  ignores_hold k runner.Handler e h = h
  ignores_hold k (runner.Process q) e h = h

  enters_of_action_hold : (k : Kernel) (p : Runner) (e : ErrorKind) (o : Option Mode) → KernelHolds few k → KernelHolds few (enters_mode_of_action k p e o).part
  enters_of_action_hold k p e None h = ignores_hold k p e h
  enters_of_action_hold k p e (Some m) h = clears_hold k m condition.HmPartitionRestart h

  acts_hold : (k : Kernel) (p : Runner) (e : ErrorKind) (o : Option PartitionAction) → KernelHolds few k → KernelHolds few (acts_on_error k p e o).part
  acts_hold k p e None h = h
  acts_hold k p e (Some a) h = enters_of_action_hold k p e (mode_of_action a) h

  -- a service that raises an error, and a fault
  pub raise_holds : (k : Kernel) (p : Runner) (e : ℤ) (array : ArrayPlace) (size : ℤ) (words : List ℤ) → KernelHolds few k → KernelHolds few (raises_application_error k p e array size words).part
  raise_holds k p e array size words h = acts_hold k p error.ApplicationError (raise_application_error k.fixed.health k.mode (with_errors k) p e array size words).part h

  pub faults_hold : (k : Kernel) (p : Runner) (e : ErrorKind) → KernelHolds few k → KernelHolds few (faults k p e).part
  faults_hold k p e h =
      let j = (of_processes k (rests_found k.processes p (row_of k.processes p))).part in
      acts_hold j p e (raises j.fixed.health j.mode (with_errors j) p e []).part (of_holds k _ h (rests_found_holds k.processes h.holds p))

  pub then_clears_hold : (k : Kernel) (o : Option Mode) → KernelHolds few k → KernelHolds few (then_clears k o).part
  then_clears_hold k None h = h
  then_clears_hold k (Some m) h = clears_hold k m condition.HmPartitionRestart h

  pub breaks_hold : (k : Kernel) → KernelHolds few k → KernelHolds few (breaks k).part
  breaks_hold k h = then_clears_hold k (mode_of_action (action_of k.fixed.health error.HardwareFault)) h

-- ---- what is due

module _ {few : Type 0} (s : Processes) (h : Hold few s) where
  ends_wait_holds : (p : Runner) (r : ProcessStatus) (d : Due) → row_of s p ≡ Some r → Hold few (ends_wait s p r d).part
  ends_wait_holds p r (due_time.Release at) there = released_holds s h p r (released_at at r) code.NoError there
  ends_wait_holds p r (due_time.Delay at) there = released_holds s h p r r code.NoError there
  ends_wait_holds p r (due_time.TimeOut at) there = released_holds s h p r (timed_out r r.wait) code.TimedOut there

  treats_due_holds : (at : At) (p : Runner) (r : ProcessStatus) (o : Option Due) → row_of s p ≡ Some r → Hold few (treats_due at s p r o).part
  treats_due_holds at p r None there = h
  treats_due_holds at p r (Some d) there = either (λ v. v) (nat_le (tick_of d) at.now.0) _ _ (λ e. ends_wait_holds p r d there) (λ e. h)

  misses_hold : (free : ℕ) (action : PartitionAction) (p : ProcessIndex) (r : ProcessStatus) → row_of s (runner.Process p) ≡ Some r → Hold few (misses free action s p r).step.part
  misses_hold zero action p r there = same_holds s h (runner.Process p) r (record r { deadline = None }) there refl refl
  misses_hold (suc free) action p r there = same_holds s h (runner.Process p) r (record r { deadline = None }) there refl refl

  deadline_holds : (at : At) (free : ℕ) (action : PartitionAction) (p : ProcessIndex) → Hold few (treats_deadline at free action s p (row_of s (runner.Process p))).step.part
  deadline_holds at free action p = by_row (row_of s (runner.Process p)) refl
    where
      by_test : (r : ProcessStatus) → row_of s (runner.Process p) ≡ Some r → (b : Bool) (t : Treated) → Hold few t.step.part → Hold few (if b then misses free action s p r else t).step.part
      by_test r e true t k = misses_hold free action p r e
      by_test r e false t k = k

      by_row : (o : Option ProcessStatus) → row_of s (runner.Process p) ≡ o → Hold few (treats_deadline at free action s p o).step.part
      by_row None e = h
      by_row (Some r) e = by_test r e (is_past at.now.0 r.deadline) _ h

treats_hold : {few : Type 0} (at : At) (free : ℕ) (action : PartitionAction) (s : Processes) (p : ProcessIndex) → Hold few s → Hold few (treats at free action s p (row_of s (runner.Process p))).step.part
treats_hold {few = few} at free action s p h = by_row (row_of s (runner.Process p)) refl
  where
    by_row : (o : Option ProcessStatus) → row_of s (runner.Process p) ≡ o → Hold few (treats at free action s p o).step.part
    by_row None e = h
    by_row (Some r) e = deadline_holds (treats_due at s (runner.Process p) r r.due).part (treats_due_holds s h at (runner.Process p) r r.due e) at free action p

either_treated : {few : Type 0} (b : Bool) (s t : Treated) → Hold few s.step.part → Hold few t.step.part → Hold few (if b then s else t).step.part
either_treated true s t h k = h
either_treated false s t h k = k

pub due_from_holds : {few : Type 0} (at : At) (action : PartitionAction) (n place free : ℕ) (s : Processes) → Hold few s → Hold few (due_from at action n place free s).step.part
due_from_holds at action zero place free s h = h
due_from_holds at action (suc n) place free s h =
    let t = treats at free action s (index place) (row_of s (runner.Process (index place))) in
    let g = treats_hold at free action s (index place) h in
    either_treated (is_some t.clears) _ _ g (due_from_holds at action n (place + 1) t.free t.step.part g)

-- ---- the handler starts

pub handler_holds : {few : Type 0} (m : Mode) (b : Sharing Errors) → Hold few b.processes → Hold few (starts_handler m b).part
handler_holds {few = few} m b h = either (λ v. v) (is_normal m && is_waiting b.shared.waiting) _ _ (λ e. by_row (row_of b.processes runner.Handler) refl) (λ e. h)
  where
    by_row : (o : Option ProcessStatus) → row_of b.processes runner.Handler ≡ o → Hold few (begins_if_dormant b.processes o).part
    by_row None e = h
    by_row (Some r) e = either (λ v. v) (r.created && is_dormant r) _ _ (λ k. wakes_holds b.processes h runner.Handler r r e (λ q is. absurd (not_handler q is))) (λ k. h)

-- ---- the choice

module _ {few : Type 0} (s : Processes) (h : Hold few s) where
  preempts_holds : (p : Runner) → IsIdle s p → Hold few (preempts s p (row_of s p)).part
  preempts_holds p idle = by_row (row_of s p) refl
    where
      by_row : (o : Option ProcessStatus) → row_of s p ≡ o → Hold few (preempts s p o).part
      by_row None e = h
      by_row (Some r) e = kept s.rows p r (record r { state = Ready }) e s.queues h (λ q is. out_like r (record r { state = Ready }) (out_by_wait r (idle r e q is)) (idle r e q is))

  runs_holds : (p : Runner) → IsIdle s p → Hold few (runs s p (row_of s p)).part
  runs_holds p idle = by_row (row_of s p) refl
    where
      by_row : (o : Option ProcessStatus) → row_of s p ≡ o → Hold few (runs s p o).part
      by_row None e = h
      by_row (Some r) e = kept s.rows p r (record r { state = Running }) e s.queues h (λ q is. out_like r (record r { state = Running }) (out_by_wait r (idle r e q is)) (idle r e q is))

  leaves_hold : (o : Option Runner) → ((p : Runner) → o ≡ Some p → IsIdle s p) → Hold few (leaves_processor s o).part
  leaves_hold None idle = h
  leaves_hold (Some p) idle = preempts_holds p (idle p refl)

  takes_hold : (o : Option Runner) → ((p : Runner) → o ≡ Some p → IsIdle s p) → Hold few (takes_processor s o).part
  takes_hold None idle = h
  takes_hold (Some p) idle = runs_holds p (idle p refl)

pub chooses_holds : {few : Type 0} (m : Mode) (s : Processes) → RecordsAgree s → Hold few s → Hold few (chooses m s).part
chooses_holds m s agree h =
    let l = (leaves_processor s s.running).part in
    either (λ v. v) (are_same s.running (pick m s)) _ _ (λ e. h)
    (λ e. takes_hold l (leaves_hold s h s.running (λ p is. caller_idle s agree p (runs_ready s agree p is))) (pick m s)
    (λ p is. caller_idle l (leaves_agrees s agree s.running refl) p (picked_after s agree m p is)))
