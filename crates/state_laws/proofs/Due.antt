-- The lines of what is due agree with it, and nobody has worked by them.
use Rattle.std.proofs.Common.{◌≡◌, ℕ, zero, suc, Bool, true, false, [], Option, Some, None, refl, sym, ap, ◌∙◌}
use Rattle.std.specs.Prelude.{◌+◌, if◌then◌else◌, nat_le, slice_set}
use Rattle.std.proofs.lemmas.Option.{none-some}
use Rattle.apex_types.specs.declared.codes.ErrorKind.TheVariants.{DeadlineMissed}
use Rattle.apex_types.specs.declared.codes.Mode.{Mode}
use Rattle.apex_types.specs.declared.codes.PartitionAction.{PartitionAction}
use Rattle.apex_types.specs.declared.codes.PartitionAction.TheVariants as action
use Rattle.apex_types.specs.declared.codes.StartCondition.{StartCondition}
use Rattle.apex_types.specs.declared.codes.StartCondition.TheVariants as condition
use Rattle.apex_types.specs.declared.event.Subject.{Subject}
use Rattle.apex_types.specs.declared.identity.At.{At}
use Rattle.apex_types.specs.declared.identity.ProcessIndex.{ProcessIndex}
use Rattle.apex_types.specs.declared.identity.Runner.{Runner}
use Rattle.apex_types.specs.declared.identity.Runner.TheVariants as runner
use Rattle.apex_types.specs.declared.process.Due.{Due}
use Rattle.apex_types.specs.declared.process.Due.TheVariants as due_time
use Rattle.apex_types.specs.declared.process.ProcessStatus.{ProcessStatus}
use Rattle.apex_types.specs.declared.process.Wait.{Wait}
use Rattle.apex_types.specs.declared.process.Wait.TheVariants as wait
use Rattle.apex_types.specs.declared.service.Service.TheVariants as service
use Rattle.kernel_meaning.specs.HealthServices.{action_of, free_places}
use Rattle.kernel_meaning.specs.Kernel.{Kernel, with_errors}
use Rattle.kernel_meaning.specs.Partition.{treats_due}
use Rattle.kernel_meaning.specs.Processes.{Processes, row_of, index, is_normal, zeros_of_wait}
use Rattle.kernel_meaning.specs.Step.{Step, after}
use Rattle.kernel_meaning.specs.Times as times
use Rattle.kernel_meaning.specs.Times.{Treated, without_clear, treated_after, then_others, ends_wait, tick_of, timed_out, released_at, misses, is_past, treats_deadline, treats, due_from, mode_of_action}
use Rattle.state_laws.specs.Told.{Told}
use Rattle.state_laws.proofs.Agreement.{Kept, reads, reads_both, AreDistinct, AgreesOn, Agrees, Goes, runs_and_worked, in_turn, either}
use Rattle.state_laws.proofs.Changes.{IsNotRunning, here, kept, out_if, released_with_goes}
use Rattle.state_laws.proofs.Services.{still_running, runs_without_due}
use Rattle.state_laws.proofs.Starting.{last_both, last_said}
use Rattle.apex_types.specs.Runners.{place_of}

-- A step before a Clear: nobody is told to run any more, and nobody has worked. Its last line gives the condition of the Clear.
pub record Ends (tick : ℕ) (t : Told) (s : Step Processes) (m : Mode) : Type 0 where
  pub named : AreDistinct s.part.rows
  pub none : (reads tick t s.lines).running ≡ None
  pub worked : (reads tick t s.lines).worked ≡ t.worked
  pub orderly : (reads tick t s.lines).orderly ≡ t.orderly
  pub next : (reads tick t s.lines).next ≡ condition.HmPartitionRestart
  pub starts : (reads tick t s.lines).starts ≡ t.starts
  pub last : (x : Option StartCondition) → last_said x s.lines ≡ Some condition.HmPartitionRestart
  pub other : is_normal m ≡ false

-- by the mode of the Clear that the step leads to
abbrev pub ByClear : ℕ → Told → Step Processes → Option Mode → Type 0
ByClear tick t s None = Goes runs_and_worked tick t s
ByClear tick t s (Some m) = Ends tick t s m

abbrev pub DueGoes : ℕ → Told → Treated → Type 0
DueGoes tick t d = ByClear tick t d.step d.clears

module _ (tick : ℕ) where
  after_by : (t : Told) (s u : Step Processes) (o : Option Mode) → Goes runs_and_worked tick t s → ByClear tick (reads tick t s.lines) u o → ByClear tick t (after s u) o
  after_by t s u None h k = in_turn runs_and_worked tick t s u h k
  after_by t s u (Some m) h k =
      let e = reads_both tick t s.lines u.lines in
      record {
        named = k.named;
        none = ap (λ (v : Told). v.running) e ∙ k.none;
        worked = ap (λ (v : Told). v.worked) e ∙ k.worked ∙ ap (λ (x : Option Subject × Option (ℕ × Subject)). x.1) h.same;
        orderly = ap (λ (v : Told). v.orderly) e ∙ k.orderly ∙ ap (λ (x : Kept). x.orderly) h.mode;
        next = ap (λ (v : Told). v.next) e ∙ k.next;
        starts = ap (λ (v : Told). v.starts) e ∙ k.starts ∙ ap (λ (x : Kept). x.starts) h.mode;
        last = λ x. last_both x s.lines u.lines ∙ k.last (last_said x s.lines);
        other = k.other;
      }

  others_by : (t : Told) (s : Step Processes) (free : ℕ) (o : Option Mode) (others : Treated) → ByClear tick t s o → (Goes runs_and_worked tick t s → DueGoes tick (reads tick t s.lines) others)
      → DueGoes tick t (then_others (record { step = s; free = free; clears = o }) others)
  others_by t s free None others h k = after_by t s others.step others.clears h (k h)
  others_by t s free (Some m) others h k = h

  either_due : (t : Told) (b : Bool) (d e : Treated) → DueGoes tick t d → DueGoes tick t e → DueGoes tick t (if b then d else e)
  either_due t true d e h k = h
  either_due t false d e h k = k

  module _ (t : Told) (s : Processes) (h : Agrees t s) where
    -- ---- due times

    timed_who : (r : ProcessStatus) (w : Wait) → (timed_out r w).who ≡ r.who
    timed_who r (wait.Service service.SuspendSelf) = refl
    timed_who r _ = refl

    timed_state : (r : ProcessStatus) (w : Wait) → (timed_out r w).state ≡ r.state
    timed_state r (wait.Service service.SuspendSelf) = refl
    timed_state r _ = refl

    ends_goes : (p : Runner) (r : ProcessStatus) (d : Due) → row_of s p ≡ Some r → IsNotRunning s p → Goes runs_and_worked tick t (ends_wait s p r d)
    ends_goes p r (due_time.Release at) there out = released_with_goes tick t s h p r (released_at at r) _ (zeros_of_wait r.wait) there refl refl out
    ends_goes p r (due_time.Delay at) there out = released_with_goes tick t s h p r r _ (zeros_of_wait r.wait) there refl refl out
    ends_goes p r (due_time.TimeOut at) there out =
        released_with_goes tick t s h p r (timed_out r r.wait) _ (zeros_of_wait (timed_out r r.wait).wait) there (timed_who r r.wait) (timed_state r r.wait) out

    due_goes : (at : At) (i : ProcessIndex) (r : ProcessStatus) (o : Option Due) → row_of s (runner.Process i) ≡ Some r → r.due ≡ o → Goes runs_and_worked tick t (times.treats_due at s (runner.Process i) r o)
    due_goes at i r None there e = here tick t s h runs_and_worked []
    due_goes at i r (Some d) there e =
        either runs_and_worked tick t (nat_le (tick_of d) at.now.0) _ _
        (ends_goes (runner.Process i) r d there (out_if tick t s h (runner.Process i) r there (λ k. none-some d (sym (runs_without_due i r k) ∙ e))))
        (here tick t s h runs_and_worked [])

    -- ---- a missed deadline

    missed : (i : ProcessIndex) (r : ProcessStatus) → row_of s (runner.Process i) ≡ Some r → AgreesOn t (slice_set s.rows (place_of (runner.Process i)) (record r { deadline = None })) s.running
    missed i r there = kept tick t s h (runner.Process i) r (record r { deadline = None }) there refl refl (still_running (runner.Process i) r (record r { deadline = None }) refl refl refl refl)

    misses_go : (free : ℕ) (a : PartitionAction) (i : ProcessIndex) (r : ProcessStatus) → row_of s (runner.Process i) ≡ Some r → DueGoes tick t (misses free a s i r)
    misses_go (suc free) a i r there = record { agrees = missed i r there; mode = refl; same = refl }
    misses_go zero action.Ignore i r there = record { agrees = missed i r there; mode = refl; same = refl }
    misses_go zero action.Idle i r there = let k = missed i r there in record { named = k.named; none = refl; worked = refl; orderly = refl; next = refl; starts = refl; last = λ x. refl; other = refl }
    misses_go zero action.WarmStart i r there = let k = missed i r there in record { named = k.named; none = refl; worked = refl; orderly = refl; next = refl; starts = refl; last = λ x. refl; other = refl }
    misses_go zero action.ColdStart i r there = let k = missed i r there in record { named = k.named; none = refl; worked = refl; orderly = refl; next = refl; starts = refl; last = λ x. refl; other = refl }

    deadline_goes : (at : At) (free : ℕ) (a : PartitionAction) (i : ProcessIndex) → DueGoes tick t (treats_deadline at free a s i (row_of s (runner.Process i)))
    deadline_goes at free a i = by_row (row_of s (runner.Process i)) refl
      where
        by_row : (o : Option ProcessStatus) → row_of s (runner.Process i) ≡ o → DueGoes tick t (treats_deadline at free a s i o)
        by_row None e = here tick t s h runs_and_worked []
        by_row (Some r) e = either_due t (is_past at.now.0 r.deadline) _ _ (misses_go free a i r e) (here tick t s h runs_and_worked [])

  -- ---- each process

  treats_go : (at : At) (free : ℕ) (a : PartitionAction) (t : Told) (s : Processes) (i : ProcessIndex) → Agrees t s → DueGoes tick t (treats at free a s i (row_of s (runner.Process i)))
  treats_go at free a t s i h = by_row (row_of s (runner.Process i)) refl
    where
      by_row : (o : Option ProcessStatus) → row_of s (runner.Process i) ≡ o → DueGoes tick t (treats at free a s i o)
      by_row None e = here tick t s h runs_and_worked []
      by_row (Some r) e =
          let d = times.treats_due at s (runner.Process i) r r.due in
          let k = due_goes t s h at i r r.due e refl in
          let rest = treats_deadline at free a d.part i (row_of d.part (runner.Process i)) in
          after_by t d rest.step rest.clears k (deadline_goes (reads tick t d.lines) d.part k.agrees at free a i)

  due_from_goes : (at : At) (a : PartitionAction) (n place free : ℕ) (t : Told) (s : Processes) → Agrees t s → DueGoes tick t (due_from at a n place free s)
  due_from_goes at a zero place free t s h = here tick t s h runs_and_worked []
  due_from_goes at a (suc n) place free t s h =
      let d = treats at free a s (index place) (row_of s (runner.Process (index place))) in
      let k = treats_go at free a t s (index place) h in
      others_by t d.step d.free d.clears (due_from at a n (place + 1) d.free d.step.part) k (λ g. due_from_goes at a n (place + 1) d.free (reads tick t d.step.lines) d.step.part g.agrees)

pub treats_due_goes : (tick : ℕ) (at : At) (t : Told) (k : Kernel) → Agrees t k.processes → DueGoes tick t (treats_due at k)
treats_due_goes tick at t k h = due_from_goes tick at (action_of k.fixed.health DeadlineMissed) _ 0 (free_places k.mode (with_errors k)) t k.processes h
