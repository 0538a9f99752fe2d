-- What is told of a partition agrees with its kernel, and how lines go on from there.
use Rattle.std.proofs.Common.{◌≡◌, ◌≢◌, ℕ, Bool, true, false, List, [], ◌∷◌, ◌++◌, nat_eq, Option, Some, None, refl, sym, ap, ◌∙◌, subst}
use Rattle.std.specs.Prelude.{slice_get, slice_set, if◌then◌else◌}
use Rattle.std.proofs.lemmas.Bool.{eqb-true, eqb-false}
use Rattle.std.proofs.lemmas.Option.{same_Some}
use Rattle.apex_types.specs.Runners.{place_of}
use Rattle.apex_types.specs.declared.codes.ProcessState.TheVariants.{Running}
use Rattle.apex_types.specs.declared.codes.Mode.{Mode}
use Rattle.apex_types.specs.declared.codes.StartCondition.{StartCondition}
use Rattle.apex_types.specs.declared.codes.StartCondition.TheVariants.{PartitionRestart}
use Rattle.apex_types.specs.declared.event.Event.{Event}
use Rattle.apex_types.specs.declared.event.EventKind.{EventKind}
use Rattle.apex_types.specs.declared.event.Subject.{Subject}
use Rattle.apex_types.specs.declared.event.Subject.TheVariants.{Init}
use Rattle.apex_types.specs.declared.identity.Runner.{Runner}
use Rattle.apex_types.specs.declared.process.ProcessStatus.{ProcessStatus}
use Rattle.kernel_laws.specs.Agreement.{IsPlain}
use Rattle.kernel_laws.proofs.Places.{get_set_same, get_set_other}
use Rattle.kernel_laws.proofs.Records.{OfProcess}
use Rattle.kernel_meaning.specs.Kernel.{Kernel}
use Rattle.kernel_meaning.specs.Processes.{Processes, who_of}
use Rattle.kernel_meaning.specs.Step.{Step, after}
use Rattle.state_laws.specs.Told.{Start, Told, says, worker_by_lines, running_or, worked_in}
use Rattle.state_laws.specs.States.{who_runs}

-- ---- lines of one partition in a tick

abbrev pub reads : ℕ → Told → List EventKind → Told
reads tick t [] = t
reads tick t (k ∷ ks) = reads tick (says tick t k) ks

pub reads_both : (tick : ℕ) (t : Told) (a b : List EventKind) → reads tick t (a ++ b) ≡ reads tick (reads tick t a) b
reads_both tick t [] b = refl
reads_both tick t (k ∷ a) b = reads_both tick (says tick t k) a b

-- lines with their ticks
abbrev pub reads_all : Told → List Event → Told
reads_all t [] = t
reads_all t (l ∷ ls) = reads_all (says l.tick.0 t l.kind) ls

pub all_both : (t : Told) (a b : List Event) → reads_all t (a ++ b) ≡ reads_all (reads_all t a) b
all_both t [] b = refl
all_both t (l ∷ a) b = all_both (says l.tick.0 t l.kind) a b

-- ---- the agreement

-- a record that is RUNNING; if it is a process, it is not suspended, waits for nothing and has no due time
abbrev pub IsRunning : Runner → Option ProcessStatus → Type 0
IsRunning p None = ⊥
IsRunning p (Some r) = (r.state ≡ Running) × OfProcess p (IsPlain r)

-- each record has a subject of its own, and INIT is the first
pub record AreDistinct (rows : List ProcessStatus) : Type 0 where
  pub apart : (i j : ℕ) (r x : ProcessStatus) → slice_get rows i ≡ Some r → slice_get rows j ≡ Some x → r.who ≡ x.who → i ≡ j
  pub first : (r : ProcessStatus) → slice_get rows 0 ≡ Some r → r.who ≡ Init

-- The state told of each runner is that of its record, and the runner told to be RUNNING is the current one.
pub record AgreesOn (t : Told) (rows : List ProcessStatus) (current : Option Runner) : Type 0 where
  pub named : AreDistinct rows
  pub states : (i : ℕ) (r : ProcessStatus) → slice_get rows i ≡ Some r → t.state r.who ≡ r.state
  pub running : t.running ≡ who_runs rows current
  pub runs : (p : Runner) → current ≡ Some p → IsRunning p (slice_get rows (place_of p))

abbrev pub Agrees : Told → Processes → Type 0
Agrees t s = AgreesOn t s.rows s.running

-- and the mode and the start condition told are those of the kernel, which next restarts by itself; and each runner became RUNNING in its turn
pub record KernelAgrees (t : Told) (k : Kernel) : Type 0 where
  pub mode : t.mode ≡ k.mode
  pub condition : t.condition ≡ k.condition
  pub next : t.next ≡ PartitionRestart
  pub orderly : t.orderly ≡ true
  pub processes : Agrees t k.processes

-- ---- a step

-- what a step of processes leaves as it is told
pub record Kept : Type 0 where
  pub mode : Mode
  pub condition : StartCondition
  pub next : StartCondition
  pub starts : List Start
  pub orderly : Bool

abbrev pub kept_told : Told → Kept
kept_told t = record { mode = t.mode; condition = t.condition; next = t.next; starts = t.starts; orderly = t.orderly }

-- and in the kernel
abbrev pub kept_kernel : Kernel → Mode × StartCondition
kept_kernel k = (k.mode, k.condition)

pub agrees_after : (t v : Told) (k j : Kernel) → KernelAgrees t k → kept_told v ≡ kept_told t → kept_kernel j ≡ kept_kernel k → Agrees v j.processes → KernelAgrees v j
agrees_after t v k j h e m a = record {
  mode = ap (λ (x : Kept). x.mode) e ∙ h.mode ∙ sym (ap (λ (x : Mode × StartCondition). x.0) m);
  condition = ap (λ (x : Kept). x.condition) e ∙ h.condition ∙ sym (ap (λ (x : Mode × StartCondition). x.1) m);
  next = ap (λ (x : Kept). x.next) e ∙ h.next;
  orderly = ap (λ (x : Kept). x.orderly) e ∙ h.orderly;
  processes = a;
}

-- After a step: what is told now agrees with where the step leads, and in some respect the same is told as before.
pub record GoesTo {A : Type 0} (of : Told → A) (t v : Told) (rows : List ProcessStatus) (current : Option Runner) : Type 0 where
  pub agrees : AgreesOn v rows current
  pub mode : kept_told v ≡ kept_told t
  pub same : of v ≡ of t

-- who runs, and who worked last
abbrev pub runs_and_worked : Told → Option Subject × Option (ℕ × Subject)
runs_and_worked t = (t.running, t.worked)

abbrev pub has_worked_last : Told → Option (ℕ × Subject)
has_worked_last t = t.worked

-- so it is after a step, with its lines
pub record Goes {A : Type 0} (of : Told → A) (tick : ℕ) (t : Told) (s : Step Processes) : Type 0 where
  pub agrees : Agrees (reads tick t s.lines) s.part
  pub mode : kept_told (reads tick t s.lines) ≡ kept_told t
  pub same : of (reads tick t s.lines) ≡ of t

module _ {A : Type 0} (of : Told → A) (tick : ℕ) where
  pub goes : (t : Told) (s : Step Processes) → GoesTo of t (reads tick t s.lines) s.part.rows s.part.running → Goes of tick t s
  goes t s k = record { agrees = k.agrees; mode = k.mode; same = k.same }

  pub in_turn : (t : Told) (s u : Step Processes) → Goes of tick t s → Goes of tick (reads tick t s.lines) u → Goes of tick t (after s u)
  in_turn t s u h k =
      let e = reads_both tick t s.lines u.lines in
      record {
        agrees = subst (λ (v : Told). Agrees v u.part) (sym e) k.agrees;
        mode = ap kept_told e ∙ k.mode ∙ h.mode;
        same = ap of e ∙ k.same ∙ h.same;
      }

  pub passed : (t : Told) (b : Bool) (s u : Step Processes) → (b ≡ true → Goes of tick t s) → (b ≡ false → Goes of tick t u) → Goes of tick t (if b then s else u)
  passed t true s u h k = h refl
  passed t false s u h k = k refl

  pub either : (t : Told) (b : Bool) (s u : Step Processes) → Goes of tick t s → Goes of tick t u → Goes of tick t (if b then s else u)
  either t true s u h k = h
  either t false s u h k = k

-- a step after which the same runs and worked lets the same spend the tick
pub works : (tick : ℕ) (t : Told) (s : Step Processes) → Goes runs_and_worked tick t s → Goes (worker_by_lines tick) tick t s
works tick t s h = record { agrees = h.agrees; mode = h.mode; same = ap (λ (x : Option Subject × Option (ℕ × Subject)). running_or x.0 (worked_in tick x.1)) h.same }

pub idles : (tick : ℕ) (t : Told) (s : Step Processes) → Goes runs_and_worked tick t s → Goes has_worked_last tick t s
idles tick t s h = record { agrees = h.agrees; mode = h.mode; same = ap (λ (x : Option Subject × Option (ℕ × Subject)). x.1) h.same }

-- ---- the record at a place is replaced

module _ (rows : List ProcessStatus) (place : ℕ) (r x : ProcessStatus) (there : slice_get rows place ≡ Some r) where
  abbrev new : List ProcessStatus
  new = slice_set rows place x

  pub each : (P : ℕ → ProcessStatus → Type 0) → P place x → ((i : ℕ) (y : ProcessStatus) → place ≢ i → slice_get rows i ≡ Some y → P i y) → (i : ℕ) (y : ProcessStatus) → slice_get new i ≡ Some y → P i y
  each P own other i y e = by_test (nat_eq place i) refl
    where
      by_test : (b : Bool) → nat_eq place i ≡ b → P i y
      by_test true t =
          let is = eqb-true place i t in
          let here : slice_get new place ≡ Some y = subst (λ (j : ℕ). slice_get new j ≡ Some y) (sym is) e in
          subst (λ (j : ℕ). P j y) is (subst (P place) (same_Some x y (sym (get_set_same rows place r x there) ∙ here)) own)
      by_test false t = let n = eqb-false place i t in other i y n (sym (get_set_other rows place i x n) ∙ e)

  -- the same of the record at any place, if there is one
  pub at_each : (P : Option ProcessStatus → Type 0) (i : ℕ) → (place ≡ i → P (Some x)) → (place ≢ i → P (slice_get rows i)) → P (slice_get new i)
  at_each P i own other = by_test (nat_eq place i) refl
    where
      by_test : (b : Bool) → nat_eq place i ≡ b → P (slice_get new i)
      by_test true t = let is = eqb-true place i t in subst P (sym (subst (λ (j : ℕ). slice_get new j ≡ Some x) is (get_set_same rows place r x there))) (own is)
      by_test false t = let n = eqb-false place i t in subst P (sym (get_set_other rows place i x n)) (other n)

  module _ (who : x.who ≡ r.who) where
    -- the record that was there has the same subject
    was_at : (i : ℕ) (y : ProcessStatus) → slice_get new i ≡ Some y → (z : ProcessStatus) × ((slice_get rows i ≡ Some z) × (z.who ≡ y.who))
    was_at = each (λ i y. (z : ProcessStatus) × ((slice_get rows i ≡ Some z) × (z.who ≡ y.who))) (r, (there, sym who)) (λ i y n e. (y, (e, refl)))

    pub still_named : AreDistinct rows → AreDistinct new
    still_named h = record {
      apart = λ i j y z e f same. let a = was_at i y e in let b = was_at j z f in let c = a.1 in let d = b.1 in h.apart i j a.0 b.0 c.0 d.0 (c.1 ∙ same ∙ sym d.1);
      first = λ y e. let a = was_at 0 y e in let c = a.1 in sym c.1 ∙ h.first a.0 c.0;
    }

    who_at : (i : ℕ) → who_of (slice_get new i) ≡ who_of (slice_get rows i)
    who_at i = at_each (λ (o : Option ProcessStatus). who_of o ≡ who_of (slice_get rows i)) i (λ is. who ∙ sym (ap who_of (subst (λ (j : ℕ). slice_get rows j ≡ Some r) is there))) (λ n. refl)

    pub same_runs : (current : Option Runner) → who_runs new current ≡ who_runs rows current
    same_runs None = refl
    same_runs (Some q) = ap Some (who_at (place_of q))
