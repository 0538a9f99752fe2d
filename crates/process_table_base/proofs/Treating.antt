-- A process for which nothing is due may be passed over, and the treatment of a process leaves the
-- records of all others.
use Rattle.std.proofs.Common.{◌≡◌, ◌⊎◌, inl, inr, ℕ, zero, suc, ◌+◌, ◌-◌, ◌*◌, ◌<◌, ◌≤◌, ◌++◌, cond, length, subst, Bool, true, false, List, Option, Some, None, slice_set, refl, sym, ap, ◌∙◌, arith}
use Rattle.std.specs.Prelude.{if◌then◌else◌, nat_le}
use Rattle.std.specs.Int.{bit_at}
use Rattle.std.proofs.lemmas.Bool.{cases_eq, cases_lt}
use Rattle.std.proofs.lemmas.List.{append-nil}
use Rattle.std.proofs.lemmas.Nat.Bits.{bit_at-zero}
use Rattle.std.proofs.lemmas.Option.{slice_get_within}
use Rattle.apex_types.specs.declared.codes.PartitionAction.{PartitionAction}
use Rattle.apex_types.specs.declared.codes.ReturnCode.{ReturnCode}
use Rattle.apex_types.specs.declared.codes.ReturnCode.TheVariants as code
use Rattle.apex_types.specs.declared.identity.At.{At}
use Rattle.apex_types.specs.declared.identity.ProcessIndex.{ProcessIndex}
use Rattle.apex_types.specs.declared.identity.Runner.{Runner}
use Rattle.apex_types.specs.declared.identity.Runner.TheVariants as runner
use Rattle.apex_types.specs.declared.identity.Ticks.{Ticks}
use Rattle.apex_types.specs.Output.{Output}
use Rattle.apex_types.specs.declared.process.Due.{Due}
use Rattle.apex_types.specs.declared.process.Due.TheVariants as due_time
use Rattle.apex_types.specs.declared.process.ProcessStatus.{ProcessStatus}
use Rattle.apex_types.specs.declared.limits.TheConstants.{MOST_PROCESSES}
use Rattle.kernel_meaning.specs.Times.{Treated, due_from, ends_wait, without_clear, is_past, misses, then_others, tick_of, timed_out, treated_after, treats, treats_deadline, treats_due}
use Rattle.kernel_meaning.specs.Processes.{Processes, index, no_longer_waits, released, row_of, wakes}
use Rattle.kernel_meaning.specs.Times.{released_at}
use Rattle.kernel_meaning.specs.Step.{Step, nothing}
use Rattle.links.specs.Timers.{IsDueMask, has_come, number_of}
use Rattle.process_table_base.proofs.Timed.{get_other}
use Rattle.process_table_base.specs.DueMask.{IsFirstOf}
use Rattle.process_table_base.specs.Timed.{IsQuiet, deadline_of, deadlines, due_of, due_tick, due_times, record_of}

-- ---- a process for which nothing is due

quiet_due : (at : At) (s : Processes) (p : Runner) (r : ProcessStatus) (o : Option Due) → has_come at.now.0 (due_tick o) ≡ false → treats_due at s p r o ≡ nothing s
quiet_due at s p r None h = refl
quiet_due at s p r (Some o) h = ap (λ b. if b then ends_wait s p r o else nothing s) h

not_past : (now : ℕ) (tick : Option Ticks) → has_come now (number_of tick) ≡ false → is_past now tick ≡ false
not_past now None h = refl
not_past now (Some tick) h = h

quiet_deadline : (at : At) (free : ℕ) (action : PartitionAction) (s : Processes) (p : ProcessIndex) (r : ProcessStatus) → is_past at.now.0 r.deadline ≡ false → treats_deadline at free action s p (Some r) ≡ without_clear free (nothing s)
quiet_deadline at free action s p r h = ap (λ b. if b then misses free action s p r else without_clear free (nothing s)) h

quiet_treats : (at : At) (free : ℕ) (action : PartitionAction) (s : Processes) (p : ProcessIndex) (o : Option ProcessStatus) → row_of s (runner.Process p) ≡ o → IsQuiet at.now.0 o → treats at free action s p o ≡ without_clear free (nothing s)
quiet_treats at free action s p None e q = refl
quiet_treats at free action s p (Some r) e q =
    ap (λ (d : Step Processes). treated_after d (treats_deadline at free action d.part p (row_of d.part (runner.Process p)))) (quiet_due at s (runner.Process p) r r.due q.due) ∙ (ap (λ o. treated_after (nothing s) (treats_deadline at free action s p o)) e ∙ ap (treated_after (nothing s)) (quiet_deadline at free action s p r (not_past at.now.0 r.deadline q.missed)))

-- it is passed over
skips_one : (at : At) (action : PartitionAction) (n place free : ℕ) (s : Processes) → IsQuiet at.now.0 (record_of s.rows place) → due_from at action (suc n) place free s ≡ due_from at action n (place + 1) free s
skips_one at action n place free s h =
    ap (λ (t : Treated). then_others t (due_from at action n (place + 1) t.free t.step.part)) (quiet_treats at free action s (index place) (row_of s (runner.Process (index place))) refl h)

-- All processes before the next one for which something is due may be passed over.
pub skips : (at : At) (action : PartitionAction) (k n place free : ℕ) (s : Processes) → ((q : ℕ) → place ≤ q → q < place + k → IsQuiet at.now.0 (record_of s.rows q)) → due_from at action (k + n) place free s ≡ due_from at action n (place + k) free s
skips at action zero n place free s h =
    let one : 0 + n ≡ n = omega arith in
    let other : place + 0 ≡ place = omega arith in
    ap (λ m. due_from at action m place free s) one ∙ ap (λ q. due_from at action n q free s) (sym other)
skips at action (suc k) n place free s h =
    let one : suc k + n ≡ suc (k + n) = omega arith in
    let other : (place + 1) + k ≡ place + suc k = omega arith in
    ap (λ m. due_from at action m place free s) one ∙ (skips_one at action (k + n) place free s (h place (omega arith) (omega arith)) ∙ (skips at action k n (place + 1) free s (λ q least most. h q (omega (arith, least)) (omega (arith, most))) ∙ ap (λ q. due_from at action n q free s) other))

-- If nothing more is due, the treatment ends.
pub skips_rest : (at : At) (action : PartitionAction) (n place free : ℕ) (s : Processes) → ((q : ℕ) → place ≤ q → IsQuiet at.now.0 (record_of s.rows q)) → due_from at action n place free s ≡ without_clear free (nothing s)
skips_rest at action zero place free s h = refl
skips_rest at action (suc n) place free s h = skips_one at action n place free s (h place (omega arith)) ∙ skips_rest at action n (place + 1) free s (λ q least. h q (omega (arith, least)))

-- ---- the records of the others

module _ (p : ProcessIndex) (q : ℕ) (other : suc (suc q) ≡ suc (suc p.0) → ⊥) where
  -- the record of q is the same
  abbrev Same : Processes → Step Processes → Type 0
  Same s t = record_of t.part.rows q ≡ record_of s.rows q

  either_same : (s : Processes) (b : Bool) (t u : Step Processes) → Same s t → Same s u → Same s (if b then t else u)
  either_same s true t u h k = h
  either_same s false t u h k = k

  put_same : (s : Processes) (r : ProcessStatus) → record_of (slice_set s.rows (suc (suc p.0)) r) q ≡ record_of s.rows q
  put_same s r = get_other s.rows (suc (suc p.0)) (suc (suc q)) r other

  wakes_same : (s : Processes) (r : ProcessStatus) → Same s (wakes s (runner.Process p) r)
  wakes_same s r = either_same s r.suspended _ _ (put_same s _) (put_same s _)

  released_same : (s : Processes) (r : ProcessStatus) (c : ReturnCode) → Same s (released s (runner.Process p) r c)
  released_same s r c = wakes_same (no_longer_waits s (runner.Process p)) r

  ends_same : (s : Processes) (r : ProcessStatus) (o : Due) → Same s (ends_wait s (runner.Process p) r o)
  ends_same s r (due_time.Release tick) = released_same s (released_at tick r) code.NoError
  ends_same s r (due_time.Delay tick) = released_same s r code.NoError
  ends_same s r (due_time.TimeOut tick) = released_same s (timed_out r r.wait) code.TimedOut

  due_same : (at : At) (s : Processes) (r : ProcessStatus) (o : Option Due) → Same s (treats_due at s (runner.Process p) r o)
  due_same at s r None = refl
  due_same at s r (Some o) = either_same s (nat_le (tick_of o) at.now.0) _ _ (ends_same s r o) refl

  misses_same : (free : ℕ) (action : PartitionAction) (s : Processes) (r : ProcessStatus) → Same s (misses free action s p r).step
  misses_same zero action s r = put_same s _
  misses_same (suc free) action s r = put_same s _

  deadline_same : (at : At) (free : ℕ) (action : PartitionAction) (s : Processes) (o : Option ProcessStatus) → Same s (treats_deadline at free action s p o).step
  deadline_same at free action s None = refl
  deadline_same at free action s (Some r) = by_test (is_past at.now.0 r.deadline)
    where
      by_test : (b : Bool) → Same s (if b then misses free action s p r else without_clear free (nothing s)).step
      by_test true = misses_same free action s r
      by_test false = refl

  pub treats_same : (at : At) (free : ℕ) (action : PartitionAction) (s : Processes) (o : Option ProcessStatus) → Same s (treats at free action s p o).step
  treats_same at free action s None = refl
  treats_same at free action s (Some r) =
      let d = treats_due at s (runner.Process p) r r.due in
      deadline_same at free action d.part (row_of d.part (runner.Process p)) ∙ due_same at s r r.due

-- ---- the bits of the processes for which something is due

pub clash : (b : ℕ) → b ≡ 0 → b ≡ 1 → ⊥
clash b none one = absurd (omega (arith, none, one))

-- nothing is due for a process without a bit
pub no_bit_is_quiet : (now mask : ℕ) (rows : List ProcessStatus) → IsDueMask now (due_times rows) (deadlines rows) mask → (q : ℕ) → bit_at mask q ≡ 0 → IsQuiet now (record_of rows q)
no_bit_is_quiet now mask rows h q none = by_tests (has_come now (due_times rows q)) (has_come now (deadlines rows q)) refl refl (sym (h q) ∙ none)
  where
    by_tests : (a b : Bool) → has_come now (due_times rows q) ≡ a → has_come now (deadlines rows q) ≡ b → ◌≡◌ {A = ℕ} (cond (has_come now (due_times rows q)) 1 (cond (has_come now (deadlines rows q)) 1 0)) 0 → IsQuiet now (record_of rows q)
    by_tests true b e f g = absurd (clash 1 (rw e at g) refl)
    by_tests false true e f g = absurd (clash 1 (rw (e, f) at g) refl)
    by_tests false false e f g = record { due = e; missed = f }

-- a process with a bit has a record
pub bit_is_of_a_record : (now mask : ℕ) (rows : List ProcessStatus) → IsDueMask now (due_times rows) (deadlines rows) mask → (q : ℕ) → bit_at mask q ≡ 1 → suc (suc q) < length rows
bit_is_of_a_record now mask rows h q one = by_row (record_of rows q) refl (sym (h q) ∙ one)
  where
    by_row : (o : Option ProcessStatus) → record_of rows q ≡ o → ◌≡◌ {A = ℕ} (cond (has_come now (due_of (record_of rows q))) 1 (cond (has_come now (deadline_of (record_of rows q))) 1 0)) 1 → suc (suc q) < length rows
    by_row None e g = absurd (clash 0 refl (rw e at g))
    by_row (Some r) e g = slice_get_within rows (suc (suc q)) r e

-- The remaining treatment, while the processes with a bit are treated in turn: `count` processes
-- from `place` on. All processes with a bit are among them; for a process without a bit nothing is
-- due.
pub record IsLeft (now mask : ℕ) (rows : List ProcessStatus) (place count : ℕ) : Type 0 where
  pub below : (q : ℕ) → q < place → bit_at mask q ≡ 0
  pub within : (q : ℕ) → bit_at mask q ≡ 1 → q < place + count
  pub quiet : (q : ℕ) → place ≤ q → bit_at mask q ≡ 0 → IsQuiet now (record_of rows q)

pub left_at_first : (now mask : ℕ) (rows : List ProcessStatus) → IsDueMask now (due_times rows) (deadlines rows) mask → IsLeft now mask rows 0 (length rows - 2)
left_at_first now mask rows h = record {
  below = λ q lt. absurd (omega (arith, lt));
  within = λ q one. let there = bit_is_of_a_record now mask rows h q one in omega (arith, there);
  quiet = λ q from none. no_bit_is_quiet now mask rows h q none;
}

module _ (at : At) (action : PartitionAction) (mask place count free p rest : ℕ) (s : Processes) (h : IsLeft at.now.0 mask s.rows place count) (f : IsFirstOf mask p rest) where
  -- the first process with a bit is p, which is among those that remain
  pub first_is_left : place ≤ p
  first_is_left = by_order (cases_lt p place)
    where
      by_order : (p < place) ⊎ (place ≤ p) → place ≤ p
      by_order (inl lt) = absurd (clash (bit_at mask p) (h.below p lt) f.set)
      by_order (inr le) = le

  -- all before it may be passed over
  pub first_left : due_from at action count place free s ≡ due_from at action (place + count - p) p free s
  first_left =
      let from = first_is_left in
      let upto = h.within p f.set in
      let k = p - place in
      let whole : count ≡ k + (place + count - p) = omega (arith, from, upto) in
      let there : place + k ≡ p = omega (arith, from) in
      ap (λ m. due_from at action m place free s) whole
      ∙ skips at action k (place + count - p) place free s (λ q least most. h.quiet q least (f.lower q (omega (arith, there, most))))
      ∙ ap (λ q. due_from at action (place + count - p) q free s) there

  -- once it is treated, the rest remains
  pub next_left : IsLeft at.now.0 rest (treats at free action s (index p) (row_of s (runner.Process (index p)))).step.part.rows (p + 1) (place + count - p - 1)
  next_left = record {
    below = λ q lt. below q lt (cases_eq q p);
    within = λ q set. within q set (cases_eq q p);
    quiet = λ q from none. quiet q from none;
  }
    where
      below : (q : ℕ) → q < p + 1 → (q ≡ p) ⊎ (q ≡ p → ⊥) → bit_at rest q ≡ 0
      below q lt (inl here) = ap (bit_at rest) here ∙ f.gone
      below q lt (inr other) = f.others q other ∙ f.lower q (omega (arith, lt, other))

      within : (q : ℕ) → bit_at rest q ≡ 1 → (q ≡ p) ⊎ (q ≡ p → ⊥) → q < (p + 1) + (place + count - p - 1)
      within q set (inl here) = absurd (clash (bit_at rest q) (ap (bit_at rest) here ∙ f.gone) set)
      within q set (inr other) =
          let there = h.within q (sym (f.others q other) ∙ set) in
          let here = h.within p f.set in
          omega (arith, there, here)

      quiet : (q : ℕ) → p + 1 ≤ q → bit_at rest q ≡ 0 → IsQuiet at.now.0 (record_of (treats at free action s (index p) (row_of s (runner.Process (index p)))).step.part.rows q)
      quiet q from none =
          let other : q ≡ p → ⊥ = λ e. omega (arith, e, from) in
          let apart : suc (suc q) ≡ suc (suc p) → ⊥ = λ e. omega (arith, e, from) in
          let start = first_is_left in
          let least : place ≤ q = omega (arith, from, start) in
          subst (λ (o : Option ProcessStatus). IsQuiet at.now.0 o) (sym (treats_same (index p) q apart at free action s (row_of s (runner.Process (index p))))) (h.quiet q least (sym (f.others q other) ∙ none))

-- no process has a bit: the treatment ends
pub none_left : (at : At) (action : PartitionAction) (place count free : ℕ) (s : Processes) → IsLeft at.now.0 0 s.rows place count → due_from at action count place free s ≡ without_clear free (nothing s)
none_left at action place count free s h = skips_rest at action count place free s (λ q from. h.quiet q from (bit_at-zero q))

-- ---- the treatment under way

-- After some processes were treated: what was written, followed by the rest from `place` on, gives the
-- whole.
pub record IsUnderWay (at : At) (action : PartitionAction) (mask free : ℕ) (s : Processes) (out first : Output) (whole : Treated) : Type 0 where
  pub place : ℕ
  pub count : ℕ
  pub is_left : IsLeft at.now.0 mask s.rows place count
  pub few : place + count ≤ MOST_PROCESSES
  pub part : (due_from at action count place free s).step.part ≡ whole.step.part
  pub lines : out.lines ++ (due_from at action count place free s).step.lines ≡ first.lines ++ whole.step.lines
  pub actions : out.actions ++ (due_from at action count place free s).step.actions ≡ first.actions ++ whole.step.actions
  pub free_left : (due_from at action count place free s).free ≡ whole.free
  pub clears : (due_from at action count place free s).clears ≡ whole.clears
  pub lines_room : length out.lines ≤ length first.lines + 3 * place
  pub actions_room : length out.actions ≤ length first.actions + 2 * place

-- When no process has a bit any longer, what was written is the whole.
pub ended : (at : At) (action : PartitionAction) (mask free : ℕ) (s : Processes) (out first : Output) (whole : Treated) → mask ≡ 0 → IsUnderWay at action mask free s out first whole →
    ((s ≡ whole.step.part) × (out.lines ≡ first.lines ++ whole.step.lines) × (out.actions ≡ first.actions ++ whole.step.actions)) × (free ≡ whole.free) × (None ≡ whole.clears)
ended at action mask free s out first whole none w =
    let e = none_left at action w.place w.count free s (subst (λ (m : ℕ). IsLeft at.now.0 m s.rows w.place w.count) none w.is_left) in (
      (
        sym (ap (λ (t : Treated). t.step.part) e) ∙ w.part,
        sym (append-nil out.lines) ∙ sym (ap (λ (t : Treated). out.lines ++ t.step.lines) e) ∙ w.lines,
        sym (append-nil out.actions) ∙ sym (ap (λ (t : Treated). out.actions ++ t.step.actions) e) ∙ w.actions,
      ),
      sym (ap (λ (t : Treated). t.free) e) ∙ w.free_left,
      sym (ap (λ (t : Treated). t.clears) e) ∙ w.clears,
    )
