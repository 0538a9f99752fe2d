-- The timers are those of the records, after each change of these.
use Rattle.std.proofs.Common.{◌≡◌, ℕ, zero, suc, ◌<◌, nat_eq, Bool, true, false, List, [], ◌∷◌, map, refl, sym, ap, ◌∙◌, arith}
use Rattle.std.specs.Prelude.{slice_get, slice_set, Option, Some, None}
use Rattle.std.proofs.lemmas.Bool.Decides.{nat_tests}
use Rattle.apex_types.specs.Runners.{place_of}
use Rattle.apex_types.specs.declared.codes.Mode.{Mode}
use Rattle.apex_types.specs.declared.codes.Mode.TheVariants as mode
use Rattle.apex_types.specs.declared.identity.Runner.{Runner}
use Rattle.apex_types.specs.declared.identity.Runner.TheVariants as runner
use Rattle.apex_types.specs.declared.identity.Ticks.{Ticks}
use Rattle.apex_types.specs.declared.process.ProcessStatus.{ProcessStatus}
use Rattle.apex_types.specs.declared.row.ProcessRow.{ProcessRow}
use Rattle.kernel_meaning.specs.PartitionServices.{forgotten, started_rows}
use Rattle.machine_meaning.specs.MachineMeaning.{machine_row}
use Rattle.kernel_meaning.specs.Fresh.{init_row, handler_row}
use Rattle.links.specs.declared.dues.DueEntry.{DueEntry}
use Rattle.links.specs.Timers.{IsExact, number_of, tick_in, ticks_with}
use Rattle.process_table_base.specs.Timed.{AreTimed, HasTicksOf, deadline_of, due_of, record_of}
use Rattle.process_table_base.specs.declared.timers.Timers.{Timers}

-- ---- a place of a list

pub get_other : {A : Type 0} (xs : List A) (n q : ℕ) (x : A) → (q ≡ n → ⊥) → slice_get (slice_set xs n x) q ≡ slice_get xs q
get_other [] zero q x h = refl
get_other [] (suc n) q x h = refl
get_other (a ∷ xs) zero zero x h = absurd (h refl)
get_other (a ∷ xs) zero (suc q) x h = refl
get_other (a ∷ xs) (suc n) zero x h = refl
get_other (a ∷ xs) (suc n) (suc q) x h = get_other xs n q x (λ e. h (ap suc e))

get_same : {A : Type 0} (xs : List A) (n : ℕ) (x old : A) → slice_get xs n ≡ Some old → slice_get (slice_set xs n x) n ≡ Some x
get_same [] n x old h = absurd (cc)
get_same (a ∷ xs) zero x old h = refl
get_same (a ∷ xs) (suc n) x old h = get_same xs n x old h

-- ---- a process with another tick

-- if its tick is the same, nothing changes
pub unchanged : (p : ℕ) (old next : Option Ticks) (ticks : ℕ → Option ℕ) (dues : List DueEntry) → old ≡ next → ticks p ≡ number_of old → IsExact ticks dues → IsExact (ticks_with p (number_of next) ticks) dues
unchanged p old next ticks dues same is h q = by_test (nat_eq q p) refl
  where
    by_test : (b : Bool) → nat_eq q p ≡ b → tick_in q dues ≡ ticks_with p (number_of next) ticks q
    by_test true t =
        let here : q ≡ p = grind (arith, nat_tests) in
        rw t (h q ∙ (ap ticks here ∙ (is ∙ ap number_of same)))
    by_test false t = rw t (h q)

-- the ticks of the records, when one of the records is replaced
module _ (of : Option ProcessStatus → Option ℕ) (rows : List ProcessStatus) (p : ℕ) (old new : ProcessStatus) (is : record_of rows p ≡ Some old) where
  with_record : (q : ℕ) → ticks_with p (of (Some new)) (λ i. of (record_of rows i)) q ≡ of (record_of (slice_set rows (suc (suc p)) new) q)
  with_record q = by_test (nat_eq q p) refl
    where
      by_test : (b : Bool) → nat_eq q p ≡ b → ticks_with p (of (Some new)) (λ i. of (record_of rows i)) q ≡ of (record_of (slice_set rows (suc (suc p)) new) q)
      by_test true t =
          let here : suc (suc p) ≡ suc (suc q) = ap (λ i. suc (suc i)) (grind (arith, nat_tests)) in
          rw t (sym (ap of (ap (slice_get (slice_set rows (suc (suc p)) new)) (sym here) ∙ get_same rows (suc (suc p)) new old is)))
      by_test false t =
          let other : suc (suc q) ≡ suc (suc p) → ⊥ = λ e. absurd (grind (arith, nat_tests)) in
          rw t (sym (ap of (get_other rows (suc (suc p)) (suc (suc q)) new other)))

  pub exact_with : (dues : List DueEntry) → IsExact (ticks_with p (of (Some new)) (λ i. of (record_of rows i))) dues → IsExact (λ i. of (record_of (slice_set rows (suc (suc p)) new) i)) dues
  exact_with dues h q = h q ∙ with_record q

-- ---- a runner that is no process

timed_first : (rows : List ProcessStatus) (place : ℕ) (new : ProcessStatus) (t : Timers) → place < 2 → AreTimed rows t → AreTimed (slice_set rows place new) t
timed_first rows place new t lt h = record {
  dues = λ p. h.dues p ∙ sym (ap due_of (kept p));
  missed = λ p. h.missed p ∙ sym (ap deadline_of (kept p));
}
  where
    kept : (p : ℕ) → record_of (slice_set rows place new) p ≡ record_of rows p
    kept p = get_other rows place (suc (suc p)) new (λ e. omega arith)

abbrev pub IsProcess : Runner → Type 0
IsProcess (runner.Process p) = Unit {0}
IsProcess _ = ⊥

-- INIT and the handler have no timers
pub timed_same : (rows : List ProcessStatus) (who : Runner) (new : ProcessStatus) (t : Timers) → (IsProcess who → ⊥) → AreTimed rows t → AreTimed (slice_set rows (place_of who) new) t
timed_same rows runner.Init new t other h = timed_first rows 0 new t (omega arith) h
timed_same rows runner.Handler new t other h = timed_first rows 1 new t (omega arith) h
timed_same rows (runner.Process p) new t other h = absurd (other tt)

-- the ticks of the record that is replaced
pub has_ticks : (rows : List ProcessStatus) (who : Runner) (old : ProcessStatus) (t : Timers) → slice_get rows (place_of who) ≡ Some old → AreTimed rows t → HasTicksOf who old t
has_ticks rows runner.Init old t is h = tt
has_ticks rows runner.Handler old t is h = tt
has_ticks rows (runner.Process p) old t is h = (h.dues p.0 ∙ ap due_of is, h.missed p.0 ∙ ap deadline_of is)

-- ---- nothing is due

abbrev pub HaveNothingDue : List ProcessStatus → Type 0
HaveNothingDue [] = Unit {0}
HaveNothingDue (r ∷ rows) = (r.due ≡ None) × (r.deadline ≡ None) × HaveNothingDue rows

no_due : (rows : List ProcessStatus) (place : ℕ) → HaveNothingDue rows → due_of (slice_get rows place) ≡ None
no_due [] place h = refl
no_due (r ∷ rows) zero h = rw h.0 refl
no_due (r ∷ rows) (suc place) h = no_due rows place h.2

no_deadline : (rows : List ProcessStatus) (place : ℕ) → HaveNothingDue rows → deadline_of (slice_get rows place) ≡ None
no_deadline [] place h = refl
no_deadline (r ∷ rows) zero h = rw h.1 refl
no_deadline (r ∷ rows) (suc place) h = no_deadline rows place h.2

timed_nothing : (rows : List ProcessStatus) (t : Timers) → HaveNothingDue rows → t.dues ≡ [] → t.deadlines ≡ [] → AreTimed rows t
timed_nothing rows t h none empty = record {
  dues = λ p. rw none (sym (no_due rows (suc (suc p)) h));
  missed = λ p. rw empty (sym (no_deadline rows (suc (suc p)) h));
}

forgotten_nothing : (rows : List ProcessStatus) → HaveNothingDue (map forgotten rows)
forgotten_nothing [] = tt
forgotten_nothing (r ∷ rows) = (refl, refl, forgotten_nothing rows)

started_nothing : (m : Mode) (rows : List ProcessStatus) → HaveNothingDue (started_rows m (map forgotten rows))
started_nothing mode.Idle rows = forgotten_nothing rows
started_nothing mode.ColdStart [] = tt
started_nothing mode.WarmStart [] = tt
started_nothing mode.Normal [] = tt
started_nothing mode.ColdStart (r ∷ rows) = (refl, refl, forgotten_nothing rows)
started_nothing mode.WarmStart (r ∷ rows) = (refl, refl, forgotten_nothing rows)
started_nothing mode.Normal (r ∷ rows) = (refl, refl, forgotten_nothing rows)

rows_nothing : (rows : List ProcessRow) → HaveNothingDue (map machine_row rows)
rows_nothing [] = tt
rows_nothing (r ∷ rows) = (refl, refl, rows_nothing rows)

-- after a Clear
pub timed_started : (m : Mode) (rows : List ProcessStatus) (t : Timers) → t.dues ≡ [] → t.deadlines ≡ [] → AreTimed (started_rows m (map forgotten rows)) t
timed_started m rows t none empty = timed_nothing (started_rows m (map forgotten rows)) t (started_nothing m rows) none empty

-- before any process is created
pub timed_fresh : (rows : List ProcessRow) (t : Timers) → t.dues ≡ [] → t.deadlines ≡ [] → AreTimed (init_row ∷ handler_row ∷ map machine_row rows) t
timed_fresh rows t none empty = timed_nothing (init_row ∷ handler_row ∷ map machine_row rows) t (refl, refl, (refl, refl, rows_nothing rows)) none empty
