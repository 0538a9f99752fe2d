-- Before the next due time or deadline nothing is due.
use Rattle.std.proofs.Common.{◌≡◌, ℕ, ◌-◌, ◌<◌, ◌≤◌, nat_le, if◌then◌else◌, Bool, true, false, List, Option, Some, None, length, refl, ap, ◌∙◌, arith, subst}
use Rattle.std.proofs.lemmas.Bool.{lt-leb}
use Rattle.std.proofs.lemmas.Bool.Decides.{nat_tests}
use Rattle.apex_types.specs.declared.codes.PartitionAction.{PartitionAction}
use Rattle.apex_types.specs.declared.identity.At.{At}
use Rattle.apex_types.specs.declared.identity.Ticks.{Ticks}
use Rattle.apex_types.specs.declared.process.ProcessStatus.{ProcessStatus}
use Rattle.kernel_meaning.specs.Times.{due, without_clear}
use Rattle.kernel_meaning.specs.Processes.{Processes}
use Rattle.kernel_meaning.specs.Step.{nothing}
use Rattle.links.specs.Timers.{IsLeastTick, IsNextDue, earlier, has_come, number_of}
use Rattle.process_table_base.proofs.Treating.{skips_rest}
use Rattle.process_table_base.specs.Timed.{AreQuiet, deadlines, due_times}

-- `now` is before the tick, if there is a tick
abbrev IsBefore : ℕ → Option ℕ → Type 0
IsBefore now None = Unit {0}
IsBefore now (Some tick) = now < tick

-- before the least of these ticks, none of them has come
none_has_come : (ticks : ℕ → Option ℕ) (least : Option ℕ) (now : ℕ) → IsLeastTick ticks least → IsBefore now least → (p : ℕ) → has_come now (ticks p) ≡ false
none_has_come ticks None now h before p = ap (has_come now) (h p)
none_has_come ticks (Some tick) now h before p = by_tick (ticks p) refl
  where
    by_tick : (o : Option ℕ) → ticks p ≡ o → has_come now (ticks p) ≡ false
    by_tick None e = ap (has_come now) e
    by_tick (Some t) e =
        let least = h.1 p t e in
        ap (has_come now) e ∙ lt-leb t now (omega (arith, least, before))

before_both : (due deadline : Option ℕ) (now : ℕ) → IsBefore now (earlier due deadline) → IsBefore now due × IsBefore now deadline
before_both None deadline now h = (tt, h)
before_both (Some a) None now h = (h, tt)
before_both (Some a) (Some b) now h = by_test (nat_le a b) refl h
  where
    by_test : (t : Bool) → nat_le a b ≡ t → IsBefore now (if t then Some a else Some b) → (now < a) × (now < b)
    by_test true t first =
        let order : a ≤ b = grind (arith, nat_tests) in
        (first, omega (arith, first, order))
    by_test false t first =
        let order : b < a = grind (arith, nat_tests) in
        (omega (arith, first, order), first)

quiet_until : (rows : List ProcessStatus) (tick : Option ℕ) (now : ℕ) → IsNextDue (due_times rows) (deadlines rows) tick → IsBefore now tick → AreQuiet now rows
quiet_until rows tick now h before p =
    let both = before_both h.due h.deadline now (subst (IsBefore now) h.is before) in
    record {
      due = none_has_come (due_times rows) h.due now h.least both.0 p;
      missed = none_has_come (deadlines rows) h.deadline now h.earliest both.1 p;
    }

-- if nothing will ever be due
pub quiet_for_ever : (rows : List ProcessStatus) (now : ℕ) → IsNextDue (due_times rows) (deadlines rows) (number_of None) → AreQuiet now rows
quiet_for_ever rows now h = quiet_until rows None now h tt

pub quiet_before : (rows : List ProcessStatus) (tick : Ticks) (now : ℕ) → IsNextDue (due_times rows) (deadlines rows) (number_of (Some tick)) → now < tick.0 → AreQuiet now rows
quiet_before rows tick now h before = quiet_until rows (Some tick.0) now h before

-- The treatment of what is due changes nothing, and no Clear follows.
pub none_due : (at : At) (free : ℕ) (action : PartitionAction) (s : Processes) → AreQuiet at.now.0 s.rows → due at free action s ≡ without_clear free (nothing s)
none_due at free action s h = skips_rest at action (length s.rows - 2) 0 free s (λ q least. h q)
