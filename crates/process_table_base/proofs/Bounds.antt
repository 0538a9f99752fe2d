-- Records that stay bounded.
use Rattle.std.proofs.Common.{◌≡◌, ◌≤◌, ℕ, zero, suc, List, [], ◌∷◌, map, length, refl, sym, ap, subst, arith}
use Rattle.std.proofs.lemmas.List.{length-map}
use Rattle.std.specs.Prelude.{slice_set, slice_get, option_map, Option, Some, None, IfSome}
use Rattle.apex_types.specs.declared.limits.TheConstants.{LATEST_RELEASE_POINT, MOST_PROCESSES, MOST_RUNNERS, MOST_TICKS}
use Rattle.apex_types.specs.declared.codes.Mode.{Mode}
use Rattle.apex_types.specs.declared.codes.Mode.TheVariants as mode
use Rattle.apex_types.specs.declared.identity.Ticks.{Ticks}
use Rattle.apex_types.specs.declared.process.ProcessStatus.{ProcessStatus}
use Rattle.apex_types.specs.declared.process.Wait.{Wait}
use Rattle.apex_types.specs.declared.process.Wait.TheVariants as wait
use Rattle.apex_types.specs.declared.row.ProcessRow.{ProcessRow}
use Rattle.kernel_meaning.specs.PartitionServices.{forgotten, started_rows}
use Rattle.kernel_meaning.specs.Times.{later}
use Rattle.machine_meaning.specs.MachineMeaning.{machine_row}
use Rattle.kernel_meaning.specs.Fresh.{init_row, handler_row}
use Rattle.process_table_base.specs.Bounds.{AreBounded, IsBounded, AreAllBounded, IsAtMost, IsDelayed, AreShort}

pub set_bounded : (rows : List ProcessStatus) (place : ℕ) (r : ProcessStatus) → IsBounded r → AreAllBounded rows → AreAllBounded (slice_set rows place r)
set_bounded [] zero r one all = tt
set_bounded [] (suc place) r one all = tt
set_bounded (first ∷ rows) zero r one all = (one, all.1)
set_bounded (first ∷ rows) (suc place) r one all = (all.0, set_bounded rows place r one all.1)

pub bounded_at : (rows : List ProcessStatus) (place : ℕ) → AreAllBounded rows → IfSome (slice_get rows place) IsBounded
bounded_at [] place all = tt
bounded_at (r ∷ rows) zero all = all.0
bounded_at (r ∷ rows) (suc place) all = bounded_at rows place all.1

-- what holds of the record that a reference reads
pub held_at : {R : Type 0} (read : R → ProcessStatus) (o : Option R) (rows : List ProcessStatus) (place : ℕ) → option_map read o ≡ slice_get rows place → AreAllBounded rows → IfSome o (λ r. IsBounded (read r))
held_at read None rows place is all = tt
held_at read (Some r) rows place is all = subst (λ (o : Option ProcessStatus). IfSome o IsBounded) (sym is) (bounded_at rows place all)

pub forgotten_bounded : (rows : List ProcessStatus) → AreAllBounded rows → AreAllBounded (map forgotten rows)
forgotten_bounded [] all = tt
forgotten_bounded (r ∷ rows) all = (record { released = omega arith; every = all.0.every; within = all.0.within; until = tt; delayed = tt }, forgotten_bounded rows all.1)

pub started_bounded : (m : Mode) (rows : List ProcessStatus) → AreAllBounded rows → AreAllBounded (started_rows m (map forgotten rows))
started_bounded mode.Idle rows all = forgotten_bounded rows all
started_bounded mode.ColdStart [] all = tt
started_bounded mode.WarmStart [] all = tt
started_bounded mode.Normal [] all = tt
started_bounded mode.ColdStart (r ∷ rows) all = let f = forgotten_bounded (r ∷ rows) all in (f.0, f.1)
started_bounded mode.WarmStart (r ∷ rows) all = let f = forgotten_bounded (r ∷ rows) all in (f.0, f.1)
started_bounded mode.Normal (r ∷ rows) all = let f = forgotten_bounded (r ∷ rows) all in (f.0, f.1)

pub started_length : (m : Mode) (rows : List ProcessStatus) → length (started_rows m (map forgotten rows)) ≡ length rows
started_length mode.Idle rows = length-map rows forgotten
started_length mode.ColdStart [] = refl
started_length mode.WarmStart [] = refl
started_length mode.Normal [] = refl
started_length mode.ColdStart (r ∷ rows) = ap suc (length-map rows forgotten)
started_length mode.WarmStart (r ∷ rows) = ap suc (length-map rows forgotten)
started_length mode.Normal (r ∷ rows) = ap suc (length-map rows forgotten)

pub rows_bounded : (rows : List ProcessRow) → AreShort rows → AreAllBounded (map machine_row rows)
rows_bounded [] all = tt
rows_bounded (r ∷ rows) all = (all.0, rows_bounded rows all.1)

pub fresh_few : (rows : List ProcessRow) → length rows ≤ MOST_PROCESSES → length (init_row ∷ handler_row ∷ map machine_row rows) ≤ MOST_RUNNERS
fresh_few rows few = omega (arith, length-map rows machine_row, few)

pub fresh_bounded : (rows : List ProcessRow) → AreShort rows → AreAllBounded (init_row ∷ handler_row ∷ map machine_row rows)
fresh_bounded rows all =
    let none : AreBounded (record { 0 = 0 }) None None None wait.Nothing = record { released = omega arith; every = tt; within = tt; until = tt; delayed = tt } in
    (none, (none, rows_bounded rows all))

-- another wait
pub wait_bounded : {release : Ticks} {period capacity deadline : Option Ticks} {reason : Wait} (next : Wait) → IsDelayed next → AreBounded release period capacity deadline reason → AreBounded release period capacity deadline next
wait_bounded next d b = record { released = b.released; every = b.every; within = b.within; until = b.until; delayed = d }

-- another deadline
pub deadline_bounded : {release : Ticks} {period capacity deadline : Option Ticks} {reason : Wait} (next : Option Ticks) → IsAtMost LATEST_RELEASE_POINT next → AreBounded release period capacity deadline reason → AreBounded release period capacity next reason
deadline_bounded next d b = record { released = b.released; every = b.every; within = b.within; until = d; delayed = b.delayed }

-- a deadline is removed
pub without_deadline : {release : Ticks} {period capacity deadline : Option Ticks} {reason : Wait} → AreBounded release period capacity deadline reason → AreBounded release period capacity None reason
without_deadline b = record { released = b.released; every = b.every; within = b.within; until = tt; delayed = b.delayed }

later_bounded : (tick : Ticks) (capacity : Option Ticks) → tick.0 ≤ MOST_TICKS → IsAtMost MOST_TICKS capacity → IsAtMost LATEST_RELEASE_POINT (later tick capacity)
later_bounded tick None low high = tt
later_bounded tick (Some n) low high = omega (arith, low, high)

-- a release
pub release_bounded : {release tick : Ticks} {period capacity deadline : Option Ticks} {reason : Wait} → tick.0 ≤ MOST_TICKS → AreBounded release period capacity deadline reason → AreBounded tick period capacity (later tick capacity) reason
release_bounded {tick = tick} {capacity = capacity} low b = record { released = low; every = b.every; within = b.within; until = later_bounded tick capacity low b.within; delayed = b.delayed }

pub ruleset bounds = (set_bounded, bounded_at, wait_bounded, deadline_bounded, without_deadline, release_bounded)
