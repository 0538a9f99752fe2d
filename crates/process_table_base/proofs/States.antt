-- Another state changes no bound and no timer.
use Rattle.std.proofs.Common.{◌≡◌, ℕ, zero, suc, List, [], ◌∷◌, length, refl, sym, ap, ◌∙◌, length-set}
use Rattle.std.specs.Prelude.{slice_get, slice_set, Option, Some, None}
use Rattle.apex_types.specs.declared.codes.ProcessState.{ProcessState}
use Rattle.apex_types.specs.declared.process.ProcessStatus.{ProcessStatus}
use Rattle.process_table_base.specs.Bounds.{AreAllBounded, IsBounded}
use Rattle.process_table_base.specs.States.{put_state}
use Rattle.process_table_base.specs.Timed.{AreTimed, deadline_of, due_of}
use Rattle.process_table_base.specs.declared.timers.Timers.{Timers}
use Rattle.process_table_base.proofs.Bounds.{bounded_at, set_bounded}

pub state_length : (state : ProcessState) (place : ℕ) (o : Option ProcessStatus) (rows : List ProcessStatus) → length (put_state state place o rows) ≡ length rows
state_length state place None rows = refl
state_length state place (Some row) rows = rw length-set refl

pub state_bounded : (state : ProcessState) (place : ℕ) (o : Option ProcessStatus) (rows : List ProcessStatus) → slice_get rows place ≡ o → AreAllBounded rows → AreAllBounded (put_state state place o rows)
state_bounded state place None rows is all = all
state_bounded state place (Some row) rows is all =
    let one : IsBounded row = rw is at (bounded_at rows place all) in
    set_bounded rows place (record row { state = state }) one all

-- what the two records have in common does not change in any record
kept : {A : Type 0} (of : Option ProcessStatus → A) (rows : List ProcessStatus) (n q : ℕ) (old new : ProcessStatus) → slice_get rows n ≡ Some old → of (Some new) ≡ of (Some old) → of (slice_get (slice_set rows n new) q) ≡ of (slice_get rows q)
kept of [] n q old new is same = refl
kept of (r ∷ rows) zero zero old new is same = same ∙ sym (ap of is)
kept of (r ∷ rows) zero (suc q) old new is same = refl
kept of (r ∷ rows) (suc n) zero old new is same = refl
kept of (r ∷ rows) (suc n) (suc q) old new is same = kept of rows n q old new is same

pub state_timed : (state : ProcessState) (place : ℕ) (o : Option ProcessStatus) (rows : List ProcessStatus) (t : Timers) → slice_get rows place ≡ o → AreTimed rows t → AreTimed (put_state state place o rows) t
state_timed state place None rows t is h = h
state_timed state place (Some row) rows t is h = record {
  dues = λ p. h.dues p ∙ sym (kept due_of rows place (suc (suc p)) row (record row { state = state }) is refl);
  missed = λ p. h.missed p ∙ sym (kept deadline_of rows place (suc (suc p)) row (record row { state = state }) is refl);
}
