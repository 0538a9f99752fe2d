-- A runner whose record stays.
use Rattle.std.proofs.Common.{◌≡◌, ℕ, zero, suc, List, [], ◌∷◌, Option, Some, None, refl, sym, ap, ◌∙◌}
use Rattle.std.specs.Prelude.{slice_get, slice_set, option_map}
use Rattle.std.proofs.lemmas.Option.{same_Some}
use Rattle.apex_types.specs.Runners.{place_of}
use Rattle.apex_types.specs.declared.identity.Priority.{Priority}
use Rattle.apex_types.specs.declared.identity.Runner.{Runner}
use Rattle.apex_types.specs.declared.process.ProcessStatus.{ProcessStatus}
use Rattle.kernel_meaning.specs.Processes.{Processes, goes_last, row_of}
use Rattle.kernel_meaning.specs.ProcessServices.{yields}
use Rattle.process_table_base.specs.Yielding.{yields_in}

-- a record that is written back to its place changes nothing
same_rows : (rows : List ProcessStatus) (place : ℕ) (r : ProcessStatus) → slice_get rows place ≡ Some r → slice_set rows place r ≡ rows
same_rows [] place r e = absurd cc
same_rows (first ∷ rows) zero r e = ap (λ (x : ProcessStatus). x ∷ rows) (sym (same_Some first r e))
same_rows (first ∷ rows) (suc place) r e = ap (λ (xs : List ProcessStatus). first ∷ xs) (same_rows rows place r e)

there : (s : Processes) (p : Runner) (priority : Priority) (o : Option ProcessStatus) → row_of s p ≡ o → option_map (λ row. row.current_priority) o ≡ Some priority → record s { ready = goes_last p priority s.ready } ≡ yields_in s p
there s p priority None at is = absurd cc
there s p priority (Some r) at is =
    sym (
    ap (λ (o : Option ProcessStatus). (yields s p o).part) at
    ∙ ap (λ (rows : List ProcessStatus). record s { rows = rows; ready = goes_last p r.current_priority s.ready }) (same_rows s.rows (place_of p) r at)
    ∙ ap (λ (q : Priority). record s { ready = goes_last p q s.ready }) (same_Some r.current_priority priority is)
    )

pub yielded : (s : Processes) (p : Runner) (priority : Priority) → Some priority ≡ option_map (λ row. row.current_priority) (row_of s p) → record s { ready = goes_last p priority s.ready } ≡ yields_in s p
yielded s p priority is = there s p priority (row_of s p) refl (sym is)
