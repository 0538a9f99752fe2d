-- The programs of accepted sources are those that are written in them, with their names resolved.
use Rattle.std.proofs.Common.{◌≡◌, ℕ, zero, suc, Bool, true, false, not, List, [], ◌∷◌, Some, Result, Ok, Err, refl, ap, ◌∙◌, subst}
use Rattle.std.specs.Prelude.{if◌then◌else◌, slice_get}
use Rattle.std.proofs.lemmas.Option.{none-some, same_Some}
use Rattle.apex_types.specs.declared.row.PortRow.{PortRow}
use Rattle.module_meaning.specs.Accepted.{IsAccepted, AreAccepted}
use Rattle.module_meaning.specs.Table.{Partition, at_number}
use Rattle.pal_laws.proofs.ReadPrograms.{written_once}
use Rattle.pal_meaning.specs.Grammar.{IsProgramOf}
use Rattle.pal_meaning.specs.Program.{Program}
use Rattle.pal_meaning.specs.Resolve.{resolve}
use Rattle.pal_meaning.specs.Syntax as written
use Rattle.pal_meaning.specs.WellFormed.{Refused, verdict, names_hold, kinds_hold, limits_hold, periods_hold}

held : (b : Bool) (e : Refused) (x : Result Program Refused) (r : Program) → (if not b then Err e else x) ≡ Ok r → (b ≡ true) × (x ≡ Ok r)
held true e x r h = (refl, h)
held false e x r h = absurd (cc)

-- The program at a number is this one with its names resolved, which keeps the rules on names and on kinds.
pub record IsResolved (programs : List Program) (p : ℕ) (ports : List PortRow) (tree : written.Program) : Type 0 where
  pub here : at_number programs p ≡ Some (resolve ports tree)
  pub names : names_hold ports tree ≡ true
  pub kinds : kinds_hold ports tree ≡ true

judged : (programs : List Program) (p : ℕ) (ports : List PortRow) (period : ℕ) (tree : written.Program) (program : Program) → at_number programs p ≡ Some program → verdict ports period tree ≡ Ok program → IsResolved programs p ports tree
judged programs p ports period tree program there h =
    let names = held (names_hold ports tree) _ _ program h in
    let kinds = held (kinds_hold ports tree) _ _ program names.1 in
    let limits = held (limits_hold ports tree) _ _ program kinds.1 in
    let periods = held (periods_hold period tree) _ _ program limits.1 in
    let done = periods.1 in
    record { here = there ∙ (let same : program ≡ resolve ports tree = cc in ap Some same); names = names.0; kinds = kinds.0 }

accepted_in : (rows : List Partition) (sources : List (List ℕ)) (programs : List Program) (place : ℕ) (row : Partition) (source : List ℕ) → AreAccepted rows sources programs
    → slice_get rows place ≡ Some row → slice_get sources place ≡ Some source → (program : Program) × (slice_get programs place ≡ Some program) × IsAccepted row source program
accepted_in [] sources programs place row source h e f = absurd (none-some row e)
accepted_in (r ∷ rs) [] programs place row source h e f = absurd (none-some source f)
accepted_in (r ∷ rs) (s ∷ ss) [] place row source h e f = absurd h
accepted_in (r ∷ rs) (s ∷ ss) (q ∷ qs) zero row source h e f =
    (q, refl, subst (λ (x : Partition). IsAccepted x source q) (same_Some r row e) (subst (λ (x : List ℕ). IsAccepted r x q) (same_Some s source f) h.0))
accepted_in (r ∷ rs) (s ∷ ss) (q ∷ qs) (suc place) row source h e f = accepted_in rs ss qs place row source h.1 e f

-- an accepted source
pub program_at : (rows : List Partition) (sources : List (List ℕ)) (programs : List Program) (p : ℕ) (row : Partition) (source : List ℕ) (tree : written.Program) → AreAccepted rows sources programs
    → at_number rows p ≡ Some row → at_number sources p ≡ Some source → IsProgramOf source tree → IsResolved programs p row.ports tree
program_at rows sources programs zero row source tree h e f is = absurd (none-some row e)
program_at rows sources programs (suc place) row source tree h e f is =
    let a = accepted_in rows sources programs place row source h e f in
    let same : a.2.tree ≡ tree = written_once _ a.2.tree tree a.2.written.1 is.1 in
    subst (IsResolved programs (suc place) row.ports) same (judged programs (suc place) row.ports row.period a.2.tree a.0 a.1 a.2.judged)
