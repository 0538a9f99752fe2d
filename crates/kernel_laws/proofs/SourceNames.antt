-- The processes of an accepted source have names of their own.
use Rattle.kernel_laws.proofs.Prelude.{◌≡◌, ℕ, zero, suc, ◌+◌, Bool, true, false, List, ◌∷◌, ◌++◌, Some, None, refl, sym, subst, ◌∙◌, if◌then◌else◌, none-some, same_Some, is_some, not, slice_get, and_parts, Schedule, Member, at_number, map, names_of}
use Rattle.std.proofs.Common.{[], ap, Result, Ok, Err}
use Rattle.std.proofs.lemmas.Bool.{false≢true}
use Rattle.std.proofs.lemmas.Slice.Eq.{bytes_eq-Decides}
use Rattle.std.specs.Prelude.{bytes_eq, unwrap_or}
use Rattle.apex_types.specs.declared.cost.Costs.{Costs}
use Rattle.apex_types.specs.declared.denotation.Denotation.TheVariants as denotation
use Rattle.apex_types.specs.declared.denotation.ObjectKind.TheVariants as object
use Rattle.apex_types.specs.declared.limits.TheConstants.{MOST_PROCESSES}
use Rattle.apex_types.specs.declared.row.PortRow.{PortRow}
use Rattle.kernel_laws.specs.Names.{HasOwnNames, HaveOwnNames}
use Rattle.kernel_laws.proofs.OwnNames.{AreApart, Own, members_own, own_of, records_own}
use Rattle.kernel_laws.proofs.Places.{mapped}
use Rattle.module_meaning.specs.Accepted.{AreAccepted}
use Rattle.module_meaning.specs.SourceMeaning.{source_member, source_members, source_row}
use Rattle.module_meaning.specs.Table.{Partition, Table, fixed_of}
use Rattle.pal_meaning.specs.Program.{Process, Program}
use Rattle.pal_meaning.specs.Resolve.{Entry, counted, declaration_entries, declared_entries, find, next, no_counts, process_entries, resolve, resolve_process}
use Rattle.pal_meaning.specs.SourceControl.{SourceControl}
use Rattle.pal_meaning.specs.Syntax as written
use Rattle.pal_meaning.specs.WellFormed.{Refused, are_new, verdict, names_hold, kinds_hold, limits_hold, periods_hold}

-- ---- entries

-- a name is found among entries with more behind them
find_front : (x : List ℕ) (es more : List Entry) → is_some (find x es) ≡ true → is_some (find x (es ++ more)) ≡ true
find_front x [] more h = absurd (false≢true h)
find_front x (d ∷ es) more h = by_test (bytes_eq d.name x) h (find_front x es more)
  where
    by_test : (b : Bool) → is_some (if b then Some d.meaning else find x es) ≡ true → (is_some (find x es) ≡ true → is_some (find x (es ++ more)) ≡ true) → is_some (if b then Some d.meaning else find x (es ++ more)) ≡ true
    by_test true k rest = refl
    by_test false k rest = rest k

find_last : (es : List Entry) (e : Entry) → is_some (find e.name (es ++ e ∷ [])) ≡ true
find_last [] e = ap (λ (b : Bool). is_some (if b then Some e.meaning else None)) ((bytes_eq-Decides e.name e.name).1 refl)
find_last (d ∷ es) e = by_test (bytes_eq d.name e.name) (find_last es e)
  where
    by_test : (b : Bool) → is_some (find e.name (es ++ e ∷ [])) ≡ true → is_some (if b then Some d.meaning else find e.name (es ++ e ∷ [])) ≡ true
    by_test true k = refl
    by_test false k = k

-- none of these entries has a name of those before it
abbrev pub AreNew : List Entry → List Entry → Type 0
AreNew before es = are_new [] before es ≡ true

pub was_false : (b : Bool) → not b ≡ true → b ≡ false
was_false true h = absurd (false≢true h)
was_false false h = refl

pub new_rest : (before : List Entry) (e : Entry) (es : List Entry) → AreNew before (e ∷ es) → (is_some (find e.name before) ≡ false) × AreNew (before ++ e ∷ []) es
new_rest before e es h =
    let parts = and_parts (not (is_some (find e.name before))) (are_new [] (before ++ e ∷ []) es) h in
    (was_false (is_some (find e.name before)) parts.0, parts.1)

pub new_behind : (before xs ys : List Entry) → AreNew before (xs ++ ys) → (those : List Entry) × AreNew those ys
new_behind before [] ys h = (before, h)
new_behind before (x ∷ xs) ys h = let r = new_rest before x (xs ++ ys) h in new_behind (before ++ x ∷ []) xs ys r.1

-- ---- processes

abbrev more : ℕ → ℕ
more count = unwrap_or (counted MOST_PROCESSES count 1) count

abbrev entry_of : ℕ → written.Process → Entry
entry_of count p = record { name = p.name; meaning = denotation.Object object.Process (next MOST_PROCESSES count) }

later_new : (before : List Entry) (count : ℕ) (ps : List written.Process) → AreNew before (process_entries count ps) → (x : List ℕ) → is_some (find x before) ≡ true → (j : ℕ) (q : written.Process) → slice_get ps j ≡ Some q → x ≡ q.name → ⊥
later_new before count [] h x there j q f same = none-some q f
later_new before count (z ∷ zs) h x there zero q f same =
    let r = new_rest before (entry_of count z) (process_entries (more count) zs) h in
    let is : x ≡ z.name = same ∙ sym (ap (λ (p : written.Process). p.name) (same_Some z q f)) in
    false≢true (sym r.0 ∙ subst (λ (n : List ℕ). is_some (find n before) ≡ true) is there)
later_new before count (z ∷ zs) h x there (suc j) q f same =
    let r = new_rest before (entry_of count z) (process_entries (more count) zs) h in
    later_new (before ++ entry_of count z ∷ []) (more count) zs r.1 x (find_front x before (entry_of count z ∷ []) there) j q f same

own_names : (before : List Entry) (count : ℕ) (ps : List written.Process) → AreNew before (process_entries count ps) → (i j : ℕ) (p q : written.Process) → slice_get ps i ≡ Some p → slice_get ps j ≡ Some q → p.name ≡ q.name → i ≡ j
own_names before count [] h i j p q e f same = absurd (none-some p e)
own_names before count (z ∷ zs) h zero zero p q e f same = refl
own_names before count (z ∷ zs) h zero (suc j) p q e f same =
    let r = new_rest before (entry_of count z) (process_entries (more count) zs) h in
    absurd (later_new (before ++ entry_of count z ∷ []) (more count) zs r.1 z.name (find_last before (entry_of count z)) j q f (ap (λ (y : written.Process). y.name) (same_Some z p e) ∙ same))
own_names before count (z ∷ zs) h (suc i) zero p q e f same =
    let r = new_rest before (entry_of count z) (process_entries (more count) zs) h in
    absurd (later_new (before ++ entry_of count z ∷ []) (more count) zs r.1 z.name (find_last before (entry_of count z)) i p e (ap (λ (y : written.Process). y.name) (same_Some z q f) ∙ sym same))
own_names before count (z ∷ zs) h (suc i) (suc j) p q e f same =
    let r = new_rest before (entry_of count z) (process_entries (more count) zs) h in
    ap suc (own_names (before ++ entry_of count z ∷ []) (more count) zs r.1 i j p q e f same)

resolved_names : (ports : List PortRow) (tree : written.Program) → names_hold ports tree ≡ true → HasOwnNames (resolve ports tree)
resolved_names ports tree h = own_of (λ (p : Process). p.name) (map (resolve_process declared) tree.processes) apart
  where
    declared : List Entry
    declared = declared_entries ports tree

    apart : AreApart (λ (p : Process). p.name) (map (resolve_process declared) tree.processes)
    apart i j p q e f same =
        let new = (and_parts (are_new [] [] declared) _ h).0 in
        let those = new_behind [] (declaration_entries ports no_counts tree.declarations) (process_entries 0 tree.processes) new in
        let a = mapped (resolve_process declared) tree.processes i p e in
        let b = mapped (resolve_process declared) tree.processes j q f in
        own_names those.0 0 tree.processes those.1 i j a.0 b.0 a.1 b.1 (ap (λ (y : Process). y.name) a.2 ∙ same ∙ sym (ap (λ (y : Process). y.name) b.2))

-- ---- accepted sources

held : (b : Bool) (e : Refused) (x : Result Program Refused) (r : Program) → (if not b then Err e else x) ≡ Ok r → (b ≡ true) × (x ≡ Ok r)
held true e x r h = (refl, h)
held false e x r h = absurd (cc)

judged_names : (ports : List PortRow) (period : ℕ) (tree : written.Program) (program : Program) → verdict ports period tree ≡ Ok program → HasOwnNames program
judged_names ports period tree program h =
    let names = held (names_hold ports tree) _ _ program h in
    let kinds = held (kinds_hold ports tree) _ _ program names.1 in
    let limits = held (limits_hold ports tree) _ _ program kinds.1 in
    let periods = held (periods_hold period tree) _ _ program limits.1 in
    let done = periods.1 in
    let same : resolve ports tree ≡ program = cc in
    subst HasOwnNames same (resolved_names ports tree names.0)

pub accepted_names : (rows : List Partition) (sources : List (List ℕ)) (programs : List Program) (place : ℕ) (row : Partition) → AreAccepted rows sources programs → slice_get rows place ≡ Some row
    → (program : Program) × ((slice_get programs place ≡ Some program) × HasOwnNames program)
accepted_names [] sources programs place row h e = absurd (none-some row e)
accepted_names (r ∷ rs) [] [] place row h e = absurd h
accepted_names (r ∷ rs) [] (q ∷ qs) place row h e = absurd h
accepted_names (r ∷ rs) (s ∷ ss) [] place row h e = absurd h
accepted_names (r ∷ rs) (s ∷ ss) (q ∷ qs) zero row h e = let a = h.0 in (q, (refl, judged_names r.ports r.period a.tree q a.judged))
accepted_names (r ∷ rs) (s ∷ ss) (q ∷ qs) (suc place) row h e = accepted_names rs ss qs place row h.1 e

programs_own : (rows : List Partition) (sources : List (List ℕ)) (programs : List Program) → AreAccepted rows sources programs → (place : ℕ) (q : Program) → slice_get programs place ≡ Some q → HasOwnNames q
programs_own rows sources [] h place q e = absurd (none-some q e)
programs_own [] [] (p ∷ ps) h place q e = absurd h
programs_own [] (s ∷ ss) (p ∷ ps) h place q e = absurd h
programs_own (r ∷ rs) [] (p ∷ ps) h place q e = absurd h
programs_own (r ∷ rs) (s ∷ ss) (p ∷ ps) h zero q e = let a = h.0 in subst HasOwnNames (same_Some p q e) (judged_names r.ports r.period a.tree p a.judged)
programs_own (r ∷ rs) (s ∷ ss) (p ∷ ps) h (suc place) q e = programs_own rs ss ps h.1 place q e

-- ---- the members of a module

-- the programs of a module
abbrev pub HaveOwn : List Program → Type 0
HaveOwn programs = (p : ℕ) (q : Program) → at_number programs p ≡ Some q → HasOwnNames q

pub accepted_own : (rows : List Partition) (sources : List (List ℕ)) (programs : List Program) → AreAccepted rows sources programs → HaveOwn programs
accepted_own rows sources programs h zero q e = absurd (none-some q e)
accepted_own rows sources programs h (suc place) q e = programs_own rows sources programs h place q e

programs_members : (k : Costs) (s : Schedule) (n : ℕ) (ps : List Partition) (programs : List Program) → ((place : ℕ) (q : Program) → slice_get programs place ≡ Some q → HasOwnNames q)
    → (place : ℕ) (x : Member SourceControl) → slice_get (source_members k s n ps programs) place ≡ Some x → Own x
programs_members k s n [] programs h place x e = absurd (none-some x e)
programs_members k s n (p ∷ ps) [] h place x e = absurd (none-some x e)
programs_members k s n (p ∷ ps) (q ∷ qs) h zero x e =
    subst Own (same_Some (source_member k (fixed_of s n p) p.ports q) x e) (records_own (λ (r : Process). r.name) q.processes source_row (λ r. refl) (h zero q refl))
programs_members k s n (p ∷ ps) (q ∷ qs) h (suc place) x e = programs_members k s (n + 1) ps qs (λ i. h (suc i)) place x e

pub source_own : (t : Table) (programs : List Program) → HaveOwn programs → (p : ℕ) → HaveOwnNames (names_of (source_members t.costs t.schedule 1 t.partitions programs) p)
source_own t programs h = members_own (source_members t.costs t.schedule 1 t.partitions programs) (programs_members t.costs t.schedule 1 t.partitions programs (λ place. h (suc place)))
