-- The text of a state with names, and why there is none.
use Rattle.module.proofs.Prelude.{◌≡◌, ◌≤◌, ◌<◌, ◌+◌, ◌++◌, ℕ, zero, suc, List, length, Option, Some, None, Result, Ok, Err, refl, sym, ap, ◌∙◌, append-nil, append_assoc, arith, slice_get, DeviceFault, DeviceLine, Image, Item, Fault, verdict_for, machine_module, Machine, fresh_machine, Member, MachineControl, MOST_TICKS, AreRefused, RunFault, Standing, elapse}
use Rattle.std.proofs.Common.{[], ◌-◌, subst}
use Rattle.module.specs.declared.fault.RunFault.TheVariants as fault
use Rattle.module.specs.Naming.{IsNamedTextFor}
use Rattle.module.specs.NamedStates.{IsNamedTextOf, NamedStates, names_at, names_for, names_from, names_of_all, names_of_item, rows_with_names, wanted_number}
use Rattle.module.specs.States.{LacksWanted, States, Wanted, rows_of, state_before}
use Rattle.isolation.specs.Replays.{numbered}
use Rattle.std.specs.Prelude.{option_map}
use Rattle.module.proofs.Stated.{elapsed_now, none_found, text_refused}
use Rattle.std.proofs.lemmas.Grind.{flat_map-append}
use Rattle.state_rows.specs.Named.{Source}
use Rattle.state_rows.specs.Rows.{Row, row_in, rows_in}
use Rattle.state_rows.specs.declared.row.Form.{Form}

abbrev ok_image : Image → Result Image Fault
ok_image image = Ok image

-- ---- refusals, which are those of the state without names

as_named : (read : Result Image Fault) (devices : List ℕ) (n : ℕ) (wanted : Wanted) (sources : List Source) (old : Option (List ℕ)) (v : Result (List DeviceLine) DeviceFault) (f : RunFault) → AreRefused v f → States read devices n wanted old old (Err f) → NamedStates read devices n wanted sources old old (Err f)
as_named read devices n wanted sources old v (fault.Device f) h r = r
as_named read devices n wanted sources old v fault.Memory h r = refl
as_named read devices n wanted sources old v fault.Ticks h r = r
as_named read devices n wanted sources old v (fault.Image f) h r = r
as_named read devices n wanted sources old v fault.Partition h r = r
as_named read devices n wanted sources old v fault.Failed h r = absurd r
as_named read devices n wanted sources old (Ok lines) fault.Write h r = absurd h
as_named read devices n wanted sources old (Err g) fault.Write h r = absurd h

-- the device text is refused, or memory ran out
pub named_refused : (read : Result Image Fault) (loaded : Image) (devices : List ℕ) (n : ℕ) (wanted : Wanted) (sources : List Source) (old : Option (List ℕ)) (f : RunFault) → read ≡ ok_image loaded → n ≤ MOST_TICKS → AreRefused (verdict_for loaded devices) f
    → NamedStates read devices n wanted sources old old (Err f)
named_refused read loaded devices n wanted sources old f is few h =
    as_named read devices n wanted sources old (verdict_for loaded devices) f h (text_refused read loaded devices n wanted old f is few h)

-- there is no partition of that name
no_number : (found : Option (ℕ × Item)) → option_map (λ (x : ℕ × Item). Some x.0) found ≡ None → found ≡ None
no_number None e = refl
no_number (Some x) e = absurd cc

lacks : (image : Image) (name : Option (List ℕ)) → wanted_number image name ≡ None → LacksWanted (ok_image image) name
lacks image None e = absurd cc
lacks image (Some name) e = no_number (numbered image name) e

pub none_named : (read : Result Image Fault) (loaded : Image) (devices : List ℕ) (n : ℕ) (wanted : Wanted) (sources : List Source) (old : Option (List ℕ)) → read ≡ ok_image loaded → n ≤ MOST_TICKS → wanted_number loaded wanted.partition ≡ None
    → NamedStates read devices n wanted sources old old (Err fault.Partition)
none_named read loaded devices n wanted sources old is few none = none_found read loaded devices n wanted old fault.Partition is few refl (lacks loaded wanted.partition none)

-- ---- the text

-- the text of the wanted rows
pub named_stated : (read : Result Image Fault) (loaded : Image) (devices : List ℕ) (n : ℕ) (wanted : Wanted) (sources : List Source) (only : Option ℕ) (text : List ℕ) → read ≡ ok_image loaded → n ≤ MOST_TICKS
    → wanted_number loaded wanted.partition ≡ Some only → IsNamedTextFor loaded devices n wanted.form only sources text
    → IsNamedTextOf read devices n wanted sources text
named_stated read loaded devices n wanted sources only text is few found t =
    (loaded, t.lines, record { loaded = is; taken = t.taken; few = few }, (only, found, t.rows))

-- the rows of a machine that has made n ticks
pub names_after : (image : Image) (m last : Machine) (lines : List DeviceLine) (n : ℕ) (form : Form) (only : Option ℕ) (sources : List Source) → m ≡ fresh_machine image → last.image ≡ m.image
    → last.standing ≡ (elapse (machine_module m.image).plan lines n m.standing).state
    → rows_in form (rows_with_names only sources last.image last.standing.now last.standing) ≡ rows_in form (rows_with_names only sources image n (state_before image lines n))
names_after image m last lines n form only sources fresh kept behind =
    let same : last.image ≡ image = kept ∙ ap (λ (x : Machine). x.image) fresh in
    let stood : last.standing ≡ state_before image lines n = behind ∙ ap (λ (x : Machine). (elapse (machine_module x.image).plan lines n x.standing).state) fresh in
    let counted : (state_before image lines n).now ≡ 0 + n = elapsed_now (machine_module image).plan lines n (fresh_machine image).standing in
    let now : last.standing.now ≡ n = ap (λ (s : Standing _). s.now) stood ∙ counted ∙ omega arith in
    ap (λ (i : Image). rows_in form (rows_with_names only sources i last.standing.now last.standing)) same
    ∙ ap (λ (k : ℕ). rows_in form (rows_with_names only sources image k last.standing)) now
    ∙ ap (λ (s : Standing _). rows_in form (rows_with_names only sources image n s)) stood

-- the rows of the state, and then those with names
pub both_rows : (form : Form) (xs ys : List Row) (none first second : List ℕ) → none ≡ [] → first ≡ none ++ rows_in form xs → second ≡ first ++ rows_in form ys → second ≡ rows_in form (xs ++ ys)
both_rows form xs ys none first second empty one other =
    other ∙ ap (λ (bytes : List ℕ). bytes ++ rows_in form ys) (one ∙ ap (λ (bytes : List ℕ). bytes ++ rows_in form xs) empty) ∙ sym (flat_map-append (row_in form) xs ys)

-- ---- partition by partition

pub no_tree_names : (i : Option Item) (t : Option Source) (x : Option (Member MachineControl)) → t ≡ None → names_of_all i t x ≡ []
no_tree_names None t x e = refl
no_tree_names (Some i) None x e = refl
no_tree_names (Some i) (Some t) x e = absurd cc

pub no_item_names : (i : Option Item) (t : Option Source) (x : Option (Member MachineControl)) → i ≡ None → names_of_all i t x ≡ []
no_item_names None t x e = refl
no_item_names (Some i) t x e = absurd cc

pub no_member_names : (i : Option Item) (t : Option Source) (x : Option (Member MachineControl)) → x ≡ None → names_of_all i t x ≡ []
no_member_names None t x e = refl
no_member_names (Some i) None x e = refl
no_member_names (Some i) (Some t) None e = refl
no_member_names (Some i) (Some t) (Some x) e = absurd cc

-- the text with one more partition
pub names_more : (form : Form) (items : List Item) (sources : List Source) (members : List (Member MachineControl)) (n place : ℕ) (old new whole : List ℕ) → place < n
    → new ≡ old ++ rows_in form (names_at items sources members place)
    → old ++ rows_in form (names_from items sources members (n - place) place) ≡ whole
    → new ++ rows_in form (names_from items sources members (n - (place + 1)) (place + 1)) ≡ whole
names_more form items sources members n place old new whole within is so_far =
    let count : n - place ≡ suc (n - (place + 1)) = omega (arith, within) in
    let own = names_at items sources members place in
    let rest = names_from items sources members (n - (place + 1)) (place + 1) in
    ap (λ (bytes : List ℕ). bytes ++ rows_in form rest) is
    ∙ append_assoc old (rows_in form own) (rows_in form rest)
    ∙ ap (λ (bytes : List ℕ). old ++ bytes) (sym (flat_map-append (row_in form) own rest))
    ∙ ap (λ k. old ++ rows_in form (names_from items sources members k place)) (sym count)
    ∙ so_far

pub names_done : (form : Form) (items : List Item) (sources : List Source) (members : List (Member MachineControl)) (n place : ℕ) (old whole : List ℕ) → n ≤ place
    → old ++ rows_in form (names_from items sources members (n - place) place) ≡ whole → old ≡ whole
names_done form items sources members n place old whole done so_far =
    let none : n - place ≡ 0 = omega (arith, done) in
    sym (append-nil old) ∙ ap (λ k. old ++ rows_in form (names_from items sources members k place)) (sym none) ∙ so_far

-- ---- the sources with their places

pub only_added : (xs added : List Source) {none : List Source} → none ≡ [] → xs ≡ none ++ added → xs ≡ added
only_added xs added none is = is ∙ ap (λ (ys : List Source). ys ++ added) none
