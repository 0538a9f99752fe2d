-- The partitions and who of them is RUNNING, and those that stopped.
use Rattle.std.proofs.Common.{◌≡◌, ◌≢◌, ◌<◌, ℕ, zero, suc, Bool, true, false, List, [], ◌∷◌, ◌++◌, map, Option, Some, None, refl, sym, ap, ◌∙◌, subst, arith}
use Rattle.std.specs.Prelude.{◌+◌, ◌==◌, if◌then◌else◌, option_map, slice_get, slice_set}
use Rattle.std.proofs.lemmas.Bool.{false≢true}
use Rattle.std.proofs.lemmas.Option.{none-some, same_Some, slice_get-map}
use Rattle.apex_types.specs.declared.event.Subject.{Subject}
use Rattle.engine_meaning.specs.Digits.{same}
use Rattle.isolation.proofs.Steps.{IsApart, get_set_same, get_set_other, map_set_same}
use Rattle.state_laws.proofs.Subjects.{name_itself, same_name}
use Rattle.trace_windows.specs.Standings.{halted, place_from, place_in, running_at, running_in, with_running}
use Rattle.trace_windows.specs.Uses.{last_from}
use Rattle.trace_windows.specs.declared.owner.Owner.{Owner}
use Rattle.trace_windows.specs.declared.owner.Stop.{Stop}

abbrev pub name_of : Owner → List ℕ
name_of o = o.name

abbrev pub names_in : List Owner → List (List ℕ)
names_in owners = map name_of owners

-- ---- another runner in one partition

set_there : (place : ℕ) (r : Option Subject) (owners : List Owner) (o : Owner) → slice_get owners place ≡ Some o → with_running place r owners ≡ slice_set owners place (record o { running = r })
set_there place r owners o e = ap (λ (x : Option Owner). elim x [ None ↦ owners | Some y ↦ slice_set owners place (record y { running = r }) ]) e

set_nowhere : (place : ℕ) (r : Option Subject) (owners : List Owner) → slice_get owners place ≡ None → with_running place r owners ≡ owners
set_nowhere place r owners e = ap (λ (x : Option Owner). elim x [ None ↦ owners | Some y ↦ slice_set owners place (record y { running = r }) ]) e

pub running_set : (place : ℕ) (r : Option Subject) (owners : List Owner) (o : Owner) → slice_get owners place ≡ Some o → running_at place (with_running place r owners) ≡ r
running_set place r owners o e = ap (running_at place) (set_there place r owners o e) ∙ ap running_in (get_set_same owners place o (record o { running = r }) e)

pub running_other : (q place : ℕ) (r : Option Subject) (owners : List Owner) → q ≢ place → running_at place (with_running q r owners) ≡ running_at place owners
running_other q place r owners n = by_owner (slice_get owners q) refl
  where
    by_owner : (o : Option Owner) → slice_get owners q ≡ o → running_at place (with_running q r owners) ≡ running_at place owners
    by_owner None e = ap (running_at place) (set_nowhere q r owners e)
    by_owner (Some o) e = ap (running_at place) (set_there q r owners o e) ∙ ap running_in (get_set_other owners q place (record o { running = r }) n)

pub names_set : (place : ℕ) (r : Option Subject) (owners : List Owner) → names_in (with_running place r owners) ≡ names_in owners
names_set place r owners = by_owner (slice_get owners place) refl
  where
    by_owner : (o : Option Owner) → slice_get owners place ≡ o → names_in (with_running place r owners) ≡ names_in owners
    by_owner None e = ap names_in (set_nowhere place r owners e)
    by_owner (Some o) e = ap names_in (set_there place r owners o e) ∙ map_set_same name_of owners place o (record o { running = r }) e refl

-- ---- nobody runs in any

pub names_halted : (owners : List Owner) → names_in (map halted owners) ≡ names_in owners
names_halted [] = refl
names_halted (o ∷ os) = ap (λ (ns : List (List ℕ)). o.name ∷ ns) (names_halted os)

pub running_halted : (place : ℕ) (owners : List Owner) → running_at place (map halted owners) ≡ None
running_halted place owners = ap running_in (slice_get-map halted owners place) ∙ none (slice_get owners place)
  where
    none : (o : Option Owner) → running_in (option_map halted o) ≡ None
    none None = refl
    none (Some o) = refl

-- ---- those that stopped

pub last_push : (found : Option Subject) (place : ℕ) (stops : List Stop) (x : Stop) → last_from found place (stops ++ x ∷ []) ≡ (if x.place == place then Some x.who else last_from found place stops)
unfolding last_from
last_push found place [] x = refl
last_push found place (s ∷ ss) x = last_push (if s.place == place then Some s.who else found) place ss x

pub none_stopped : (place : ℕ) → last_from None place [] ≡ None
unfolding last_from
none_stopped place = refl

-- ---- the place of a name

-- a partition that is found has the name
found_from : (n : ℕ) (name : List ℕ) (owners : List Owner) (q : ℕ) → place_from n name owners ≡ Some q → (k : ℕ) × ((q ≡ n + k) × (slice_get (names_in owners) k ≡ Some name))
unfolding place_from
found_from n name [] q e = absurd (none-some q e)
found_from n name (o ∷ os) q e = by_test (same o.name name) refl e (found_from (n + 1) name os q)
  where
    by_test : (b : Bool) → same o.name name ≡ b → (if b then Some n else place_from (n + 1) name os) ≡ Some q
        → (place_from (n + 1) name os ≡ Some q → (k : ℕ) × ((q ≡ n + 1 + k) × (slice_get (names_in os) k ≡ Some name)))
        → (k : ℕ) × ((q ≡ n + k) × (slice_get (names_in (o ∷ os)) k ≡ Some name))
    by_test true t f rest = let is : n ≡ q = same_Some n q f in (0, (omega (arith, is), ap Some (same_name o.name name t)))
    by_test false t f rest = let r = rest f in let c = r.1 in (suc r.0, (omega (arith, c.0), c.1))

pub found : (name : List ℕ) (owners : List Owner) (q : ℕ) → place_in name owners ≡ Some q → slice_get (names_in owners) q ≡ Some name
found name owners q e =
    let r = found_from 0 name owners q e in
    let c = r.1 in
    let is : r.0 ≡ q = omega (arith, c.0) in
    subst (λ (k : ℕ). slice_get (names_in owners) k ≡ Some name) is c.1

-- the first with the name is at its place, if those before it have other names
own_from : (n : ℕ) (name : List ℕ) (owners : List Owner) (place : ℕ) → slice_get (names_in owners) place ≡ Some name → ((q : ℕ) (other : List ℕ) → q < place → slice_get (names_in owners) q ≡ Some other → same other name ≡ false)
    → place_from n name owners ≡ Some (n + place)
unfolding place_from
own_from n name [] place e others = absurd (none-some name e)
own_from n name (o ∷ os) zero e others =
    let is : n ≡ n + 0 = omega arith in
    ap (λ (b : Bool). if b then Some n else place_from (n + 1) name os) (ap (λ (x : List ℕ). same x name) (same_Some o.name name e) ∙ name_itself name) ∙ ap Some is
own_from n name (o ∷ os) (suc place) e others =
    let is : n + 1 + place ≡ n + suc place = omega arith in
    ap (λ (b : Bool). if b then Some n else place_from (n + 1) name os) (others 0 o.name (omega arith) refl)
    ∙ own_from (n + 1) name os place e (λ q other l f. others (suc q) other (omega (arith, l)) f)
    ∙ ap Some is

turned : (a b : List ℕ) → same a b ≡ false → same b a ≡ false
turned a b e = by_test (same b a) refl
  where
    by_test : (c : Bool) → same b a ≡ c → same b a ≡ false
    by_test true f = absurd (false≢true (sym e ∙ ap (λ (x : List ℕ). same x b) (sym (same_name b a f)) ∙ name_itself b))
    by_test false f = f

pub own_place : (name : List ℕ) (place : ℕ) (owners : List Owner) → IsApart name place (names_in owners) → place_in name owners ≡ Some place
own_place name place owners apart =
    let is : 0 + place ≡ place = omega arith in
    own_from 0 name owners place apart.here (λ q other l f. turned name other (apart.others q other (λ e. absurd (omega (arith, e, l))) f)) ∙ ap Some is
