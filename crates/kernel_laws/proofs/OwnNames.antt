-- The processes of an image within its limits have names of their own.
use Rattle.kernel_laws.proofs.Prelude.{◌≡◌, ℕ, zero, suc, ◌+◌, Bool, true, false, List, ◌∷◌, ◌++◌, length, map, Option, Some, None, refl, sym, subst, ◌∙◌, none-some, same_Some, option_map, slice_get, ◌||◌, ProcessStatus, Schedule, Member, names_of, of_member}
use Rattle.std.proofs.Common.{[], ap}
use Rattle.std.proofs.lemmas.Bool.{false≢true}
use Rattle.std.proofs.lemmas.Option.{slice_get-map}
use Rattle.std.proofs.lemmas.Slice.Eq.{bytes_eq-Decides}
use Rattle.std.specs.Prelude.{bytes_eq}
use Rattle.apex_types.specs.Versions.{costs_of, limits_of}
use Rattle.apex_types.specs.declared.cost.Costs.{Costs}
use Rattle.apex_types.specs.declared.row.ProcessRow.{ProcessRow}
use Rattle.kernel_laws.specs.Names.{HaveOwnNames}
use Rattle.kernel_laws.specs.RunLaw.{names_in}
use Rattle.kernel_laws.proofs.Fresh.{name}
use Rattle.kernel_laws.proofs.Places.{mapped}
use Rattle.machine_meaning.specs.Image.{Image, Item}
use Rattle.machine_meaning.specs.ImageLimits.{EachBeside, IsItem, IsProcess, IsWithinLimits}
use Rattle.machine_meaning.specs.ImageReading.{is_process}
use Rattle.machine_meaning.specs.MachineControl.{MachineControl}
use Rattle.machine_meaning.specs.MachineMeaning.{machine_member, machine_members, machine_row}
use Rattle.module_meaning.specs.Table.{fixed_of}

-- ---- items with names

module _ {A : Type 0} (called : A → List ℕ) (xs : List A) where
  -- two of them with the same name are one
  abbrev pub AreApart : Type 0
  AreApart = (i j : ℕ) (x y : A) → slice_get xs i ≡ Some x → slice_get xs j ≡ Some y → called x ≡ called y → i ≡ j

  pub own_of : AreApart → HaveOwnNames (map called xs)
  own_of apart i j n e f =
      let a = mapped called xs i n e in
      let b = mapped called xs j n f in
      apart i j a.0 b.0 a.1 b.1 (a.2 ∙ sym b.2)

  pub apart_of : HaveOwnNames (map called xs) → AreApart
  apart_of own i j x y e f same =
      own i j (called x) (slice_get-map called xs i ∙ ap (option_map called) e) (slice_get-map called xs j ∙ (ap (option_map called) f ∙ ap Some (sym same)))

  -- so have their records
  pub records_own : (row : A → ProcessStatus) → ((x : A) → name (row x) ≡ called x) → HaveOwnNames (map called xs) → HaveOwnNames (map name (map row xs))
  records_own row is own i j n e f =
      let a = mapped name (map row xs) i n e in
      let b = mapped name (map row xs) j n f in
      let v = mapped row xs i a.0 a.1 in
      let w = mapped row xs j b.0 b.1 in
      apart_of own i j v.0 w.0 v.1 w.1 (sym (is v.0) ∙ (ap name v.2 ∙ (a.2 ∙ (sym b.2 ∙ (sym (ap name w.2) ∙ is w.0)))))

-- ---- rows beside those before them

pub front_at : {A : Type 0} (a b : List A) (i : ℕ) (x : A) → slice_get a i ≡ Some x → slice_get (a ++ b) i ≡ Some x
front_at [] b i x e = absurd (none-some x e)
front_at (y ∷ a) b zero x e = e
front_at (y ∷ a) b (suc i) x e = front_at a b i x e

pub last_at : {A : Type 0} (a : List A) (x : A) → slice_get (a ++ x ∷ []) (length a) ≡ Some x
last_at [] x = refl
last_at (y ∷ a) x = last_at a x

or_true : (b : Bool) → (b || true) ≡ true
or_true true = refl
or_true false = refl

is_there : (before : List ProcessRow) (i : ℕ) (x y : ProcessRow) → slice_get before i ≡ Some x → x.name ≡ y.name → is_process before y.name ≡ true
is_there [] i x y e same = absurd (none-some x e)
is_there (b ∷ bs) zero x y e same =
    ap (λ (c : Bool). c || is_process bs y.name) ((bytes_eq-Decides b.name y.name).1 (ap (λ (r : ProcessRow). r.name) (same_Some b x e) ∙ same))
is_there (b ∷ bs) (suc i) x y e same = ap (λ (c : Bool). bytes_eq b.name y.name || c) (is_there bs i x y e same) ∙ or_true (bytes_eq b.name y.name)

module _ (unit : ℕ) where
  later_differ : (before xs : List ProcessRow) → EachBeside (IsProcess unit) before xs → (i : ℕ) (x : ProcessRow) → slice_get before i ≡ Some x → (j : ℕ) (y : ProcessRow) → slice_get xs j ≡ Some y → x.name ≡ y.name → ⊥
  later_differ before [] h i x e j y f same = none-some y f
  later_differ before (z ∷ zs) h i x e zero y f same =
      let p = h.0 in
      false≢true (sym p.fresh ∙ is_there before i x z e (same ∙ sym (ap (λ (r : ProcessRow). r.name) (same_Some z y f))))
  later_differ before (z ∷ zs) h i x e (suc j) y f same = later_differ (before ++ z ∷ []) zs h.1 i x (front_at before (z ∷ []) i x e) j y f same

  pub rows_apart : (before xs : List ProcessRow) → EachBeside (IsProcess unit) before xs → (i j : ℕ) (x y : ProcessRow) → slice_get xs i ≡ Some x → slice_get xs j ≡ Some y → x.name ≡ y.name → i ≡ j
  rows_apart before [] h i j x y e f same = absurd (none-some x e)
  rows_apart before (z ∷ zs) h zero zero x y e f same = refl
  rows_apart before (z ∷ zs) h zero (suc j) x y e f same =
      absurd (later_differ (before ++ z ∷ []) zs h.1 (length before) z (last_at before z) j y f (ap (λ (r : ProcessRow). r.name) (same_Some z x e) ∙ same))
  rows_apart before (z ∷ zs) h (suc i) zero x y e f same =
      absurd (later_differ (before ++ z ∷ []) zs h.1 (length before) z (last_at before z) i x e (ap (λ (r : ProcessRow). r.name) (same_Some z y f) ∙ sym same))
  rows_apart before (z ∷ zs) h (suc i) (suc j) x y e f same = ap suc (rows_apart (before ++ z ∷ []) zs h.1 i j x y e f same)

-- ---- the members of a module

module _ {C : Type 0} where
  abbrev pub Own : Member C → Type 0
  Own x = HaveOwnNames (names_in x.world.kernel)

  pub members_own : (ms : List (Member C)) → ((place : ℕ) (x : Member C) → slice_get ms place ≡ Some x → Own x) → (p : ℕ) → HaveOwnNames (names_of ms p)
  members_own ms h zero = λ i j n e f. absurd (none-some n e)
  members_own ms h (suc place) = by_row (slice_get ms place) refl
    where
      by_row : (o : Option (Member C)) → slice_get ms place ≡ o → HaveOwnNames (of_member [] (λ x. names_in x.world.kernel) o)
      by_row None e = λ i j n there other. absurd (none-some n there)
      by_row (Some x) e = h place x e

items_own : (k : Costs) (s : Schedule) (n frame : ℕ) (version : _) (before items : List Item) → EachBeside (IsItem (limits_of version) frame) before items
    → (place : ℕ) (x : Member MachineControl) → slice_get (machine_members k s n items) place ≡ Some x → Own x
items_own k s n frame version before [] each place x e = absurd (none-some x e)
items_own k s n frame version before (i ∷ is) each zero x e =
    let it = each.0 in
    let section = it.section in
    let bodies = section.bodies in
    let rows = i.section.processes in
    subst Own (same_Some (machine_member k (fixed_of s n i.partition) i.partition.ports i.section) x e)
    (records_own (λ (r : ProcessRow). r.name) rows machine_row (λ r. refl) (own_of (λ (r : ProcessRow). r.name) rows (rows_apart i.partition.period [] rows bodies.processes)))
items_own k s n frame version before (i ∷ is) each (suc place) x e = items_own k s (n + 1) frame version (before ++ i ∷ []) is each.1 place x e

pub machine_own : (i : Image) → IsWithinLimits i → (p : ℕ) → HaveOwnNames (names_of (machine_members (costs_of i.version) i.schedule 1 i.items) p)
machine_own i within = members_own (machine_members (costs_of i.version) i.schedule 1 i.items) (items_own (costs_of i.version) i.schedule 1 i.schedule.frame i.version [] i.items within.items)
