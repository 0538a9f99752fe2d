-- The notes of the last elements of arrays stay true while entries are added.
use Rattle.std.proofs.Common.{◌≡◌, ℕ, zero, suc, ◌+◌, ◌&&◌, Bool, true, false, if◌then◌else◌, cond, subst, List, [], ◌∷◌, ◌++◌, length, refl, sym, ap, ◌∙◌, arith, inl, inr}
use Rattle.std.specs.Prelude.{Option, Some, None, slice_get}
use Rattle.std.specs.Str.{bytes_eq}
use Rattle.std.proofs.lemmas.Bool.{cases_Bool}
use Rattle.std.proofs.lemmas.Option.{same_Some}
use Rattle.std.proofs.lemmas.Bool.Decides.{Decides-eqb}
use Rattle.std.proofs.lemmas.Slice.Eq.{bytes_eq-Decides}
use Rattle.finding_lines.specs.Entries.{Step, key, element, Path, Entry, elements_at, is_one_element, is_same_step, leads_to_element, longer, with_key}
use Rattle.finding_lines.specs.FoundView.{IsNoted, is_of_element}
use Rattle.finding_lines.specs.Noted.{path_text}
use Rattle.finding_lines.specs.Views.{entries_of, entry_of, owned_path}
use Rattle.finding_lines.specs.declared.found.Last.{Last}
use Rattle.finding_lines.specs.declared.path.Entry as code
use Rattle.finding_lines.specs.declared.path.OwnedStep.{OwnedStep}

-- ---- the array of an element

both : (a b : Bool) → (a && b) ≡ true → (a ≡ true) × (b ≡ true)
both true b h = (refl, h)
both false b h = absurd cc

same_step : (s t : Step) → is_same_step s t ≡ true → s ≡ t
same_step (key k) (key l) h = ap key ((bytes_eq-Decides k l).0 h)
same_step (key k) (element j) h = absurd cc
same_step (element i) (key l) h = absurd cc
same_step (element i) (element j) h = ap element ((Decides-eqb i j).0 h)

no_end : (s : Step) (array : Path) (i : ℕ) → is_one_element (s ∷ longer array i) ≡ false
no_end (key k) array i = refl
no_end (element j) [] i = refl
no_end (element j) (t ∷ array) i = refl

never_empty : (path : Path) → leads_to_element path [] ≡ false
never_empty [] = refl
never_empty (s ∷ path) = refl

pub of_array : (path array : Path) (i : ℕ) → leads_to_element path (longer array i) ≡ true → path ≡ array
of_array [] [] i h = refl
of_array [] (t ∷ array) i h = let k : true ≡ false = sym h ∙ no_end t array i in absurd cc
of_array (s ∷ path) [] i h =
    let b = both (is_same_step s (element i)) (leads_to_element path []) h in
    let k : true ≡ false = sym b.1 ∙ never_empty path in
    absurd cc
of_array (s ∷ path) (t ∷ array) i h =
    let b = both (is_same_step s t) (leads_to_element path (longer array i)) h in
    let first : s ≡ t = same_step s t b.0 in
    let rest : path ≡ array = of_array path array i b.1 in
    ap (λ (x : Step). x ∷ path) first ∙ ap (λ (p : Path). t ∷ p) rest

key_alone : (path : Path) (k : List ℕ) → leads_to_element path (key k ∷ []) ≡ false
key_alone [] k = refl
key_alone (s ∷ path) k = elim (cases_Bool (is_same_step s (key k))) [
  | inl t ↦ ap (λ (b : Bool). b && leads_to_element path []) t ∙ never_empty path
  | inr f ↦ ap (λ (b : Bool). b && leads_to_element path []) f
]

no_key_end : (s : Step) (table : Path) (k : List ℕ) → is_one_element (s ∷ with_key table k) ≡ false
no_key_end (key l) table k = refl
no_key_end (element j) [] k = refl
no_key_end (element j) (t ∷ table) k = refl

-- a path that ends with a key is that of no element
pub of_no_array : (path table : Path) (k : List ℕ) → leads_to_element path (with_key table k) ≡ false
of_no_array path [] k = key_alone path k
of_no_array [] (t ∷ table) k = no_key_end t table k
of_no_array (s ∷ path) (t ∷ table) k = elim (cases_Bool (is_same_step s t)) [
  | inl h ↦ ap (λ (b : Bool). b && leads_to_element path (with_key table k)) h ∙ of_no_array path table k
  | inr h ↦ ap (λ (b : Bool). b && leads_to_element path (with_key table k)) h
]

-- ---- one more entry

abbrev one_if : Bool → ℕ
one_if b = if b then 1 else 0

more_elements : (path : Path) (found : List Entry) (e : Entry) → elements_at path (found ++ e ∷ []) ≡ elements_at path found + one_if (leads_to_element path e.path)
more_elements path [] e = omega arith
more_elements path (x ∷ found) e =
    let rest : elements_at path (found ++ e ∷ []) ≡ elements_at path found + one_if (leads_to_element path e.path) = more_elements path found e in
    omega (arith, rest)

as_many : (path : Path) (found : List Entry) (e : Entry) → leads_to_element path e.path ≡ false → elements_at path (found ++ e ∷ []) ≡ elements_at path found
as_many path found e other =
    let none : one_if (leads_to_element path e.path) ≡ 0 = ap one_if other in
    let more = more_elements path found e in
    omega (arith, none, more)

-- the entry at a place was there before, unless it is the new one
at_place : (path : Path) (found : List Entry) (e : Entry) (place : ℕ) → leads_to_element path e.path ≡ false → is_of_element path (slice_get (found ++ e ∷ []) place) ≡ true → is_of_element path (slice_get found place) ≡ true
at_place path [] e zero other h = let k : true ≡ false = sym h ∙ other in absurd cc
at_place path [] e (suc place) other h = absurd cc
at_place path (x ∷ found) e zero other h = h
at_place path (x ∷ found) e (suc place) other h = at_place path found e place other h

-- the new entry is that of no element of the array
pub still_noted : (path : Path) (found : List Entry) (e : Entry) (o : Option Last) → leads_to_element path e.path ≡ false → IsNoted path found o → IsNoted path (found ++ e ∷ []) o
still_noted path found e None other h = as_many path found e other ∙ h
still_noted path found e (Some l) other h = λ here. as_many path found e other ∙ h (at_place path found e l.place other here)

last_place : (path : Path) (found : List Entry) (e : Entry) → is_of_element path (slice_get (found ++ e ∷ []) (length found)) ≡ leads_to_element path e.path
last_place path [] e = refl
last_place path (x ∷ found) e = last_place path found e

-- it is that of the last element
pub noted_last : (path array : Path) (found : List Entry) (e : Entry) (i : ℕ) (l : Last) → e.path ≡ longer array i → l.place ≡ length found → l.elements ≡ elements_at array found + 1 → IsNoted path (found ++ e ∷ []) (Some l)
noted_last path array found e i l is place count = λ here.
    let there : leads_to_element path e.path ≡ true = sym (last_place path found e) ∙ ap (λ (n : ℕ). is_of_element path (slice_get (found ++ e ∷ []) n)) (sym place) ∙ here in
    let same : path ≡ array = of_array path array i (ap (leads_to_element path) (sym is) ∙ there) in
    let one : one_if (leads_to_element path e.path) ≡ 1 = ap one_if there in
    let before : elements_at path found ≡ elements_at array found = ap (λ (p : Path). elements_at p found) same in
    let more = more_elements path found e in
    omega (arith, one, before, more, count)

-- a path of another text is that of another array
apart : (path array : Path) (e : Entry) (i : ℕ) → e.path ≡ longer array i → bytes_eq (path_text array) (path_text path) ≡ false → leads_to_element path e.path ≡ false
apart path array e i is other = elim (cases_Bool (leads_to_element path e.path)) [
  | inl there ↦
      let same : path ≡ array = of_array path array i (ap (leads_to_element path) (sym is) ∙ there) in
      let equal : bytes_eq (path_text array) (path_text path) ≡ true = (bytes_eq-Decides (path_text array) (path_text path)).1 (ap path_text (sym same)) in
      let k : true ≡ false = sym equal ∙ other in
      absurd cc
  | inr away ↦ away
]

-- the note of an array, with its new element
pub noted_with : (path array : Path) (found : List Entry) (e : Entry) (i : ℕ) (l : Last) (o : Option Last) (text : List ℕ) → text ≡ path_text array → e.path ≡ longer array i → l.place ≡ length found → l.elements ≡ elements_at array found + 1
    → IsNoted path found o → IsNoted path (found ++ e ∷ []) (cond (bytes_eq text (path_text path)) (Some l) o)
noted_with path array found e i l o text named is place count h = elim (cases_Bool (bytes_eq text (path_text path))) [
  | inl same ↦ subst (λ (b : Bool). IsNoted path (found ++ e ∷ []) (cond b (Some l) o)) (sym same) (noted_last path array found e i l is place count)
  | inr other ↦
      subst (λ (b : Bool). IsNoted path (found ++ e ∷ []) (cond b (Some l) o)) (sym other)
      (still_noted path found e o (apart path array e i is (ap (λ (t : List ℕ). bytes_eq t (path_text path)) (sym named) ∙ other)) h)
]

-- ---- as the code meets them

pub none_noted : (path : Path) (found : List Entry) (o : Option Last) → o ≡ None → IsNoted path found o → 0 ≡ elements_at path found
none_noted path found None e h = sym h
none_noted path found (Some l) e h = absurd cc

pub some_noted : (path : Path) (found : List Entry) (o : Option Last) (l : Last) (e : Entry) → o ≡ Some l → slice_get found l.place ≡ Some e → leads_to_element path e.path ≡ true → IsNoted path found o → l.elements ≡ elements_at path found
some_noted path found None l e is there leads h = absurd cc
some_noted path found (Some k) l e is there leads h =
    let same : k ≡ l = same_Some k l is in
    let here : is_of_element path (slice_get found k.place) ≡ true = ap (λ (m : Last). is_of_element path (slice_get found m.place)) same ∙ ap (is_of_element path) there ∙ leads in
    ap (λ (m : Last). m.elements) (sym same) ∙ sym (h here)

pub entry_at : (es : List code.Entry) (place : ℕ) (e : code.Entry) → slice_get es place ≡ Some e → slice_get (entries_of es) place ≡ Some (entry_of e)
entry_at [] place e h = absurd cc
entry_at (x ∷ es) zero e h = ap (λ (y : code.Entry). Some (entry_of y)) (same_Some x e h)
entry_at (x ∷ es) (suc place) e h = entry_at es place e h

pub no_steps : (steps : List OwnedStep) (array : Path) → length steps ≡ 0 → leads_to_element array (owned_path steps) ≡ false
no_steps [] array h = never_empty array
no_steps (s ∷ steps) array h = absurd (omega (arith, h))
