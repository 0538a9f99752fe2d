-- Each process stays only in its home.
use Rattle.links.proofs.Prelude.{◌≡◌, ℕ, zero, suc, ◌+◌, ◌<◌, ◌≤◌, Bool, true, false, not, cond, List, [], ◌∷◌, length, drop, map, refl, sym, ap, ◌∙◌, replicate, arith, subst, inl, inr, get_or, length-set, slice_set, slice_index_or, if◌then◌else◌, nat_tests, cases_lt, cases_eq, get_or_past, get_or-map, ArrayVec, Discipline, ListId, Entry, without, behind_equals, list_in, joined, no_entries, IsInNone, without_in_each, put_in, emptied_each, times_listed, AreBelow, IsListed, length-without, entries_of, once_at, IsHomed}
use Rattle.std.proofs.Common.{get_or-set_other}
use Rattle.std.specs.Prelude.{nat_eq, nat_lt, slice_get, Option, Some, None, IfSome}
use Rattle.std.proofs.lemmas.List.{get_or-replicate, length-replicate, map-set}
use Rattle.std.proofs.lemmas.Grind.{get_or-set_at}
use Rattle.std.proofs.Math.ListN as listn
use Rattle.apex_types.specs.declared.codes.Discipline.TheVariants as discipline

abbrev one_if : Bool → ℕ
one_if b = if b then 1 else 0

test_other : (p q : ℕ) → (p ≡ q → ⊥) → one_if (nat_eq p q) ≡ 0
test_other p q h = grind (arith, nat_tests)

test_same : (p q : ℕ) → p ≡ q → one_if (nat_eq p q) ≡ 1
test_same p q h = grind (arith, nat_tests)

test_le : (p q : ℕ) → one_if (nat_eq p q) ≤ 1
test_le p q = grind (arith, nat_tests)

-- ---- a list of the code

-- a list changed is that entry of all lists changed
pub put-entries : (lists : List (ArrayVec Entry)) (place number : ℕ) (old new : ArrayVec Entry) (next : List Entry → List Entry) → place ≡ number → place < length lists → old ≡ get_or lists place old → new.items ≡ next old.items → map entries_of (slice_set lists place new) ≡ put_in (map entries_of lists) number (next (list_in (map entries_of lists) number))
put-entries lists place number old new next same lt is changed =
    let at : list_in (map entries_of lists) place ≡ old.items = get_or-map entries_of lists place old [] lt ∙ ap entries_of (sym is) in
    rw (← same) (rw (map-set entries_of lists place new, changed, at) refl)

-- ---- no process waits

same-everywhere : {X : Type 0} (n i : ℕ) (x : X) → get_or (replicate n x) i x ≡ x
same-everywhere n i x = elim (cases_lt i n) [
  | inl lt ↦ get_or-replicate n i x x lt
  | inr le ↦ get_or_past (replicate n x) i x (rw length-replicate le)
]

pub IsHomed-new : (n m : ℕ) → IsHomed (replicate n []) (replicate m None)
IsHomed-new n m = λ p k. rw (same-everywhere {X = List Entry} n k [], same-everywhere {X = Option ListId} m p None) refl

pub IsHomed-emptied : (m : ℕ) (lists : List (List Entry)) → IsHomed (emptied_each lists) (replicate m None)
IsHomed-emptied m lists = λ p k. rw (listn.get_or-map no_entries lists k [], same-everywhere {X = Option ListId} m p None) refl

-- ---- a process that leaves a list

without-none : (p : ℕ) (es : List Entry) → times_listed p (without p es) ≡ 0
without-none p [] = refl
without-none p (e ∷ es) =
    (elim (nat_eq p e.process.0) as (λ b. nat_eq p e.process.0 ≡ b → times_listed p (cond (not b) (e ∷ without p es) (without p es)) ≡ 0) [
      | true ↦ λ q. without-none p es
      | false ↦ λ q. rw q (omega (arith, without-none p es))
    ]) refl

without-other : (p q : ℕ) (es : List Entry) → (q ≡ p → ⊥) → times_listed q (without p es) ≡ times_listed q es
without-other p q [] h = refl
without-other p q (e ∷ es) h = elim (cases_eq p e.process.0) [
  | inl same ↦
      let test : nat_eq p e.process.0 ≡ true = grind (arith, nat_tests) in
      let other : (q ≡ e.process.0 → ⊥) = λ r. omega arith in
      let none : one_if (nat_eq q e.process.0) ≡ 0 = test_other q e.process.0 other in
      rw test (omega (arith, without-other p q es h))
  | inr differ ↦
      let test : nat_eq p e.process.0 ≡ false = grind (arith, nat_tests) in
      rw test (omega (arith, without-other p q es h))
]

without-absent : (p : ℕ) (es : List Entry) → times_listed p es ≡ 0 → without p es ≡ es
without-absent p [] h = refl
without-absent p (e ∷ es) h = elim (cases_eq p e.process.0) [
  | inl same ↦
      let one : one_if (nat_eq p e.process.0) ≡ 1 = test_same p e.process.0 same in
      absurd (omega arith)
  | inr differ ↦
      let test : nat_eq p e.process.0 ≡ false = grind (arith, nat_tests) in
      let rest : without p es ≡ es = without-absent p es (omega arith) in
      rw test (cc)
]

-- ---- a process that leaves all lists

list_at-without : (p : ℕ) (lists : List (List Entry)) (k : ℕ) → list_in (without_in_each p lists) k ≡ without p (list_in lists k)
list_at-without p lists k = listn.get_or-map (without p) lists k []

without-nobody : (p : ℕ) (lists : List (List Entry)) → ((j : ℕ) → times_listed p (list_in lists j) ≡ 0) → without_in_each p lists ≡ lists
without-nobody p [] h = refl
without-nobody p (x ∷ xs) h =
    let here : without p x ≡ x = without-absent p x (h 0) in
    let rest : without_in_each p xs ≡ xs = without-nobody p xs (λ j. h (suc j)) in
    cc

-- a process that is in one list only leaves all lists when it leaves that list
without-one : (p k : ℕ) (lists : List (List Entry)) → ((j : ℕ) → (j ≡ k → ⊥) → times_listed p (list_in lists j) ≡ 0) → put_in lists k (without p (list_in lists k)) ≡ without_in_each p lists
without-one p zero [] h = refl
without-one p (suc k) [] h = refl
without-one p zero (x ∷ xs) h =
    let rest : without_in_each p xs ≡ xs = without-nobody p xs (λ j. h (suc j) (λ q. omega arith)) in
    cc
without-one p (suc k) (x ∷ xs) h =
    let here : without p x ≡ x = without-absent p x (h 0 (λ q. omega arith)) in
    let rest : put_in xs k (without p (list_in xs k)) ≡ without_in_each p xs = without-one p k xs (λ j ne. h (suc j) (λ q. ne (omega arith))) in
    cc

pub leaves-home : (p : ℕ) (home : ListId) (lists : List (List Entry)) (homes : List (Option ListId)) → IsHomed lists homes → slice_index_or homes p None ≡ Some home → put_in lists home.0 (without p (list_in lists home.0)) ≡ without_in_each p lists
leaves-home p home lists homes h is =
    without-one p home.0 lists (λ j ne.
    let back : (home.0 ≡ j → ⊥) = λ q. ne (sym q) in
    let none : once_at (Some home) j ≡ 0 = test_other home.0 j back in
    let found : times_listed p (list_in lists j) ≡ once_at (Some home) j = rw is at (h p j) in
    omega arith)

pub leaves-none : (p : ℕ) (lists : List (List Entry)) (homes : List (Option ListId)) → IsHomed lists homes → slice_index_or homes p None ≡ None → without_in_each p lists ≡ lists
leaves-none p lists homes h is = without-nobody p lists (λ j. rw is at (h p j))

set-none : (homes : List (Option ListId)) (p q : ℕ) → q ≡ p → slice_index_or (slice_set homes p None) q None ≡ None
set-none homes p q same = elim (cases_lt p (length homes)) [
  | inl lt ↦ get_or-set_at homes p q None None same lt
  | inr le ↦ get_or_past (slice_set homes p None) q None (rw length-set (omega arith))
]

pub IsHomed-leaves : (p : ℕ) (lists : List (List Entry)) (homes : List (Option ListId)) → IsHomed lists homes → IsHomed (without_in_each p lists) (slice_set homes p None)
IsHomed-leaves p lists homes h = λ q k. elim (cases_eq q p) [
  | inl same ↦
      let home : slice_index_or (slice_set homes p None) q None ≡ None = set-none homes p q same in
      let gone : times_listed q (without p (list_in lists k)) ≡ 0 = subst (λ (r : ℕ). times_listed r (without p (list_in lists k)) ≡ 0) (sym same) (without-none p (list_in lists k)) in
      rw (list_at-without p lists k, home) gone
  | inr other ↦
      let home : slice_index_or (slice_set homes p None) q None ≡ slice_index_or homes q None = get_or-set_other homes p q None None other in
      let stays : times_listed q (without p (list_in lists k)) ≡ times_listed q (list_in lists k) = without-other p q (list_in lists k) other in
      rw (list_at-without p lists k, home, stays) (h q k)
]

pub absent : (p : ℕ) (lists old : List (List Entry)) → lists ≡ without_in_each p old → IsInNone p lists
absent p lists old is j = rw (is, list_at-without p old j) (without-none p (list_in old j))

-- ---- each list has room

once-le : (home : Option ListId) (k : ℕ) → once_at home k ≤ 1
once-le None k = omega arith
once-le (Some home) k = test_le home.0 k

below : (n : ℕ) (es : List Entry) → ((p : ℕ) → n ≤ p → times_listed p es ≡ 0) → AreBelow n es
below n [] h = tt
below n (e ∷ es) h = (
  elim (cases_lt e.process.0 n) [
    | inl lt ↦ lt
    | inr le ↦
        let one : one_if (nat_eq e.process.0 e.process.0) ≡ 1 = test_same e.process.0 e.process.0 refl in
        absurd (omega (arith, h e.process.0 le))
  ],
  below n es (λ p le. omega (arith, h p le)),
)

listed : (n : ℕ) (lists : List (List Entry)) (homes : List (Option ListId)) → length homes ≡ n → IsHomed lists homes → (k : ℕ) → IsListed n (list_in lists k)
listed n lists homes full h k = record {
  below = below n (list_in lists k) (λ p le. rw (get_or_past homes p None (omega arith)) at (h p k));
  once = λ p. omega (arith, h p k, once-le (slice_index_or homes p None) k);
}

pub room : (n p : ℕ) (lists : List (List Entry)) (homes : List (Option ListId)) → length homes ≡ n → IsHomed lists homes → p < n → (k : ℕ) → times_listed p (list_in lists k) ≡ 0 → length (list_in lists k) < n
room n p lists homes full h lt k none =
    subst (λ (es : List Entry). length es < n) (without-absent p (list_in lists k) none) (length-without n p (list_in lists k) (listed n lists homes full h k) lt)

first-below : (n : ℕ) (es : List Entry) → AreBelow n es → IfSome (slice_get es 0) (λ e. e.process.0 < n)
first-below n [] h = tt
first-below n (e ∷ es) h = h.0

pub first_below : (n : ℕ) (lists : List (List Entry)) (homes : List (Option ListId)) → length homes ≡ n → IsHomed lists homes → (k : ℕ) → IfSome (slice_get (list_in lists k) 0) (λ e. e.process.0 < n)
first_below n lists homes full h k = first-below n (list_in lists k) (listed n lists homes full h k).below

-- ---- a process that joins a list

behind-times : (e : Entry) (q : ℕ) (es : List Entry) → times_listed q (behind_equals e es) ≡ times_listed q (e ∷ es)
behind-times e q [] = refl
behind-times e q (x ∷ xs) =
    elim (nat_lt x.priority.0 e.priority.0) as (λ b. times_listed q (cond b (e ∷ x ∷ xs) (x ∷ behind_equals e xs)) ≡ times_listed q (e ∷ x ∷ xs)) [
      | true ↦ refl
      | false ↦ omega (arith, behind-times e q xs)
    ]

last-times : (e : Entry) (q : ℕ) (es : List Entry) → times_listed q (joined discipline.Fifo e es) ≡ times_listed q (e ∷ es)
last-times e q [] = refl
last-times e q (x ∷ xs) = omega (arith, last-times e q xs)

joined-times : (d : Discipline) (e : Entry) (q : ℕ) (es : List Entry) → times_listed q (joined d e es) ≡ times_listed q (e ∷ es)
joined-times discipline.Fifo e q es = last-times e q es
joined-times discipline.Priority e q es = behind-times e q es

pub IsHomed-joins : (d : Discipline) (e : Entry) (home : ListId) (lists : List (List Entry)) (homes : List (Option ListId)) → IsHomed lists homes → home.0 < length lists → e.process.0 < length homes → IsInNone e.process.0 lists → IsHomed (put_in lists home.0 (joined d e (list_in lists home.0))) (slice_set homes e.process.0 (Some home))
IsHomed-joins d e home lists homes h there within none = λ q j.
    let es = list_in lists home.0 in
    let next = joined d e (list_in lists home.0) in
    elim (cases_eq j home.0) [
      | inl here ↦
          let list : list_in (put_in lists home.0 next) j ≡ next = get_or-set_at lists home.0 j next [] here there in
          let times : times_listed q next ≡ one_if (nat_eq q e.process.0) + times_listed q es = joined-times d e q es in
          elim (cases_eq q e.process.0) [
            | inl same ↦
                let at : slice_index_or (slice_set homes e.process.0 (Some home)) q None ≡ Some home = get_or-set_at homes e.process.0 q (Some home) None same within in
                let one : one_if (nat_eq q e.process.0) ≡ 1 = test_same q e.process.0 same in
                let once : one_if (nat_eq home.0 j) ≡ 1 = test_same home.0 j (sym here) in
                let zero_here : times_listed q es ≡ 0 = subst (λ (r : ℕ). times_listed r es ≡ 0) (sym same) (none home.0) in
                rw (list, at) (omega arith)
            | inr other ↦
                let at : slice_index_or (slice_set homes e.process.0 (Some home)) q None ≡ slice_index_or homes q None = get_or-set_other homes e.process.0 q (Some home) None other in
                let no : one_if (nat_eq q e.process.0) ≡ 0 = test_other q e.process.0 other in
                let as_before : times_listed q es ≡ once_at (slice_index_or homes q None) j = subst (λ (r : ℕ). times_listed q es ≡ once_at (slice_index_or homes q None) r) (sym here) (h q home.0) in
                rw (list, at) (omega arith)
          ]
      | inr elsewhere ↦
          let list : list_in (put_in lists home.0 next) j ≡ list_in lists j = get_or-set_other lists home.0 j next [] elsewhere in
          elim (cases_eq q e.process.0) [
            | inl same ↦
                let at : slice_index_or (slice_set homes e.process.0 (Some home)) q None ≡ Some home = get_or-set_at homes e.process.0 q (Some home) None same within in
                let back : (home.0 ≡ j → ⊥) = λ r. elsewhere (sym r) in
                let no : one_if (nat_eq home.0 j) ≡ 0 = test_other home.0 j back in
                let zero_here : times_listed q (list_in lists j) ≡ 0 = subst (λ (r : ℕ). times_listed r (list_in lists j) ≡ 0) (sym same) (none j) in
                rw (list, at) (omega arith)
            | inr other ↦
                let at : slice_index_or (slice_set homes e.process.0 (Some home)) q None ≡ slice_index_or homes q None = get_or-set_other homes e.process.0 q (Some home) None other in
                rw (list, at) (h q j)
          ]
    ]

-- ---- the first of a list is released

once-elsewhere : (home : Option ListId) (k j : ℕ) → once_at home k ≡ 1 → (j ≡ k → ⊥) → once_at home j ≡ 0
once-elsewhere None k j one ne = refl
once-elsewhere (Some home) k j one ne = elim (cases_eq home.0 k) [
  | inl same ↦
      let other : (home.0 ≡ j → ⊥) = λ q. ne (omega arith) in
      test_other home.0 j other
  | inr differ ↦
      let none : one_if (nat_eq home.0 k) ≡ 0 = test_other home.0 k differ in
      absurd (omega arith)
]

record IsFirst (e : Entry) (es : List Entry) : Type 0 where
  one : times_listed e.process.0 es ≡ 1
  rest : without e.process.0 es ≡ drop 1 es

first-leaves : (e : Entry) (es : List Entry) → slice_get es 0 ≡ Some e → times_listed e.process.0 es ≤ 1 → IsFirst e es
first-leaves e [] is h = absurd (cc)
first-leaves e (x ∷ xs) is h =
    let same : x ≡ e = cc in
    let test : nat_eq e.process.0 x.process.0 ≡ true = rw same (grind (arith, nat_tests)) in
    let one : one_if (nat_eq e.process.0 x.process.0) ≡ 1 = rw test refl in
    let gone : times_listed e.process.0 xs ≡ 0 = omega arith in
    record { one = omega arith; rest = rw test (without-absent e.process.0 xs gone) }

pops : (k : ℕ) (e : Entry) (lists : List (List Entry)) (homes : List (Option ListId)) → IsHomed lists homes → slice_get (list_in lists k) 0 ≡ Some e → without_in_each e.process.0 lists ≡ put_in lists k (drop 1 (list_in lists k))
pops k e lists homes h is =
    let first = first-leaves e (list_in lists k) is (omega (arith, h e.process.0 k, once-le (slice_index_or homes e.process.0 None) k)) in
    let one : once_at (slice_index_or homes e.process.0 None) k ≡ 1 = omega (arith, h e.process.0 k, first.one) in
    let alone = without-one e.process.0 k lists (λ j ne. omega (arith, h e.process.0 j, once-elsewhere (slice_index_or homes e.process.0 None) k j one ne)) in
    sym (rw first.rest at alone)

pub pops-seen : (k : ℕ) (e : Entry) (lists seen : List (List Entry)) (homes : List (Option ListId)) → lists ≡ seen → IsHomed lists homes → slice_get (list_in lists k) 0 ≡ Some e → without_in_each e.process.0 seen ≡ put_in seen k (drop 1 (list_in seen k))
pops-seen k e lists seen homes same h is =
    subst (λ (ls : List (List Entry)). without_in_each e.process.0 ls ≡ put_in ls k (drop 1 (list_in ls k))) same (pops k e lists homes h is)
