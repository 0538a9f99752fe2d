-- The due list keeps its order, and has room.
use Rattle.links.proofs.Prelude.{◌≡◌, ℕ, suc, ◌+◌, ◌<◌, ◌≤◌, Bool, true, false, not, cond, List, [], ◌∷◌, ◌++◌, length, take, drop, get_or, map, ap, ◌∙◌, refl, sym, arith, subst, inl, inr, remove, if◌then◌else◌, nat_tests, cases_eq, take-append-drop, get_or_from_slice_get, slice_get_read, drop-cons, Entry, times_listed, AreBelow, IsListed, length-without, DueEntry, behind_earlier, AreFrom, AreInOrder, AreDueBelow}
use Rattle.std.specs.Prelude.{nat_eq, nat_lt}
use Rattle.kernel_meaning.specs.Queues as entries
use Rattle.links.specs.DueOrder.{without, times_due}

abbrev one_if : Bool → ℕ
one_if b = if b then 1 else 0

test_other : (p q : ℕ) → (p ≡ q → ⊥) → one_if (nat_eq p q) ≡ 0
test_other p q h = grind (arith, nat_tests)

test_same : (p q : ℕ) → p ≡ q → one_if (nat_eq p q) ≡ 1
test_same p q h = grind (arith, nat_tests)

-- ---- room

-- an entry without its tick, like that of a ready process
abbrev listed_as : DueEntry → Entry
listed_as e = record { process = e.process; priority = record { 0 = 0 } }

listed-times : (p : ℕ) (es : List DueEntry) → times_listed p (map listed_as es) ≡ times_due p es
listed-times p [] = refl
listed-times p (e ∷ es) = omega (arith, listed-times p es)

listed-below : (n : ℕ) (es : List DueEntry) → AreDueBelow n es → AreBelow n (map listed_as es)
listed-below n [] h = tt
listed-below n (e ∷ es) h = (h.0, listed-below n es h.1)

listed-length : (p : ℕ) (es : List DueEntry) → length (entries.without p (map listed_as es)) ≡ length (without p es)
listed-length p [] = refl
listed-length p (e ∷ es) =
    elim (nat_eq p e.process.0) as (λ b. length (cond (not b) (listed_as e ∷ entries.without p (map listed_as es)) (entries.without p (map listed_as es))) ≡ length (cond (not b) (e ∷ without p es) (without p es))) [
      | true ↦ listed-length p es
      | false ↦ omega (arith, listed-length p es)
    ]

room-without : (n p : ℕ) (es : List DueEntry) → AreDueBelow n es → ((q : ℕ) → times_due q es ≤ 1) → p < n → length (without p es) < n
room-without n p es below once lt =
    let all : IsListed n (map listed_as es) = record { below = listed-below n es below; once = λ q. omega (arith, listed-times q es, once q) } in
    omega (arith, listed-length p es, length-without n p (map listed_as es) all lt)

-- ---- a process that leaves

without-none : (p : ℕ) (es : List DueEntry) → times_due p (without p es) ≡ 0
without-none p [] = refl
without-none p (e ∷ es) =
    (elim (nat_eq p e.process.0) as (λ b. nat_eq p e.process.0 ≡ b → times_due p (cond (not b) (e ∷ without p es) (without p es)) ≡ 0) [
      | true ↦ λ q. without-none p es
      | false ↦ λ q. rw q (omega (arith, without-none p es))
    ]) refl

pub absent : (p : ℕ) (es old : List DueEntry) → es ≡ without p old → times_due p es ≡ 0
absent p es old is = rw is (without-none p old)

without-absent : (p : ℕ) (es : List DueEntry) → times_due p es ≡ 0 → without p es ≡ es
without-absent p [] h = refl
without-absent p (e ∷ es) h = elim (cases_eq p e.process.0) [
  | inl same ↦
      let one : one_if (nat_eq p e.process.0) ≡ 1 = test_same p e.process.0 same in
      absurd (omega arith)
  | inr differ ↦
      let test : nat_eq p e.process.0 ≡ false = grind (arith, nat_tests) in
      let rest : without p es ≡ es = without-absent p es (omega arith) in
      rw test (cc)
]

-- a list without p has room for it
pub room : (n p : ℕ) (es : List DueEntry) → AreDueBelow n es → ((q : ℕ) → times_due q es ≤ 1) → p < n → times_due p es ≡ 0 → length es < n
room n p es below once lt none =
    subst (λ (l : List DueEntry). length l < n) (without-absent p es none) (room-without n p es below once lt)

times-append : (p : ℕ) (front rest : List DueEntry) → times_due p (front ++ rest) ≡ times_due p front + times_due p rest
times-append p [] rest = omega arith
times-append p (e ∷ es) rest = omega (arith, times-append p es rest)

pub same-process : (es found : List DueEntry) (place p : ℕ) (e d : DueEntry) → place < length es → found ≡ es → e ≡ get_or es place e → (get_or found place d).process.0 ≡ p → e.process.0 ≡ p
same-process es found place p e d lt is at same =
    let this : get_or es place d ≡ e = get_or_from_slice_get es place e d (slice_get_read es (length es) place e refl lt at) in
    let there : get_or found place d ≡ e = rw is this in
    sym (ap (λ (x : DueEntry). x.process.0) there) ∙ same

-- the place of p is found
pub leaves-at : (p place : ℕ) (e : DueEntry) (es : List DueEntry) → place < length es → e ≡ get_or es place e → e.process.0 ≡ p → times_due p es ≤ 1 → without p es ≡ take place es ++ without p (drop place es) → remove es place ≡ without p es
leaves-at p place e es lt is same once before =
    let test : nat_eq p e.process.0 ≡ true = grind (arith, nat_tests) in
    let one : one_if (nat_eq p e.process.0) ≡ 1 = test_same p e.process.0 (sym same) in
    let rest : drop place es ≡ e ∷ drop (suc place) es = drop-cons es place e lt ∙ ap (λ (x : DueEntry). x ∷ drop (suc place) es) (sym is) in
    let whole : es ≡ take place es ++ e ∷ drop (suc place) es = sym (rw rest at (take-append-drop place es)) in
    let count : times_due p es ≡ times_due p (take place es) + times_due p (e ∷ drop (suc place) es) = ap (times_due p) whole ∙ times-append p (take place es) (e ∷ drop (suc place) es) in
    let gone : without p (e ∷ drop (suc place) es) ≡ drop (suc place) es = rw test (without-absent p (drop (suc place) es) (omega arith)) in
    sym (before ∙ ap (λ (l : List DueEntry). take place es ++ l) (ap (without p) rest ∙ gone))

without-le : (p q : ℕ) (es : List DueEntry) → times_due q (without p es) ≤ times_due q es
without-le p q [] = omega arith
without-le p q (e ∷ es) =
    elim (nat_eq p e.process.0) as (λ b. times_due q (cond (not b) (e ∷ without p es) (without p es)) ≤ one_if (nat_eq q e.process.0) + times_due q es) [
      | true ↦ omega (arith, without-le p q es)
      | false ↦ omega (arith, without-le p q es)
    ]

pub once-without : (p : ℕ) (es : List DueEntry) → ((q : ℕ) → times_due q es ≤ 1) → (q : ℕ) → times_due q (without p es) ≤ 1
once-without p es once = λ q. omega (arith, without-le p q es, once q)

pub below-without : (n p : ℕ) (es : List DueEntry) → AreDueBelow n es → AreDueBelow n (without p es)
below-without n p [] h = tt
below-without n p (e ∷ es) h =
    elim (nat_eq p e.process.0) as (λ b. AreDueBelow n (cond (not b) (e ∷ without p es) (without p es))) [
      | true ↦ below-without n p es h.1
      | false ↦ (h.0, below-without n p es h.1)
    ]

from-without : (t p : ℕ) (es : List DueEntry) → AreFrom t es → AreFrom t (without p es)
from-without t p [] h = tt
from-without t p (e ∷ es) h =
    elim (nat_eq p e.process.0) as (λ b. AreFrom t (cond (not b) (e ∷ without p es) (without p es))) [
      | true ↦ from-without t p es h.1
      | false ↦ (h.0, from-without t p es h.1)
    ]

pub order-without : (p : ℕ) (es : List DueEntry) → AreInOrder es → AreInOrder (without p es)
order-without p [] h = tt
order-without p (e ∷ es) h =
    elim (nat_eq p e.process.0) as (λ b. AreInOrder (cond (not b) (e ∷ without p es) (without p es))) [
      | true ↦ order-without p es h.1
      | false ↦ (from-without e.tick.0 p es h.0, order-without p es h.1)
    ]

-- ---- a process that is put after those that are not later

behind-times : (e : DueEntry) (q : ℕ) (es : List DueEntry) → times_due q (behind_earlier e es) ≡ times_due q (e ∷ es)
behind-times e q [] = refl
behind-times e q (x ∷ xs) =
    elim (nat_lt e.tick.0 x.tick.0) as (λ b. times_due q (cond b (e ∷ x ∷ xs) (x ∷ behind_earlier e xs)) ≡ times_due q (e ∷ x ∷ xs)) [
      | true ↦ refl
      | false ↦ omega (arith, behind-times e q xs)
    ]

pub once-behind : (e : DueEntry) (es : List DueEntry) → ((q : ℕ) → times_due q es ≤ 1) → times_due e.process.0 es ≡ 0 → (q : ℕ) → times_due q (behind_earlier e es) ≤ 1
once-behind e es once none = λ q. elim (cases_eq q e.process.0) [
  | inl same ↦
      let one : one_if (nat_eq q e.process.0) ≡ 1 = test_same q e.process.0 same in
      let gone : times_due q es ≡ 0 = subst (λ (k : ℕ). times_due k es ≡ 0) (sym same) none in
      rw (behind-times e q es) (omega arith)
  | inr other ↦
      let no : one_if (nat_eq q e.process.0) ≡ 0 = test_other q e.process.0 other in
      rw (behind-times e q es) (omega (arith, once q))
]

pub behind-below : (n : ℕ) (e : DueEntry) (es : List DueEntry) → e.process.0 < n → AreDueBelow n es → AreDueBelow n (behind_earlier e es)
behind-below n e [] lt h = (lt, tt)
behind-below n e (x ∷ xs) lt h =
    elim (nat_lt e.tick.0 x.tick.0) as (λ b. AreDueBelow n (cond b (e ∷ x ∷ xs) (x ∷ behind_earlier e xs))) [
      | true ↦ (lt, h)
      | false ↦ (h.0, behind-below n e xs lt h.1)
    ]

behind-from : (t : ℕ) (e : DueEntry) (es : List DueEntry) → t ≤ e.tick.0 → AreFrom t es → AreFrom t (behind_earlier e es)
behind-from t e [] le h = (le, tt)
behind-from t e (x ∷ xs) le h =
    elim (nat_lt e.tick.0 x.tick.0) as (λ b. AreFrom t (cond b (e ∷ x ∷ xs) (x ∷ behind_earlier e xs))) [
      | true ↦ (le, h)
      | false ↦ (h.0, behind-from t e xs le h.1)
    ]

from-later : (t u : ℕ) (es : List DueEntry) → t ≤ u → AreFrom u es → AreFrom t es
from-later t u [] le h = tt
from-later t u (e ∷ es) le h = (omega (arith, h.0), from-later t u es le h.1)

pub behind-order : (e : DueEntry) (es : List DueEntry) → AreInOrder es → AreInOrder (behind_earlier e es)
behind-order e [] h = (tt, tt)
behind-order e (x ∷ xs) h =
    (elim (nat_lt e.tick.0 x.tick.0) as (λ b. nat_lt e.tick.0 x.tick.0 ≡ b → AreInOrder (cond b (e ∷ x ∷ xs) (x ∷ behind_earlier e xs))) [
      | true ↦ λ q.
          let le : e.tick.0 ≤ x.tick.0 = grind (arith, nat_tests) in
          ((le, from-later e.tick.0 x.tick.0 xs le h.0), h)
      | false ↦ λ q.
          let le : x.tick.0 ≤ e.tick.0 = grind (arith, nat_tests) in
          (behind-from x.tick.0 e xs le h.0, behind-order e xs h.1)
    ]) refl
