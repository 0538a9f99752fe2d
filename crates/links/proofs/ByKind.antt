-- The waiting lists by their keys, among the lists with numbers.
use Rattle.links.proofs.Prelude.{◌*◌, ◌≡◌, ◌∙◌, ◌⊎◌, inl, inr, ℕ, ◌+◌, ◌-◌, ◌<◌, ◌≤◌, true, false, List, [], length, map, refl, sym, ap, arith, slice_set, nat_tests, cases_lt, get_or_past, length-map, Discipline, Entry, without, list_in, joined, put_in, without_in_each}
use Rattle.std.specs.Prelude.{nat_lt, take, drop}
use Rattle.std.proofs.lemmas.List.{take-map, drop-map, get_or-take, get_or-drop, drop-set-lt, drop-set-add, take-set-le, set_past, length-take}
use Rattle.std.proofs.Math.Seq.{take-set-lt}
use Rattle.apex_types.specs.declared.limits.TheConstants.{MOST_OBJECTS}
use Rattle.apex_types.specs.declared.identity.ListKey.{ListKey}
use Rattle.apex_types.specs.declared.identity.ListKey.TheVariants as key
use Rattle.kernel_meaning.specs.Queues.{Queues, list_at, put_list, each_list, without_in_all, joins}
use Rattle.links.specs.ByKind.{lists_from, by_kind, number_from, number_of}
use Rattle.links.specs.Lists.{moves_to}

same_queues : {a b c d e a' b' c' d' e' : List (List Entry)} → a ≡ a' → b ≡ b' → c ≡ c' → d ≡ d' → e ≡ e' → ◌≡◌ {A = Queues} (record { semaphores = a; events = b; buffers = c; blackboards = d; ports = e }) (record { semaphores = a'; events = b'; buffers = c'; blackboards = d'; ports = e' })
same_queues p q r s t = rw (p, q, r, s, t) refl

-- ---- the number of a list

number_there : (first place : ℕ) → place < MOST_OBJECTS → number_from first place ≡ first + place
number_there first place lt =
    let test : nat_lt place MOST_OBJECTS ≡ true = grind (arith, nat_tests) in
    rw test refl

number_past : (first place : ℕ) → MOST_OBJECTS ≤ place → number_from first place ≡ (5 * MOST_OBJECTS)
number_past first place le =
    let test : nat_lt place MOST_OBJECTS ≡ false = grind (arith, nat_tests) in
    rw test refl

few_from : (first : ℕ) (lists : List (List Entry)) → length (lists_from first lists) ≤ MOST_OBJECTS
few_from first lists = omega (arith, length-take MOST_OBJECTS (drop first lists))

-- ---- a list

list_from : (first place : ℕ) (lists : List (List Entry)) → length lists ≡ (5 * MOST_OBJECTS) → list_in lists (number_from first place) ≡ list_in (lists_from first lists) place
list_from first place lists whole = elim (cases_lt place MOST_OBJECTS) [
  | inl lt ↦
      let number = number_there first place lt in
      rw number (sym (get_or-take MOST_OBJECTS (drop first lists) place [] lt ∙ get_or-drop first lists place []))
  | inr le ↦
      let number = number_past first place le in
      let none : list_in (lists_from first lists) place ≡ [] = get_or_past (lists_from first lists) place [] (omega (arith, few_from first lists)) in
      rw (number, none) (get_or_past lists (5 * MOST_OBJECTS) [] (omega arith))
]

pub list_of_key : (k : ListKey) (lists : List (List Entry)) → length lists ≡ (5 * MOST_OBJECTS) → list_in lists (number_of k) ≡ list_at (by_kind lists) k
list_of_key (key.Semaphore place) lists whole = list_from 0 place lists whole
list_of_key (key.Event place) lists whole = list_from MOST_OBJECTS place lists whole
list_of_key (key.Buffer place) lists whole = list_from (2 * MOST_OBJECTS) place lists whole
list_of_key (key.Blackboard place) lists whole = list_from (3 * MOST_OBJECTS) place lists whole
list_of_key (key.Port place) lists whole = list_from (4 * MOST_OBJECTS) place lists whole

-- ---- another list in its place

put_same : (first place : ℕ) (list : List Entry) (lists : List (List Entry)) → length lists ≡ (5 * MOST_OBJECTS) → lists_from first (put_in lists (number_from first place) list) ≡ slice_set (lists_from first lists) place list
put_same first place list lists whole = elim (cases_lt place MOST_OBJECTS) [
  | inl lt ↦
      let number = number_there first place lt in
      rw number (ap (take MOST_OBJECTS) (drop-set-add first lists place list) ∙ take-set-lt MOST_OBJECTS (drop first lists) place list lt)
  | inr le ↦
      let number = number_past first place le in
      let none : slice_set (lists_from first lists) place list ≡ lists_from first lists = set_past (lists_from first lists) place list (omega (arith, few_from first lists)) in
      let stays : slice_set lists (5 * MOST_OBJECTS) list ≡ lists = set_past lists (5 * MOST_OBJECTS) list (omega arith) in
      rw (number, none, stays) refl
]

put_before : (first number : ℕ) (list : List Entry) (lists : List (List Entry)) → number < first → lists_from first (put_in lists number list) ≡ lists_from first lists
put_before first number list lists lt = ap (take MOST_OBJECTS) (drop-set-lt first lists number list lt)

put_behind : (first place : ℕ) (list : List Entry) (lists : List (List Entry)) → MOST_OBJECTS ≤ place → lists_from first (put_in lists (first + place) list) ≡ lists_from first lists
put_behind first place list lists le = ap (take MOST_OBJECTS) (drop-set-add first lists place list) ∙ take-set-le MOST_OBJECTS (drop first lists) place list le

put_other : (first base place : ℕ) (list : List Entry) (lists : List (List Entry)) → length lists ≡ (5 * MOST_OBJECTS) → (base + MOST_OBJECTS ≤ first) ⊎ (first + MOST_OBJECTS ≤ base) → lists_from first (put_in lists (number_from base place) list) ≡ lists_from first lists
put_other first base place list lists whole apart = elim (cases_lt place MOST_OBJECTS) [
  | inl lt ↦
      let number = number_there base place lt in
      elim apart [
        | inl before ↦ rw number (put_before first (base + place) list lists (omega arith))
        | inr behind ↦
            let there : base + place ≡ first + (base + place - first) = omega arith in
            rw (number, there) (put_behind first (base + place - first) list lists (omega arith))
      ]
  | inr le ↦
      let number = number_past base place le in
      let stays : slice_set lists (5 * MOST_OBJECTS) list ≡ lists = set_past lists (5 * MOST_OBJECTS) list (omega arith) in
      rw (number, stays) refl
]

before : (first base place : ℕ) (list : List Entry) (lists : List (List Entry)) → length lists ≡ (5 * MOST_OBJECTS) → base + MOST_OBJECTS ≤ first → lists_from first (put_in lists (number_from base place) list) ≡ lists_from first lists
before first base place list lists whole le = put_other first base place list lists whole (inl le)

behind : (first base place : ℕ) (list : List Entry) (lists : List (List Entry)) → length lists ≡ (5 * MOST_OBJECTS) → first + MOST_OBJECTS ≤ base → lists_from first (put_in lists (number_from base place) list) ≡ lists_from first lists
behind first base place list lists whole le = put_other first base place list lists whole (inr le)

put_key : (k : ListKey) (list : List Entry) (lists : List (List Entry)) → length lists ≡ (5 * MOST_OBJECTS) → by_kind (put_in lists (number_of k) list) ≡ put_list (by_kind lists) k list
put_key (key.Semaphore p) x ls w = same_queues (put_same 0 p x ls w) (before MOST_OBJECTS 0 p x ls w (omega arith)) (before (2 * MOST_OBJECTS) 0 p x ls w (omega arith)) (before (3 * MOST_OBJECTS) 0 p x ls w (omega arith)) (before (4 * MOST_OBJECTS) 0 p x ls w (omega arith))
put_key (key.Event p) x ls w = same_queues (behind 0 MOST_OBJECTS p x ls w (omega arith)) (put_same MOST_OBJECTS p x ls w) (before (2 * MOST_OBJECTS) MOST_OBJECTS p x ls w (omega arith)) (before (3 * MOST_OBJECTS) MOST_OBJECTS p x ls w (omega arith)) (before (4 * MOST_OBJECTS) MOST_OBJECTS p x ls w (omega arith))
put_key (key.Buffer p) x ls w = same_queues (behind 0 (2 * MOST_OBJECTS) p x ls w (omega arith)) (behind MOST_OBJECTS (2 * MOST_OBJECTS) p x ls w (omega arith)) (put_same (2 * MOST_OBJECTS) p x ls w) (before (3 * MOST_OBJECTS) (2 * MOST_OBJECTS) p x ls w (omega arith)) (before (4 * MOST_OBJECTS) (2 * MOST_OBJECTS) p x ls w (omega arith))
put_key (key.Blackboard p) x ls w = same_queues (behind 0 (3 * MOST_OBJECTS) p x ls w (omega arith)) (behind MOST_OBJECTS (3 * MOST_OBJECTS) p x ls w (omega arith)) (behind (2 * MOST_OBJECTS) (3 * MOST_OBJECTS) p x ls w (omega arith)) (put_same (3 * MOST_OBJECTS) p x ls w) (before (4 * MOST_OBJECTS) (3 * MOST_OBJECTS) p x ls w (omega arith))
put_key (key.Port p) x ls w = same_queues (behind 0 (4 * MOST_OBJECTS) p x ls w (omega arith)) (behind MOST_OBJECTS (4 * MOST_OBJECTS) p x ls w (omega arith)) (behind (2 * MOST_OBJECTS) (4 * MOST_OBJECTS) p x ls w (omega arith)) (behind (3 * MOST_OBJECTS) (4 * MOST_OBJECTS) p x ls w (omega arith)) (put_same (4 * MOST_OBJECTS) p x ls w)

-- ---- each list changed

each_from : (first : ℕ) (change : List Entry → List Entry) (lists : List (List Entry)) → lists_from first (map change lists) ≡ map change (lists_from first lists)
each_from first change lists = ap (take MOST_OBJECTS) (drop-map change first lists) ∙ take-map change MOST_OBJECTS (drop first lists)

pub each_key : (change : List Entry → List Entry) (lists : List (List Entry)) → by_kind (map change lists) ≡ each_list change (by_kind lists)
each_key change lists = same_queues (each_from 0 change lists) (each_from MOST_OBJECTS change lists) (each_from (2 * MOST_OBJECTS) change lists) (each_from (3 * MOST_OBJECTS) change lists) (each_from (4 * MOST_OBJECTS) change lists)

-- ---- a process that joins a list

pub joins_key : (k : ListKey) (d : Discipline) (e : Entry) (lists : List (List Entry)) → length lists ≡ (5 * MOST_OBJECTS) → by_kind (moves_to (number_of k) d e lists) ≡ joins k d e (by_kind lists)
joins_key k d e lists whole =
    let left = without_in_each e.process.0 lists in
    let full : length left ≡ (5 * MOST_OBJECTS) = length-map lists (without e.process.0) ∙ whole in
    let list : list_in left (number_of k) ≡ list_at (by_kind left) k = list_of_key k left full in
    let others : by_kind left ≡ without_in_all e.process.0 (by_kind lists) = each_key (without e.process.0) lists in
    put_key k (joined d e (list_in left (number_of k))) left full ∙ rw (list, others) refl
