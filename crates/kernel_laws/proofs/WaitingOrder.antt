-- Each waiting list has the order of its numbers.
use Rattle.kernel_laws.proofs.Prelude.{◌≡◌, ◌⊎◌, ◌↔◌, inl, inr, ℕ, zero, suc, ◌+◌, ◌<◌, nat_eq, cond, true, false, List, ◌∷◌, ◌++◌, map, Some, refl, sym, subst, arith, none-some, same_Some, Discipline, ListKey, Entry, IsAmong, IsBeforeEach, AreNumbersBelow, takes, Queues, list_in, list_at, joins, emptied, IsQueue, AreQueues, IsReleasedFirst}
use Rattle.std.proofs.Common.{not, [], slice_get, slice_set, ap}
use Rattle.apex_types.specs.declared.codes.Discipline.TheVariants as discipline
use Rattle.apex_types.specs.declared.identity.ListKey.TheVariants as key
use Rattle.kernel_laws.specs.Choice.{IsOrdered}
use Rattle.kernel_meaning.specs.Queues.{without, behind_equals}
use Rattle.kernel_meaning.specs.Queues.{each_list, without_in_all, put_list, joined, no_entries}
use Rattle.kernel_laws.specs.WaitingOrder.{IsBeforeUnder, IsBeforeEachUnder, IsOrderedUnder}
use Rattle.kernel_laws.proofs.Choosing.{AreOthers, below_without, others_without, same_number, own_number, before_other, below_takes, ordered_behind, below_behind, not_both}

-- ---- a process leaves

each_without : (d : Discipline) (number : ℕ → ℕ) (p : ℕ) (e : Entry) (es : List Entry) → IsBeforeEachUnder d number e es → IsBeforeEachUnder d number e (without p es)
each_without d number p e [] h = tt
each_without d number p e (x ∷ xs) h =
    elim (nat_eq p x.process.0) as (λ b. IsBeforeEachUnder d number e (cond (not b) (x ∷ without p xs) (without p xs))) [
      | true ↦ each_without d number p e xs h.1
      | false ↦ (h.0, each_without d number p e xs h.1)
    ]

ordered_without : (d : Discipline) (number : ℕ → ℕ) (p : ℕ) (es : List Entry) → IsOrderedUnder d number es → IsOrderedUnder d number (without p es)
ordered_without d number p [] h = tt
ordered_without d number p (x ∷ xs) h =
    elim (nat_eq p x.process.0) as (λ b. IsOrderedUnder d number (cond (not b) (x ∷ without p xs) (without p xs))) [
      | true ↦ ordered_without d number p xs h.1
      | false ↦ (each_without d number p x xs h.0, ordered_without d number p xs h.1)
    ]

one_without : (d : Discipline) (number : ℕ → ℕ) (next p : ℕ) (es : List Entry) → IsQueue d number next es → IsQueue d number next (without p es)
one_without d number next p es h = record { ordered = ordered_without d number p es h.ordered; below = below_without number next p es h.below }

-- the list at each key is changed in this way, if an empty list stays empty
in_each : (change : List Entry → List Entry) (lists : List (List Entry)) (place : ℕ) → change [] ≡ [] → list_in (map change lists) place ≡ change (list_in lists place)
in_each change [] place none = sym none
in_each change (list ∷ lists) zero none = refl
in_each change (list ∷ lists) (suc place) none = in_each change lists place none

at_each : (change : List Entry → List Entry) (queues : Queues) (k : ListKey) → change [] ≡ [] → list_at (each_list change queues) k ≡ change (list_at queues k)
at_each change queues (key.Semaphore place) none = in_each change queues.semaphores place none
at_each change queues (key.Event place) none = in_each change queues.events place none
at_each change queues (key.Buffer place) none = in_each change queues.buffers place none
at_each change queues (key.Blackboard place) none = in_each change queues.blackboards place none
at_each change queues (key.Port place) none = in_each change queues.ports place none

pub at_without : (p : ℕ) (queues : Queues) (k : ListKey) → list_at (without_in_all p queues) k ≡ without p (list_at queues k)
at_without p queues k = at_each (without p) queues k refl

pub leaves : (disciplines : ListKey → Discipline) (number : ℕ → ℕ) (next p : ℕ) (lists : Queues) → AreQueues disciplines number next lists → AreQueues disciplines number next (without_in_all p lists)
leaves disciplines number next p lists h k = subst (IsQueue (disciplines k) number next) (sym (at_without p lists k)) (one_without (disciplines k) number next p (list_at lists k) (h k))

-- ---- a process takes a number

before_takes : (d : Discipline) (number other : ℕ → ℕ) (e f : Entry) → other e.process.0 ≡ number e.process.0 → other f.process.0 ≡ number f.process.0 → IsBeforeUnder d number e f → IsBeforeUnder d other e f
before_takes discipline.Fifo number other e f same_e same_f h = omega (arith, same_e, same_f, h)
before_takes discipline.Priority number other e f same_e same_f h = before_other number other e f same_e same_f h

each_takes : (d : Discipline) (number : ℕ → ℕ) (p n : ℕ) (e : Entry) (es : List Entry) → nat_eq p e.process.0 ≡ false → AreOthers p es → IsBeforeEachUnder d number e es → IsBeforeEachUnder d (takes number p n) e es
each_takes d number p n e [] o others h = tt
each_takes d number p n e (x ∷ xs) o others h =
    (before_takes d number (takes number p n) e x (same_number number p n e.process.0 o) (same_number number p n x.process.0 others.0) h.0, each_takes d number p n e xs o others.1 h.1)

ordered_takes : (d : Discipline) (number : ℕ → ℕ) (p n : ℕ) (es : List Entry) → AreOthers p es → IsOrderedUnder d number es → IsOrderedUnder d (takes number p n) es
ordered_takes d number p n [] others h = tt
ordered_takes d number p n (x ∷ xs) others h = (each_takes d number p n x xs others.0 others.1 h.0, ordered_takes d number p n xs others.1 h.1)

below_more : (number : ℕ → ℕ) (next : ℕ) (es : List Entry) → AreNumbersBelow number next es → AreNumbersBelow number (next + 1) es
below_more number next [] h = tt
below_more number next (x ∷ xs) h = (let older = h.0 in omega (arith, older), below_more number next xs h.1)

-- a list that the process which takes a number does not join
others_take : (d : Discipline) (number : ℕ → ℕ) (p n : ℕ) (es : List Entry) → AreOthers p es → IsQueue d number n es → IsQueue d (takes number p n) (n + 1) es
others_take d number p n es others h = record {
  ordered = ordered_takes d number p n es others h.ordered;
  below = below_more (takes number p n) n es (below_takes number p n es others h.below);
}

-- ---- a process joins a list

each_last : (number : ℕ → ℕ) (x e : Entry) (xs : List Entry) → number x.process.0 < number e.process.0 → IsBeforeEachUnder discipline.Fifo number x xs → IsBeforeEachUnder discipline.Fifo number x (xs ++ e ∷ [])
each_last number x e [] one h = (one, tt)
each_last number x e (y ∷ ys) one h = (h.0, each_last number x e ys one h.1)

ordered_last : (number : ℕ → ℕ) (next : ℕ) (e : Entry) (xs : List Entry) → number e.process.0 ≡ next → AreNumbersBelow number next xs → IsOrderedUnder discipline.Fifo number xs → IsOrderedUnder discipline.Fifo number (xs ++ e ∷ [])
ordered_last number next e [] own below h = (tt, tt)
ordered_last number next e (x ∷ xs) own below h =
    let older = below.0 in
    (each_last number x e xs (omega (arith, older, own)) h.0, ordered_last number next e xs own below.1 h.1)

below_last : (number : ℕ → ℕ) (next : ℕ) (e : Entry) (xs : List Entry) → number e.process.0 ≡ next → AreNumbersBelow number next xs → AreNumbersBelow number (next + 1) (xs ++ e ∷ [])
below_last number next e [] own below = (omega (arith, own), tt)
below_last number next e (x ∷ xs) own below = (let older = below.0 in omega (arith, older), below_last number next e xs own below.1)

-- by priority the order of a waiting list is that of the ready list
each_by_priority : (number : ℕ → ℕ) (e : Entry) (es : List Entry) → (IsBeforeEachUnder discipline.Priority number e es ↔ IsBeforeEach number e es)
each_by_priority number e [] = ((λ h. h), (λ h. h))
each_by_priority number e (x ∷ xs) = let same = each_by_priority number e xs in ((λ h. (h.0, same.0 h.1)), (λ h. (h.0, same.1 h.1)))

pub ordered_by_priority : (number : ℕ → ℕ) (es : List Entry) → (IsOrderedUnder discipline.Priority number es ↔ IsOrdered number es)
ordered_by_priority number [] = ((λ h. h), (λ h. h))
ordered_by_priority number (x ∷ xs) =
    let each = each_by_priority number x xs in
    let same = ordered_by_priority number xs in
    ((λ h. (each.0 h.0, same.0 h.1)), (λ h. (each.1 h.0, same.1 h.1)))

one_joins : (d : Discipline) (number : ℕ → ℕ) (next : ℕ) (e : Entry) (xs : List Entry) → number e.process.0 ≡ next → AreNumbersBelow number next xs → IsOrderedUnder d number xs → IsQueue d number (next + 1) (joined d e xs)
one_joins discipline.Fifo number next e xs own below h = record { ordered = ordered_last number next e xs own below h; below = below_last number next e xs own below }
one_joins discipline.Priority number next e xs own below h = record {
  ordered = (ordered_by_priority number (behind_equals e xs)).1 (ordered_behind number next e xs own below ((ordered_by_priority number xs).0 h));
  below = below_behind number next e xs own below;
}

-- a place is as before, or it is the place of the new list
abbrev IsPut : {K : Type 0} → List Entry → List Entry → List Entry → K → K → Type 0
IsPut before list after k j = (after ≡ before) ⊎ ((j ≡ k) × (after ≡ list))

named : {K L : Type 0} {before list after : List Entry} {k j : K} (name : K → L) → IsPut before list after k j → IsPut before list after (name k) (name j)
named name (inl same) = inl same
named name (inr put) = inr (ap name put.0, put.1)

-- a list is put at one place, if it is put at all
in_put : (lists : List (List Entry)) (k : ℕ) (list : List Entry) (j : ℕ) → IsPut (list_in lists j) list (list_in (slice_set lists k list) j) k j
in_put [] zero list j = inl refl
in_put [] (suc k) list j = inl refl
in_put (first ∷ lists) zero list zero = inr (refl, refl)
in_put (first ∷ lists) zero list (suc j) = inl refl
in_put (first ∷ lists) (suc k) list zero = inl refl
in_put (first ∷ lists) (suc k) list (suc j) = named suc (in_put lists k list j)

-- a list is put at one key, if it is put at all
pub at_put : (queues : Queues) (k : ListKey) (list : List Entry) (j : ListKey) → IsPut (list_at queues j) list (list_at (put_list queues k list) j) k j
at_put queues (key.Semaphore place) list (key.Semaphore other) = named key.Semaphore (in_put queues.semaphores place list other)
at_put queues (key.Event place) list (key.Event other) = named key.Event (in_put queues.events place list other)
at_put queues (key.Buffer place) list (key.Buffer other) = named key.Buffer (in_put queues.buffers place list other)
at_put queues (key.Blackboard place) list (key.Blackboard other) = named key.Blackboard (in_put queues.blackboards place list other)
at_put queues (key.Port place) list (key.Port other) = named key.Port (in_put queues.ports place list other)
at_put queues _ list _ = inl refl

others_at : (p : ℕ) (lists : Queues) (k : ListKey) → AreOthers p (list_at (without_in_all p lists) k)
others_at p lists k = subst (AreOthers p) (sym (at_without p lists k)) (others_without p (list_at lists k))

-- the lists after a process that begins to wait has left its list, and the list that it then joins
abbrev left : Entry → Queues → Queues
left e lists = without_in_all e.process.0 lists

abbrev longer : Discipline → ListKey → Entry → Queues → List Entry
longer d k e lists = joined d e (list_at (left e lists) k)

left_takes : (d : Discipline) (number : ℕ → ℕ) (next : ℕ) (j : ListKey) (e : Entry) (lists : Queues) → IsQueue d number next (list_at (left e lists) j) → IsQueue d (takes number e.process.0 next) (next + 1) (list_at (left e lists) j)
left_takes d number next j e lists h = others_take d number e.process.0 next (list_at (left e lists) j) (others_at e.process.0 lists j) h

longer_takes : (d : Discipline) (number : ℕ → ℕ) (next : ℕ) (k : ListKey) (e : Entry) (lists : Queues) → IsQueue d number next (list_at (left e lists) k) → IsQueue d (takes number e.process.0 next) (next + 1) (longer d k e lists)
longer_takes d number next k e lists h =
    let p = e.process.0 in
    let before = list_at (left e lists) k in
    let others = others_at p lists k in
    one_joins d (takes number p next) next e before (own_number number p next) (below_takes number p next before others h.below) (ordered_takes d number p next before others h.ordered)

pub begins_to_wait : (disciplines : ListKey → Discipline) (number : ℕ → ℕ) (next : ℕ) (k : ListKey) (e : Entry) (lists : Queues) → AreQueues disciplines number next lists → AreQueues disciplines (takes number e.process.0 next) (next + 1) (joins k (disciplines k) e lists)
begins_to_wait disciplines number next k e lists h j = by_place (list_at (joins k (disciplines k) e lists) j) (at_put (left e lists) k (longer (disciplines k) k e lists) j)
  where
    by_place : (list : List Entry) → (list ≡ list_at (left e lists) j) ⊎ ((j ≡ k) × (list ≡ longer (disciplines k) k e lists)) → IsQueue (disciplines j) (takes number e.process.0 next) (next + 1) list
    by_place list (inl same) =
        let remains = left_takes (disciplines j) number next j e lists (leaves disciplines number next e.process.0 lists h j) in
        subst (IsQueue (disciplines j) (takes number e.process.0 next) (next + 1)) (sym same) remains
    by_place list (inr put) =
        let joined = longer_takes (disciplines k) number next k e lists (leaves disciplines number next e.process.0 lists h k) in
        let there = subst (λ i. IsQueue (disciplines i) (takes number e.process.0 next) (next + 1) (longer (disciplines k) k e lists)) (sym put.0) joined in
        subst (IsQueue (disciplines j) (takes number e.process.0 next) (next + 1)) (sym put.1) there

-- ---- the first of a list

not_both_under : (d : Discipline) (number : ℕ → ℕ) (e f : Entry) → IsBeforeUnder d number e f → IsBeforeUnder d number f e → ⊥
not_both_under discipline.Fifo number e f h k = omega (arith, h, k)
not_both_under discipline.Priority number e f h k = not_both number e f h k

before_one : (d : Discipline) (number : ℕ → ℕ) (e f : Entry) (es : List Entry) → IsBeforeEachUnder d number e es → IsAmong f es → IsBeforeUnder d number e f
before_one d number e f [] h a = absurd a
before_one d number e f (x ∷ xs) h (inl same) = subst (IsBeforeUnder d number e) (sym same) h.0
before_one d number e f (x ∷ xs) h (inr later) = before_one d number e f xs h.1 later

head_is_first : (d : Discipline) (number : ℕ → ℕ) (e : Entry) (es : List Entry) → IsOrderedUnder d number (e ∷ es) → IsReleasedFirst d number (e ∷ es) e
head_is_first d number e es h = (inl refl, none_before)
  where
    none_before : (f : Entry) → IsAmong f (e ∷ es) → IsBeforeUnder d number f e → ⊥
    none_before f (inl same) k = let own : IsBeforeUnder d number e e = subst (λ (x : Entry). IsBeforeUnder d number x e) same k in not_both_under d number e e own own
    none_before f (inr later) k = not_both_under d number e f (before_one d number e f es h.0 later) k

first_is_head : (d : Discipline) (number : ℕ → ℕ) (x : Entry) (xs : List Entry) (e : Entry) → IsOrderedUnder d number (x ∷ xs) → IsReleasedFirst d number (x ∷ xs) e → x ≡ e
first_is_head d number x xs e h (inl same, first) = sym same
first_is_head d number x xs e h (inr later, first) = absurd (first x (inl refl) (before_one d number x e xs h.0 later))

first_of_list : (d : Discipline) (number : ℕ → ℕ) (list : List Entry) (e : Entry) → IsOrderedUnder d number list → (slice_get list 0 ≡ Some e ↔ IsReleasedFirst d number list e)
first_of_list d number [] e h = ((λ is. absurd (none-some e is)), (λ first. absurd first.0))
first_of_list d number (x ∷ xs) e h = (
  (λ is. subst (λ (y : Entry). IsReleasedFirst d number (x ∷ xs) y) (same_Some x e is) (head_is_first d number x xs h)),
  (λ first. ap Some (first_is_head d number x xs e h first)),
)

pub released_first : (disciplines : ListKey → Discipline) (number : ℕ → ℕ) (next : ℕ) (k : ListKey) (e : Entry) (lists : Queues) → AreQueues disciplines number next lists → (slice_get (list_at lists k) 0 ≡ Some e ↔ IsReleasedFirst (disciplines k) number (list_at lists k) e)
released_first disciplines number next k e lists h = let queue = h k in first_of_list (disciplines k) number (list_at lists k) e queue.ordered

-- ---- no process waits

pub at_emptied : (queues : Queues) (k : ListKey) → list_at (emptied queues) k ≡ []
at_emptied queues k = at_each no_entries queues k refl

pub all_empty : (disciplines : ListKey → Discipline) (number : ℕ → ℕ) (next : ℕ) (lists : Queues) → AreQueues disciplines number next (emptied lists)
all_empty disciplines number next lists k =
    let none : IsQueue (disciplines k) number next [] = record { ordered = tt; below = tt } in
    subst (IsQueue (disciplines k) number next) (sym (at_emptied lists k)) none
