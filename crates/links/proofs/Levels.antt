-- The lists one after another.
use Rattle.links.proofs.Prelude.{◌≡◌, ℕ, zero, suc, ◌+◌, ◌<◌, ◌≤◌, nat_eq, nat_lt, cond, true, false, not, List, [], ◌∷◌, ◌++◌, length, slice_get, replicate, refl, sym, ap, ◌∙◌, arith, nat_tests, Entry, without, behind_equals, list_in, without_in_each, put_in, emptied_each, IsInNone, times_listed, in_order, one_if_any}
use Rattle.links.specs.Levels.{AreOfLevel, AreLevels}

append_assoc : {A : Type 0} (xs ys zs : List A) → (xs ++ ys) ++ zs ≡ xs ++ (ys ++ zs)
append_assoc [] ys zs = refl
append_assoc (x ∷ xs) ys zs = ap (λ rest. x ∷ rest) (append_assoc xs ys zs)

-- ---- a process leaves
without_append : (p : ℕ) (xs ys : List Entry) → without p (xs ++ ys) ≡ without p xs ++ without p ys
without_append p [] ys = refl
without_append p (x ∷ xs) ys =
    elim (nat_eq p x.process.0) as (λ b. cond (not b) (x ∷ without p (xs ++ ys)) (without p (xs ++ ys)) ≡ cond (not b) (x ∷ without p xs) (without p xs) ++ without p ys) [ true ↦ without_append p xs ys | false ↦ ap (λ rest. x ∷ rest) (without_append p xs ys) ]

pub in_order_without : (p : ℕ) (lists : List (List Entry)) → in_order (without_in_each p lists) ≡ without p (in_order lists)
in_order_without p [] = refl
in_order_without p (l ∷ ls) = ap (λ rest. without p l ++ rest) (in_order_without p ls) ∙ sym (without_append p l (in_order ls))

level_without : (k p : ℕ) (l : List Entry) → AreOfLevel k l → AreOfLevel k (without p l)
level_without k p [] h = tt
level_without k p (x ∷ xs) h =
    elim (nat_eq p x.process.0) as (λ b. AreOfLevel k (cond (not b) (x ∷ without p xs) (without p xs))) [ true ↦ level_without k p xs h.1 | false ↦ (h.0, level_without k p xs h.1) ]

pub levels_without : (k p : ℕ) (lists : List (List Entry)) → AreLevels k lists → AreLevels k (without_in_each p lists)
levels_without k p [] h = tt
levels_without k p (l ∷ ls) h = (level_without k p l h.0, levels_without (suc k) p ls h.1)

pub at_without : (p : ℕ) (lists : List (List Entry)) (k : ℕ) → list_in (without_in_each p lists) k ≡ without p (list_in lists k)
at_without p [] k = refl
at_without p (l ∷ ls) zero = refl
at_without p (l ∷ ls) (suc k) = at_without p ls k

pub without_absent : (p : ℕ) (l : List Entry) → times_listed p l ≡ 0 → without p l ≡ l
without_absent p [] h = refl
without_absent p (x ∷ xs) h = (elim (nat_eq p x.process.0) as (λ b. (cond b 1 0) + times_listed p xs ≡ 0 → cond (not b) (x ∷ without p xs) (without p xs) ≡ x ∷ xs) [ true ↦ λ g. absurd (omega (arith, g)) | false ↦ λ g. ap (λ rest. x ∷ rest) (without_absent p xs (omega (arith, g))) ]) h

pub without_gone : (p : ℕ) (l : List Entry) → times_listed p (without p l) ≡ 0
without_gone p [] = refl
without_gone p (x ∷ xs) = (elim (nat_eq p x.process.0) as (λ b. nat_eq p x.process.0 ≡ b → times_listed p (cond (not b) (x ∷ without p xs) (without p xs)) ≡ 0) [ true ↦ λ q. without_gone p xs | false ↦ λ q. rw q (omega (arith, without_gone p xs)) ]) refl

pub times_append : (p : ℕ) (xs ys : List Entry) → times_listed p (xs ++ ys) ≡ times_listed p xs + times_listed p ys
times_append p [] ys = omega arith
times_append p (x ∷ xs) ys = omega (arith, times_append p xs ys)

-- p is in none of the lists, if it is not in all of them together
pub absent_each : (p : ℕ) (lists : List (List Entry)) → times_listed p (in_order lists) ≡ 0 → IsInNone p lists
absent_each p [] h k = refl
absent_each p (l ∷ ls) h zero = omega (arith, times_append p l (in_order ls), h)
absent_each p (l ∷ ls) h (suc k) = absent_each p ls (omega (arith, times_append p l (in_order ls), h)) k

-- ---- an entry after its equals
behind_first : (m k : ℕ) (e : Entry) (ls : List (List Entry)) → m < k → e.priority.0 + m ≡ 255 → AreLevels k ls → behind_equals e (in_order ls) ≡ e ∷ in_order ls
behind_first m k e [] lt own h = refl
behind_first m k e ([] ∷ ls) lt own h = behind_first m (suc k) e ls (omega (arith, lt)) own h.1
behind_first m k e ((x ∷ xs) ∷ ls) lt own h =
    let there = h.0 in
    let here = there.0 in
    let lower : nat_lt x.priority.0 e.priority.0 ≡ true = grind (arith, nat_tests) in
    ap (λ b. cond b (e ∷ x ∷ (xs ++ in_order ls)) (x ∷ behind_equals e (xs ++ in_order ls))) lower

behind_level : (m k : ℕ) (e : Entry) (l ys : List Entry) → k ≤ m → e.priority.0 + m ≡ 255 → AreOfLevel k l → behind_equals e (l ++ ys) ≡ l ++ behind_equals e ys
behind_level m k e [] ys le own h = refl
behind_level m k e (x ∷ xs) ys le own h =
    let here = h.0 in
    let higher : nat_lt x.priority.0 e.priority.0 ≡ false = grind (arith, nat_tests) in
    ap (λ b. cond b (e ∷ x ∷ (xs ++ ys)) (x ∷ behind_equals e (xs ++ ys))) higher ∙ ap (λ rest. x ∷ rest) (behind_level m k e xs ys le own h.1)

pub in_order_put : (from k : ℕ) (e : Entry) (lists : List (List Entry)) → k < length lists → e.priority.0 + (from + k) ≡ 255 → AreLevels from lists → in_order (put_in lists k (list_in lists k ++ e ∷ [])) ≡ behind_equals e (in_order lists)
in_order_put from k e [] lt own h = absurd (omega (arith, lt))
in_order_put from zero e (l ∷ ls) lt own h =
    let here : e.priority.0 + from ≡ 255 = omega (arith, own) in
    append_assoc l (e ∷ []) (in_order ls) ∙ (ap (λ rest. l ++ rest) (sym (behind_first from (suc from) e ls (omega arith) here h.1)) ∙ sym (behind_level from from e l (in_order ls) (omega arith) here h.0))
in_order_put from (suc k) e (l ∷ ls) lt own h =
    let here : e.priority.0 + (suc from + k) ≡ 255 = omega (arith, own) in
    ap (λ rest. l ++ rest) (in_order_put (suc from) k e ls (omega (arith, lt)) here h.1) ∙ sym (behind_level (suc from + k) from e l (in_order ls) (omega arith) here h.0)

level_push : (k : ℕ) (e : Entry) (l : List Entry) → e.priority.0 + k ≡ 255 → AreOfLevel k l → AreOfLevel k (l ++ e ∷ [])
level_push k e [] own h = (own, tt)
level_push k e (x ∷ xs) own h = (h.0, level_push k e xs own h.1)

pub levels_put : (from k : ℕ) (e : Entry) (lists : List (List Entry)) → e.priority.0 + (from + k) ≡ 255 → AreLevels from lists → AreLevels from (put_in lists k (list_in lists k ++ e ∷ []))
levels_put from zero e [] own h = tt
levels_put from (suc k) e [] own h = tt
levels_put from zero e (l ∷ ls) own h = let here : e.priority.0 + from ≡ 255 = omega (arith, own) in (level_push from e l here h.0, h.1)
levels_put from (suc k) e (l ∷ ls) own h = let here : e.priority.0 + (suc from + k) ≡ 255 = omega (arith, own) in (h.0, levels_put (suc from) k e ls here h.1)

-- ---- the first
none_empty : (l : List Entry) → one_if_any l ≡ 0 → l ≡ []
none_empty [] h = refl
none_empty (x ∷ xs) h = absurd (omega (arith, h))

pub in_order_none : (lists : List (List Entry)) → ((j : ℕ) → one_if_any (list_in lists j) ≡ 0) → in_order lists ≡ []
in_order_none [] h = refl
in_order_none (l ∷ ls) h = ap (λ x. x ++ in_order ls) (none_empty l (h 0)) ∙ in_order_none ls (λ j. h (suc j))

pub in_order_first : (k : ℕ) (lists : List (List Entry)) → one_if_any (list_in lists k) ≡ 1 → ((j : ℕ) → j < k → one_if_any (list_in lists j) ≡ 0) → slice_get (in_order lists) 0 ≡ slice_get (list_in lists k) 0
in_order_first k [] h before = absurd (omega (arith, h))
in_order_first zero ([] ∷ ls) h before = absurd (omega (arith, h))
in_order_first zero ((x ∷ xs) ∷ ls) h before = refl
in_order_first (suc k) (l ∷ ls) h before =
    ap (λ x. slice_get (x ++ in_order ls) 0) (none_empty l (before 0 (omega arith))) ∙ in_order_first k ls h (λ j lt. before (suc j) (omega (arith, lt)))

pub in_order_emptied : (lists : List (List Entry)) → in_order (emptied_each lists) ≡ []
in_order_emptied [] = refl
in_order_emptied (l ∷ ls) = in_order_emptied ls

pub levels_emptied : (k : ℕ) (lists : List (List Entry)) → AreLevels k (emptied_each lists)
levels_emptied k [] = tt
levels_emptied k (l ∷ ls) = (tt, levels_emptied (suc k) ls)

pub at_emptied : (lists : List (List Entry)) (k : ℕ) → list_in (emptied_each lists) k ≡ []
at_emptied [] k = refl
at_emptied (l ∷ ls) zero = refl
at_emptied (l ∷ ls) (suc k) = at_emptied ls k

-- ---- a list is put
pub at_put_other : (lists : List (List Entry)) (k j : ℕ) (l : List Entry) → (j ≡ k → ⊥) → list_in (put_in lists k l) j ≡ list_in lists j
at_put_other [] zero j l other = refl
at_put_other [] (suc k) j l other = refl
at_put_other (x ∷ xs) zero zero l other = absurd (other refl)
at_put_other (x ∷ xs) zero (suc j) l other = refl
at_put_other (x ∷ xs) (suc k) zero l other = refl
at_put_other (x ∷ xs) (suc k) (suc j) l other = at_put_other xs k j l (λ e. other (ap suc e))

pub at_put_same : (lists : List (List Entry)) (k : ℕ) (l : List Entry) → k < length lists → list_in (put_in lists k l) k ≡ l
at_put_same [] k l lt = absurd (omega (arith, lt))
at_put_same (x ∷ xs) zero l lt = refl
at_put_same (x ∷ xs) (suc k) l lt = at_put_same xs k l (omega (arith, lt))

-- ---- empty lists
pub at_nothing : (n k : ℕ) → list_in (replicate n []) k ≡ []
at_nothing zero k = refl
at_nothing (suc n) zero = refl
at_nothing (suc n) (suc k) = at_nothing n k

pub levels_nothing : (n k : ℕ) → AreLevels k (replicate n [])
levels_nothing zero k = tt
levels_nothing (suc n) k = (tt, levels_nothing n (suc k))

pub length_nothing : (n : ℕ) → length {A = List Entry} (replicate n []) ≡ n
length_nothing zero = refl
length_nothing (suc n) = omega (arith, length_nothing n)
