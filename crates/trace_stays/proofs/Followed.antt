-- The lanes of a trace after one more line.
use Rattle.std.proofs.Common.{◌≡◌, ◌⊎◌, inl, inr, ℕ, zero, suc, ◌+◌, ◌<◌, ◌≤◌, Bool, true, false, List, [], ◌∷◌, ◌++◌, map, length, Option, Some, None, Result, Ok, Err, refl, sym, ap, subst, ◌∙◌, arith, append-nil, append_assoc}
use Rattle.std.specs.Prelude.{◌==◌, if◌then◌else◌, IfOk, OnErr, OnOk, slice_get, slice_set}
use Rattle.std.proofs.lemmas.Bool.{and_from, and_parts, eq-eqb, eqb-true, false≢true}
use Rattle.apex_types.specs.Line.{subject_text}
use Rattle.apex_types.specs.declared.codes.ErrorKind.{ErrorKind}
use Rattle.apex_types.specs.declared.codes.Mode.{Mode}
use Rattle.apex_types.specs.declared.codes.Mode.TheVariants as mode
use Rattle.apex_types.specs.declared.codes.ProcessState.{ProcessState}
use Rattle.apex_types.specs.declared.codes.Response.{Response}
use Rattle.apex_types.specs.declared.event.EventKind.{EventKind}
use Rattle.apex_types.specs.declared.event.EventKind.TheVariants as event
use Rattle.apex_types.specs.declared.event.Subject.{Subject}
use Rattle.engine_meaning.specs.Digits.{same}
use Rattle.trace_stays.specs.Clearing.{clears, resets, starts_again}
use Rattle.trace_stays.specs.Following.{AreInPlace, AreKept, AreThere, HasPartition, HasProcess, HasRead, KeepsPlace, and_one, change_at, entered, gone_from, has_name, held_at, held_by, held_in, held_with, if_at, if_in, is_among, is_process, mode_after, mode_at, mode_by, mode_held, mode_in, mode_over, mode_over_at, mode_stay_in, mode_stay_over, mode_stays_at, mode_stays_of, new_partition, new_process, next_by, next_if, next_in, next_of_all, over_at, over_with, partition_at, place_from, process_at, process_in, state_behind, state_over, stay_over, stay_with, stays_at, stays_of, turned}
use Rattle.trace_stays.specs.Within.{AreWithin}
use Rattle.trace_stays.specs.Stays.{held_behind, mode_behind, mode_ended, stay_ended}
use Rattle.trace_stays.specs.declared.fault.MemoryFull.{MemoryFull}
use Rattle.trace_stays.specs.declared.lanes.Ended.{Ended}
use Rattle.trace_stays.specs.declared.lanes.Ended.TheVariants as ended
use Rattle.trace_stays.specs.declared.lanes.Lanes.{Lanes}
use Rattle.trace_stays.specs.declared.lanes.PartitionLane.{PartitionLane}
use Rattle.trace_stays.specs.declared.lanes.ProcessLane.{ProcessLane}
use Rattle.trace_stays.specs.declared.stay.Held.{Held}
use Rattle.trace_stays.specs.declared.stay.HeldMode.{HeldMode}
use Rattle.trace_stays.specs.declared.stay.ModeStay.{ModeStay}
use Rattle.trace_stays.specs.declared.next.Next.{Next}
use Rattle.trace_stays.specs.declared.next.Next.TheVariants.{Enters, Gone, Cleared}
use Rattle.trace_stays.specs.declared.stay.Stay.{Stay}

-- what holds after a call that is done, from two facts about it
pub both_ok : {T E P Q R : Type 0} (r : Result T E) → (P → Q → R) → OnOk r P → OnOk r Q → OnOk r R
both_ok (Ok x) f p q = f p q
both_ok (Err e) f p q = tt

-- ---- texts

pub same_is : (a b : List ℕ) → same a b ≡ true → a ≡ b
same_is [] [] h = refl
same_is [] (y ∷ ys) h = cc
same_is (x ∷ xs) [] h = cc
same_is (x ∷ xs) (y ∷ ys) h =
    let both = and_parts (x == y) (same xs ys) h in
    ap (λ (n : ℕ). n ∷ xs) (eqb-true x y both.0) ∙ ap (λ (ns : List ℕ). y ∷ ns) (same_is xs ys both.1)

same_text : (t : List ℕ) → same t t ≡ true
same_text [] = refl
same_text (x ∷ xs) = and_from (x == x) (same xs xs) (eq-eqb x x refl) (same_text xs)

-- ---- the first that passes a test

of_some : {A : Type 0} {x y : A} → Some x ≡ Some y → x ≡ y
of_some e = cc

pub no_some : {A : Type 0} {x : A} → None ≡ Some x → ⊥
no_some e = cc

found_step : {A : Type 0} (n : ℕ) (test : A → Bool) (x : A) (xs : List A) (o : Option ℕ) (k : ℕ) (b : Bool) → test x ≡ b → (if b then Some n else o) ≡ Some k
    → (o ≡ Some k → (j : ℕ) × (y : A) × (k ≡ n + 1 + j) × (slice_get xs j ≡ Some y) × (test y ≡ true))
    → (j : ℕ) × (y : A) × (k ≡ n + j) × (slice_get (x ∷ xs) j ≡ Some y) × (test y ≡ true)
found_step n test x xs o k true e g later = let here : k ≡ n + 0 = sym (of_some g) ∙ omega arith in (0, x, here, refl, e)
found_step n test x xs o k false e g later = let r = later g in let there : k ≡ n + suc r.0 = r.2 ∙ omega arith in (suc r.0, r.1, there, r.3, r.4)

found_in : {A : Type 0} (n : ℕ) (test : A → Bool) (xs : List A) (k : ℕ) → place_from n test xs ≡ Some k → (j : ℕ) × (y : A) × (k ≡ n + j) × (slice_get xs j ≡ Some y) × (test y ≡ true)
unfolding place_from
found_in n test [] k h = absurd (no_some h)
found_in n test (x ∷ xs) k h = found_step n test x xs (place_from (n + 1) test xs) k (test x) refl h (found_in (n + 1) test xs k)

pub found : {A : Type 0} (test : A → Bool) (xs : List A) (k : ℕ) → place_from 0 test xs ≡ Some k → (x : A) × (slice_get xs k ≡ Some x) × (test x ≡ true)
found test xs k h =
    let r = found_in 0 test xs k h in
    let same : r.0 ≡ k = omega (arith, r.2) in
    (r.1, subst (λ j. slice_get xs j ≡ Some r.1) same r.3, r.4)

-- those at the front come first
kept_step : (n k : ℕ) (o p : Option ℕ) (b : Bool) → (if b then Some n else o) ≡ Some k → (o ≡ Some k → p ≡ Some k) → (if b then Some n else p) ≡ Some k
kept_step n k o p true g later = g
kept_step n k o p false g later = later g

kept_place : {A : Type 0} (n : ℕ) (test : A → Bool) (xs : List A) (y : A) (k : ℕ) → place_from n test xs ≡ Some k → place_from n test (xs ++ y ∷ []) ≡ Some k
unfolding place_from
kept_place n test [] y k h = absurd (no_some h)
kept_place n test (x ∷ xs) y k h = kept_step n k (place_from (n + 1) test xs) (place_from (n + 1) test (xs ++ y ∷ [])) (test x) h (kept_place (n + 1) test xs y k)

last_step : (n : ℕ) (o p r : Option ℕ) (b : Bool) → (if b then Some n else o) ≡ None → (o ≡ None → p ≡ r) → (if b then Some n else p) ≡ r
last_step n o p r true g later = absurd (no_some (sym g))
last_step n o p r false g later = later g

last_place : {A : Type 0} (n : ℕ) (test : A → Bool) (xs : List A) (y : A) → place_from n test xs ≡ None → place_from n test (xs ++ y ∷ []) ≡ (if test y then Some (n + length xs) else None)
unfolding place_from
last_place n test [] y h = let e : n ≡ n + 0 = omega arith in ap (λ (k : ℕ). if test y then Some k else None) e
last_place n test (x ∷ xs) y h =
    let further : n + 1 + length xs ≡ n + suc (length xs) = omega arith in
    last_step n (place_from (n + 1) test xs) (place_from (n + 1) test (xs ++ y ∷ [])) (if test y then Some (n + suc (length xs)) else None) (test x) h
    (λ g. last_place (n + 1) test xs y g ∙ ap (λ (k : ℕ). if test y then Some k else None) further)

-- a change that the test does not see
change_place : {A : Type 0} (n : ℕ) (test : A → Bool) (f : A → A) (k : ℕ) (xs : List A) → ((x : A) → test (f x) ≡ test x) → place_from n test (change_at k f xs) ≡ place_from n test xs
unfolding place_from
change_place n test f k [] blind = refl
change_place n test f zero (x ∷ xs) blind = ap (λ (b : Bool). if b then Some n else place_from (n + 1) test xs) (blind x)
change_place n test f (suc k) (x ∷ xs) blind = ap (λ (o : Option ℕ). if test x then Some n else o) (change_place (n + 1) test f k xs blind)

map_place : {A : Type 0} (n : ℕ) (test : A → Bool) (f : A → A) (xs : List A) → ((x : A) → test (f x) ≡ test x) → place_from n test (map f xs) ≡ place_from n test xs
unfolding place_from
map_place n test f [] blind = refl
map_place n test f (x ∷ xs) blind =
    ap (λ (b : Bool). if b then Some n else place_from (n + 1) test (map f xs)) (blind x)
    ∙ ap (λ (o : Option ℕ). if test x then Some n else o) (map_place (n + 1) test f xs blind)

-- ---- what is at a place

get_same : {A : Type 0} (k : ℕ) (f : A → A) (xs : List A) (x : A) → slice_get xs k ≡ Some x → slice_get (change_at k f xs) k ≡ Some (f x)
get_same k f [] x h = cc
get_same zero f (y ∷ xs) x h = ap (λ z. Some (f z)) (of_some h)
get_same (suc k) f (y ∷ xs) x h = get_same k f xs x h

get_other : {A : Type 0} (k : ℕ) (f : A → A) (xs : List A) (j : ℕ) → (j ≡ k → ⊥) → slice_get (change_at k f xs) j ≡ slice_get xs j
get_other k f [] j apart = refl
get_other zero f (y ∷ xs) zero apart = absurd (apart refl)
get_other zero f (y ∷ xs) (suc j) apart = refl
get_other (suc k) f (y ∷ xs) zero apart = refl
get_other (suc k) f (y ∷ xs) (suc j) apart = get_other k f xs j (λ e. apart (ap suc e))

get_map : {A : Type 0} (f : A → A) (xs : List A) (j : ℕ) (x : A) → slice_get xs j ≡ Some x → slice_get (map f xs) j ≡ Some (f x)
get_map f [] j x h = cc
get_map f (y ∷ xs) zero x h = ap (λ z. Some (f z)) (of_some h)
get_map f (y ∷ xs) (suc j) x h = get_map f xs j x h

get_front : {A : Type 0} (xs : List A) (y : A) (j : ℕ) (x : A) → slice_get xs j ≡ Some x → slice_get (xs ++ y ∷ []) j ≡ Some x
get_front [] y j x h = cc
get_front (z ∷ xs) y zero x h = h
get_front (z ∷ xs) y (suc j) x h = get_front xs y j x h

get_last : {A : Type 0} (xs : List A) (y : A) → slice_get (xs ++ y ∷ []) (length xs) ≡ Some y
get_last [] y = refl
get_last (x ∷ xs) y = get_last xs y

get_below : {A : Type 0} (xs : List A) (j : ℕ) (x : A) → slice_get xs j ≡ Some x → j < length xs
get_below [] j x h = cc
get_below (y ∷ xs) zero x h = omega arith
get_below (y ∷ xs) (suc j) x h = let g = get_below xs j x h in omega (arith, g)

-- a list with one more at its end has what it had, and that
get_longer : {A : Type 0} (xs : List A) (y : A) (j : ℕ) (x : A) → slice_get (xs ++ y ∷ []) j ≡ Some x → (slice_get xs j ≡ Some x) ⊎ (y ≡ x)
get_longer [] y zero x h = inr (of_some h)
get_longer [] y (suc j) x h = cc
get_longer (z ∷ xs) y zero x h = inl h
get_longer (z ∷ xs) y (suc j) x h = get_longer xs y j x h

get_changed : {A : Type 0} (k : ℕ) (f : A → A) (xs : List A) (j : ℕ) (x : A) → slice_get (change_at k f xs) j ≡ Some x → (y : A) × (slice_get xs j ≡ Some y) × ((x ≡ f y) ⊎ (x ≡ y))
get_changed k f [] j x h = cc
get_changed zero f (y ∷ xs) zero x h = (y, refl, inl (sym (of_some h)))
get_changed zero f (y ∷ xs) (suc j) x h = (x, h, inr refl)
get_changed (suc k) f (y ∷ xs) zero x h = (x, h, inr refl)
get_changed (suc k) f (y ∷ xs) (suc j) x h = get_changed k f xs j x h

get_mapped : {A : Type 0} (f : A → A) (xs : List A) (j : ℕ) (x : A) → slice_get (map f xs) j ≡ Some x → (y : A) × (slice_get xs j ≡ Some y) × (x ≡ f y)
get_mapped f [] j x h = cc
get_mapped f (y ∷ xs) zero x h = (y, refl, sym (of_some h))
get_mapped f (y ∷ xs) (suc j) x h = get_mapped f xs j x h

-- as the code changes it
pub set_is_change : {A : Type 0} (xs : List A) (k : ℕ) (x : A) (f : A → A) → slice_get xs k ≡ Some x → slice_set xs k (f x) ≡ change_at k f xs
set_is_change [] k x f h = cc
set_is_change (y ∷ xs) zero x f h = ap (λ z. f z ∷ xs) (sym (of_some h))
set_is_change (y ∷ xs) (suc k) x f h = ap (λ zs. y ∷ zs) (set_is_change xs k x f h)

pub none_is_change : {A : Type 0} (xs : List A) (k : ℕ) (f : A → A) → slice_get xs k ≡ None → xs ≡ change_at k f xs
none_is_change [] k f h = refl
none_is_change (y ∷ xs) zero f h = absurd (no_some (sym h))
none_is_change (y ∷ xs) (suc k) f h = ap (λ zs. y ∷ zs) (none_is_change xs k f h)

-- ---- numbers that are the same or not

same_or_not : (a b : ℕ) → (a ≡ b) ⊎ (a ≡ b → ⊥)
same_or_not zero zero = inl refl
same_or_not zero (suc b) = inr (λ e. omega (arith, e))
same_or_not (suc a) zero = inr (λ e. omega (arith, e))
same_or_not (suc a) (suc b) = elim (same_or_not a b) [ inl e ↦ inl (ap suc e) | inr n ↦ inr (λ e. n (omega (arith, e))) ]

apart_eqb : (a b : ℕ) → (a ≡ b → ⊥) → (a == b) ≡ false
apart_eqb a b n = by (a == b) refl
  where
    by : (c : Bool) → (a == b) ≡ c → (a == b) ≡ false
    by true e = absurd (n (eqb-true a b e))
    by false e = e

-- ---- one process, named by its partition's name and its own word

-- two processes at one place are the same
one_process : (l : Lanes) (m w n v : List ℕ) (k : ℕ) → process_at m w l ≡ Some k → process_at n v l ≡ Some k → (m ≡ n) × (w ≡ v)
one_process l m w n v k a b = by (partition_at m l.partitions.items) refl (partition_at n l.partitions.items) refl a b
  where
    by : (o : Option ℕ) → partition_at m l.partitions.items ≡ o → (p : Option ℕ) → partition_at n l.partitions.items ≡ p
        → process_in o w l.processes.items ≡ Some k → process_in p v l.processes.items ≡ Some k → (m ≡ n) × (w ≡ v)
    by None e p f a b = absurd (no_some a)
    by (Some q) e None f a b = absurd (no_some b)
    by (Some q) e (Some r) f a b =
        let x = found (is_process q w) l.processes.items k a in
        let y = found (is_process r v) l.processes.items k b in
        let one : x.0 ≡ y.0 = of_some (sym x.1 ∙ y.1) in
        let mine = and_parts (x.0.partition == q) (same (subject_text x.0.who) w) x.2 in
        let others = and_parts (y.0.partition == r) (same (subject_text y.0.who) v) y.2 in
        let place : q ≡ r = sym (eqb-true x.0.partition q mine.0) ∙ (ap (λ (lane : ProcessLane). lane.partition) one ∙ eqb-true y.0.partition r others.0) in
        let words : w ≡ v = sym (same_is (subject_text x.0.who) w mine.1) ∙ (ap (λ (lane : ProcessLane). subject_text lane.who) one ∙ same_is (subject_text y.0.who) v others.1) in
        let s = found (has_name m) l.partitions.items q e in
        let t = found (has_name n) l.partitions.items q (f ∙ ap Some (sym place)) in
        let lane : s.0 ≡ t.0 = of_some (sym s.1 ∙ t.1) in
        (sym (same_is s.0.name m s.2) ∙ (ap (λ (p : PartitionLane). p.name) lane ∙ same_is t.0.name n t.2), words)

-- two partitions at one place are the same
one_partition : (lanes : List PartitionLane) (m n : List ℕ) (k : ℕ) → partition_at m lanes ≡ Some k → partition_at n lanes ≡ Some k → m ≡ n
one_partition lanes m n k a b =
    let s = found (has_name m) lanes k a in
    let t = found (has_name n) lanes k b in
    let lane : s.0 ≡ t.0 = of_some (sym s.1 ∙ t.1) in
    sym (same_is s.0.name m s.2) ∙ (ap (λ (p : PartitionLane). p.name) lane ∙ same_is t.0.name n t.2)

-- ---- places are found, and nothing else changes

longer_within : (a b : ℕ) (lanes : List ProcessLane) → a ≤ b → AreWithin a lanes → AreWithin b lanes
longer_within a b lanes h within place lane at = let low = within place lane at in omega (arith, low, h)

pub within_longer : (old new : List PartitionLane) (lanes : List ProcessLane) → length old ≤ length new → AreWithin (length old) lanes → AreWithin (length new) lanes
within_longer old new lanes h within = longer_within (length old) (length new) lanes h within

-- no process is of a partition that was not there
nobody_of : (count : ℕ) (word : List ℕ) (lanes : List ProcessLane) → AreWithin count lanes → process_in (Some count) word lanes ≡ None
nobody_of count word lanes within = by (process_in (Some count) word lanes) refl
  where
    by : (o : Option ℕ) → process_in (Some count) word lanes ≡ o → process_in (Some count) word lanes ≡ None
    by None e = e
    by (Some k) e =
        let x = found (is_process count word) lanes k e in
        let both = and_parts (x.0.partition == count) (same (subject_text x.0.who) word) x.2 in
        let here = eqb-true x.0.partition count both.0 in
        let low = within k x.0 x.1 in
        absurd (omega (arith, here, low))

-- a partition more changes no process's place
longer_place : (ps : List PartitionLane) (qs : List ProcessLane) (name m w : List ℕ) → AreWithin (length ps) qs → partition_at name ps ≡ None
    → process_in (partition_at m (ps ++ new_partition name ∷ [])) w qs ≡ process_in (partition_at m ps) w qs
longer_place ps qs name m w within none = by (partition_at m ps) refl
  where
    last : (b : Bool) → process_in (if b then Some (0 + length ps) else None) w qs ≡ None
    last false = refl
    last true =
        let here : 0 + length ps ≡ length ps = omega arith in
        ap (λ (k : ℕ). process_in (Some k) w qs) here ∙ nobody_of (length ps) w qs within

    by : (o : Option ℕ) → partition_at m ps ≡ o → process_in (partition_at m (ps ++ new_partition name ∷ [])) w qs ≡ process_in (partition_at m ps) w qs
    by (Some k) e =
        ap (λ (o : Option ℕ). process_in o w qs) (kept_place 0 (has_name m) ps (new_partition name) k e ∙ sym e)
    by None e =
        ap (λ (o : Option ℕ). process_in o w qs) (last_place 0 (has_name m) ps (new_partition name) e)
        ∙ (last (has_name m (new_partition name)) ∙ ap (λ (o : Option ℕ). process_in o w qs) (sym e))

longer_held : (ps : List PartitionLane) (qs : List ProcessLane) (name m w : List ℕ) → AreWithin (length ps) qs → partition_at name ps ≡ None
    → held_at (process_in (partition_at m (ps ++ new_partition name ∷ [])) w qs) qs ≡ held_at (process_in (partition_at m ps) w qs) qs
longer_held ps qs name m w within none = ap (λ (o : Option ℕ). held_at o qs) (longer_place ps qs name m w within none)

longer_mode : (ps : List PartitionLane) (name m : List ℕ) → mode_at (partition_at m (ps ++ new_partition name ∷ [])) (ps ++ new_partition name ∷ []) ≡ mode_at (partition_at m ps) ps
longer_mode ps name m = by (partition_at m ps) refl
  where
    more : List PartitionLane
    more = ps ++ new_partition name ∷ []

    last : (b : Bool) → mode_at (if b then Some (0 + length ps) else None) more ≡ None
    last false = refl
    last true =
        let here : 0 + length ps ≡ length ps = omega arith in
        ap (λ (k : ℕ). mode_at (Some k) more) here ∙ ap mode_held (get_last ps (new_partition name))

    by : (o : Option ℕ) → partition_at m ps ≡ o → mode_at (partition_at m more) more ≡ mode_at (partition_at m ps) ps
    by (Some k) e =
        let x = found (has_name m) ps k e in
        ap (λ (o : Option ℕ). mode_at o more) (kept_place 0 (has_name m) ps (new_partition name) k e)
        ∙ (ap mode_held (get_front ps (new_partition name) k x.0 x.1) ∙ (ap mode_held (sym x.1) ∙ ap (λ (o : Option ℕ). mode_at o ps) (sym e)))
    by None e =
        ap (λ (o : Option ℕ). mode_at o more) (last_place 0 (has_name m) ps (new_partition name) e)
        ∙ (last (has_name m (new_partition name)) ∙ ap (λ (o : Option ℕ). mode_at o ps) (sym e))

pub partition_found : (name : List ℕ) (old new : List PartitionLane) (place : ℕ) → HasPartition name old new place → partition_at name new ≡ Some place
partition_found name old new place (inl (same_ones, at)) = subst (λ (ps : List PartitionLane). partition_at name ps ≡ Some place) (sym same_ones) at
partition_found name old new place (inr (none, more, last)) =
    let here : 0 + length old ≡ place = omega (arith, last) in
    subst (λ (ps : List PartitionLane). partition_at name ps ≡ Some place) (sym more)
    (last_place 0 (has_name name) old (new_partition name) none ∙ (ap (λ (b : Bool). if b then Some (0 + length old) else None) (same_text name) ∙ ap Some here))

pub partition_kept : (old new : Lanes) (name : List ℕ) (place : ℕ) → HasPartition name old.partitions.items new.partitions.items place → new.processes.items ≡ old.processes.items → AreKept old new
partition_kept old new name place (inl (same_ones, at)) same_processes = record {
  held = λ m w. ap (λ (ps : List PartitionLane). held_at (process_in (partition_at m ps) w new.processes.items) new.processes.items) same_ones
      ∙ ap (λ (qs : List ProcessLane). held_at (process_in (partition_at m old.partitions.items) w qs) qs) same_processes;
  mode = λ m. ap (λ (ps : List PartitionLane). mode_at (partition_at m ps) ps) same_ones;
}
partition_kept old new name place (inr (none, more, last)) same_processes = record {
  held = λ m w. ap (λ (ps : List PartitionLane). held_at (process_in (partition_at m ps) w new.processes.items) new.processes.items) more
      ∙ (ap (λ (qs : List ProcessLane). held_at (process_in (partition_at m (old.partitions.items ++ new_partition name ∷ [])) w qs) qs) same_processes
      ∙ longer_held old.partitions.items old.processes.items name m w old.within none);
  mode = λ m. ap (λ (ps : List PartitionLane). mode_at (partition_at m ps) ps) more ∙ longer_mode old.partitions.items name m;
}

more_held : (qs : List ProcessLane) (p : ℕ) (who : Subject) (o : Option ℕ) (w : List ℕ) → held_at (process_in o w (qs ++ new_process p who ∷ [])) (qs ++ new_process p who ∷ []) ≡ held_at (process_in o w qs) qs
more_held qs p who None w = refl
more_held qs p who (Some q) w = by (process_in (Some q) w qs) refl
  where
    more : List ProcessLane
    more = qs ++ new_process p who ∷ []

    last : (b : Bool) → held_at (if b then Some (0 + length qs) else None) more ≡ None
    last false = refl
    last true =
        let here : 0 + length qs ≡ length qs = omega arith in
        ap (λ (k : ℕ). held_at (Some k) more) here ∙ ap held_in (get_last qs (new_process p who))

    by : (o : Option ℕ) → process_in (Some q) w qs ≡ o → held_at (process_in (Some q) w more) more ≡ held_at (process_in (Some q) w qs) qs
    by (Some k) e =
        let x = found (is_process q w) qs k e in
        ap (λ (o : Option ℕ). held_at o more) (kept_place 0 (is_process q w) qs (new_process p who) k e)
        ∙ (ap held_in (get_front qs (new_process p who) k x.0 x.1) ∙ (ap held_in (sym x.1) ∙ ap (λ (o : Option ℕ). held_at o qs) (sym e)))
    by None e =
        ap (λ (o : Option ℕ). held_at o more) (last_place 0 (is_process q w) qs (new_process p who) e)
        ∙ (last (is_process q w (new_process p who)) ∙ ap (λ (o : Option ℕ). held_at o qs) (sym e))

pub process_found : (partition : ℕ) (who : Subject) (old new : List ProcessLane) (place : ℕ) → HasProcess partition who old new place → process_in (Some partition) (subject_text who) new ≡ Some place
process_found partition who old new place (inl (same_ones, at)) = subst (λ (qs : List ProcessLane). process_in (Some partition) (subject_text who) qs ≡ Some place) (sym same_ones) at
process_found partition who old new place (inr (none, more, last)) =
    let here : 0 + length old ≡ place = omega (arith, last) in
    let it = and_from (partition == partition) (same (subject_text who) (subject_text who)) (eq-eqb partition partition refl) (same_text (subject_text who)) in
    subst (λ (qs : List ProcessLane). process_in (Some partition) (subject_text who) qs ≡ Some place) (sym more)
    (last_place 0 (is_process partition (subject_text who)) old (new_process partition who) none ∙ (ap (λ (b : Bool). if b then Some (0 + length old) else None) it ∙ ap Some here))

pub process_kept : (mid new : Lanes) (partition : ℕ) (who : Subject) (place : ℕ) → HasProcess partition who mid.processes.items new.processes.items place → new.partitions.items ≡ mid.partitions.items → AreKept mid new
process_kept mid new partition who place (inl (same_ones, at)) same_partitions = record {
  held = λ m w. ap (λ (qs : List ProcessLane). held_at (process_in (partition_at m new.partitions.items) w qs) qs) same_ones
      ∙ ap (λ (ps : List PartitionLane). held_at (process_in (partition_at m ps) w mid.processes.items) mid.processes.items) same_partitions;
  mode = λ m. ap (λ (ps : List PartitionLane). mode_at (partition_at m ps) ps) same_partitions;
}
process_kept mid new partition who place (inr (none, more, last)) same_partitions = record {
  held = λ m w. ap (λ (qs : List ProcessLane). held_at (process_in (partition_at m new.partitions.items) w qs) qs) more
      ∙ (ap (λ (ps : List PartitionLane). held_at (process_in (partition_at m ps) w (mid.processes.items ++ new_process partition who ∷ [])) (mid.processes.items ++ new_process partition who ∷ [])) same_partitions
      ∙ more_held mid.processes.items partition who (partition_at m mid.partitions.items) w);
  mode = λ m. ap (λ (ps : List PartitionLane). mode_at (partition_at m ps) ps) same_partitions;
}

pub both_kept : (old mid new : Lanes) → AreKept old mid → AreKept mid new → AreKept old new
both_kept old mid new a b = record { held = λ m w. b.held m w ∙ a.held m w; mode = λ m. b.mode m ∙ a.mode m }

-- ---- each keeps its place

same_place : (count : ℕ) (o p : Option ℕ) → p ≡ o → KeepsPlace count o p
same_place count None None e = tt
same_place count None (Some k) e = absurd (no_some (sym e))
same_place count (Some k) p e = e

-- one more at the end
longer_keeps : {A : Type 0} (test : A → Bool) (xs : List A) (y : A) → KeepsPlace (length xs) (place_from 0 test xs) (place_from 0 test (xs ++ y ∷ []))
longer_keeps {A = A} test xs y = by (place_from 0 test xs) refl
  where
    last : (b : Bool) → KeepsPlace (length xs) None (if b then Some (0 + length xs) else None)
    last false = tt
    last true = omega arith

    by : (o : Option ℕ) → place_from 0 test xs ≡ o → KeepsPlace (length xs) (place_from 0 test xs) (place_from 0 test (xs ++ y ∷ []))
    by (Some k) e = subst (λ (o : Option ℕ). KeepsPlace (length xs) o (place_from 0 test (xs ++ y ∷ []))) (sym e) (kept_place 0 test xs y k e)
    by None e = subst (λ (o : Option ℕ). KeepsPlace (length xs) o (place_from 0 test (xs ++ y ∷ []))) (sym e)
        (subst (KeepsPlace (length xs) None) (sym (last_place 0 test xs y e)) (last (test y)))

longer_length : {A : Type 0} (xs : List A) (y : A) → length xs ≤ length (xs ++ y ∷ [])
longer_length [] y = omega arith
longer_length (x ∷ xs) y = let rest = longer_length xs y in omega (arith, rest)

same_length : {A : Type 0} (xs ys : List A) → ys ≡ xs → length xs ≤ length ys
same_length xs ys e = let all : length ys ≡ length xs = ap length e in omega (arith, all)

-- nothing but what they hold is changed
pub in_same_place : (old new : Lanes) → ((m w : List ℕ) → process_at m w new ≡ process_at m w old) → ((m : List ℕ) → partition_at m new.partitions.items ≡ partition_at m old.partitions.items)
    → length new.processes.items ≡ length old.processes.items → length new.partitions.items ≡ length old.partitions.items → AreInPlace old new
in_same_place old new process partition processes partitions = record {
  process = λ m w. same_place (length old.processes.items) (process_at m w old) (process_at m w new) (process m w);
  partition = λ m. same_place (length old.partitions.items) (partition_at m old.partitions.items) (partition_at m new.partitions.items) (partition m);
  processes = omega (arith, processes);
  partitions = omega (arith, partitions);
}

pub partition_in_place : (old new : Lanes) (name : List ℕ) (place : ℕ) → HasPartition name old.partitions.items new.partitions.items place → new.processes.items ≡ old.processes.items → AreInPlace old new
partition_in_place old new name place (inl (same_ones, at)) same_processes = in_same_place old new
    (λ m w. ap (λ (ps : List PartitionLane). process_in (partition_at m ps) w new.processes.items) same_ones ∙ ap (λ (qs : List ProcessLane). process_in (partition_at m old.partitions.items) w qs) same_processes)
    (λ m. ap (partition_at m) same_ones) (ap length same_processes) (ap length same_ones)
partition_in_place old new name place (inr (none, more, last)) same_processes = record {
  process = λ m w. same_place (length old.processes.items) (process_at m w old) (process_at m w new)
      (ap (λ (ps : List PartitionLane). process_in (partition_at m ps) w new.processes.items) more
      ∙ (ap (λ (qs : List ProcessLane). process_in (partition_at m (old.partitions.items ++ new_partition name ∷ [])) w qs) same_processes
      ∙ longer_place old.partitions.items old.processes.items name m w old.within none));
  partition = λ m. subst (λ (ps : List PartitionLane). KeepsPlace (length old.partitions.items) (partition_at m old.partitions.items) (partition_at m ps)) (sym more)
      (longer_keeps (has_name m) old.partitions.items (new_partition name));
  processes = same_length old.processes.items new.processes.items same_processes;
  partitions = subst (λ (ps : List PartitionLane). length old.partitions.items ≤ length ps) (sym more) (longer_length old.partitions.items (new_partition name));
}

more_keeps : (qs : List ProcessLane) (p : ℕ) (who : Subject) (o : Option ℕ) (w : List ℕ) → KeepsPlace (length qs) (process_in o w qs) (process_in o w (qs ++ new_process p who ∷ []))
more_keeps qs p who None w = tt
more_keeps qs p who (Some q) w = longer_keeps (is_process q w) qs (new_process p who)

pub process_in_place : (mid new : Lanes) (partition : ℕ) (who : Subject) (place : ℕ) → HasProcess partition who mid.processes.items new.processes.items place → new.partitions.items ≡ mid.partitions.items → AreInPlace mid new
process_in_place mid new partition who place (inl (same_ones, at)) same_partitions = in_same_place mid new
    (λ m w. ap (λ (qs : List ProcessLane). process_in (partition_at m new.partitions.items) w qs) same_ones ∙ ap (λ (ps : List PartitionLane). process_in (partition_at m ps) w mid.processes.items) same_partitions)
    (λ m. ap (partition_at m) same_partitions) (ap length same_ones) (ap length same_partitions)
process_in_place mid new partition who place (inr (none, more, last)) same_partitions = record {
  process = λ m w. subst (λ (qs : List ProcessLane). KeepsPlace (length mid.processes.items) (process_at m w mid) (process_in (partition_at m new.partitions.items) w qs)) (sym more)
      (subst (λ (ps : List PartitionLane). KeepsPlace (length mid.processes.items) (process_at m w mid) (process_in (partition_at m ps) w (mid.processes.items ++ new_process partition who ∷ []))) (sym same_partitions)
      (more_keeps mid.processes.items partition who (partition_at m mid.partitions.items) w));
  partition = λ m. same_place (length mid.partitions.items) (partition_at m mid.partitions.items) (partition_at m new.partitions.items) (ap (partition_at m) same_partitions);
  processes = subst (λ (qs : List ProcessLane). length mid.processes.items ≤ length qs) (sym more) (longer_length mid.processes.items (new_process partition who));
  partitions = same_length mid.partitions.items new.partitions.items same_partitions;
}

keeps_both : (a b : ℕ) (o p q : Option ℕ) → a ≤ b → KeepsPlace a o p → KeepsPlace b p q → KeepsPlace a o q
keeps_both a b (Some k) p q h first second = by p first second
  where
    by : (p : Option ℕ) → p ≡ Some k → KeepsPlace b p q → q ≡ Some k
    by None e second = absurd (no_some e)
    by (Some j) e second = second ∙ e
keeps_both a b None (Some j) q h first second = by q second
  where
    by : (q : Option ℕ) → q ≡ Some j → KeepsPlace a None q
    by None e = absurd (no_some e)
    by (Some i) e = let here : i ≡ j = of_some e in omega (arith, here, first)
keeps_both a b None None None h first second = tt
keeps_both a b None None (Some i) h first second = omega (arith, h, second)

pub both_in_place : (old mid new : Lanes) → AreInPlace old mid → AreInPlace mid new → AreInPlace old new
both_in_place old mid new a b = record {
  process = λ m w. keeps_both (length old.processes.items) (length mid.processes.items) (process_at m w old) (process_at m w mid) (process_at m w new) a.processes (a.process m w) (b.process m w);
  partition = λ m. keeps_both (length old.partitions.items) (length mid.partitions.items) (partition_at m old.partitions.items) (partition_at m mid.partitions.items) (partition_at m new.partitions.items)
      a.partitions (a.partition m) (b.partition m);
  processes = let first = a.processes in let second = b.processes in omega (arith, first, second);
  partitions = let first = a.partitions in let second = b.partitions in omega (arith, first, second);
}

pub in_own_place : (l : Lanes) → AreInPlace l l
in_own_place l = in_same_place l l (λ m w. refl) (λ m. refl) refl refl

-- a new process is of a partition that is there
pub within_more : (count partition : ℕ) (who : Subject) (old new : List ProcessLane) (place : ℕ) → partition < count → HasProcess partition who old new place → AreWithin count old → AreWithin count new
within_more count partition who old new place low (inl (same_ones, at)) within = subst (AreWithin count) (sym same_ones) within
within_more count partition who old new place low (inr (none, more, last)) within =
    let all : AreWithin count (old ++ new_process partition who ∷ []) = λ k lane at. elim (get_longer old (new_process partition who) k lane at) [
      | inl there ↦ within k lane there
      | inr is ↦ subst (λ (p : ProcessLane). p.partition < count) is low
    ] in
    subst (AreWithin count) (sym more) all

pub within_found : (count partition : ℕ) (who : Subject) (old new : List ProcessLane) (r : Result ℕ MemoryFull) → partition < count
    → IfOk r (HasProcess partition who old new) → OnErr r (new ≡ old) → AreWithin count old → AreWithin count new
within_found count partition who old new (Ok place) low has failed within = within_more count partition who old new place low has within
within_found count partition who old new (Err fault) low has failed within = subst (AreWithin count) (sym failed) within

pub found_below : (name : List ℕ) (lanes : List PartitionLane) (place : ℕ) → partition_at name lanes ≡ Some place → place < length lanes
found_below name lanes place h = let x = found (has_name name) lanes place h in get_below lanes place x.0 x.1

-- ---- the stays that are over

pub stays_two_at : (k : ℕ) (es fs : List Ended) → stays_at k (es ++ fs) ≡ stays_at k es ++ stays_at k fs
unfolding stays_at
stays_two_at k [] fs = refl
stays_two_at k (ended.State other stay ∷ es) fs = ap (λ (ss : List Stay). if_at (other == k) stay ++ ss) (stays_two_at k es fs) ∙ sym (append_assoc (if_at (other == k) stay) (stays_at k es) (stays_at k fs))
stays_two_at k (ended.Mode other stay ∷ es) fs = stays_two_at k es fs

pub stays_two : (o : Option ℕ) (es fs : List Ended) → stays_of o (es ++ fs) ≡ stays_of o es ++ stays_of o fs
stays_two None es fs = refl
stays_two (Some k) es fs = stays_two_at k es fs

pub one_over : (k : ℕ) (o : Option Stay) → stays_at k (state_over k o) ≡ and_one o
unfolding stays_at
one_over k None = refl
one_over k (Some stay) = ap (λ (b : Bool). if_at b stay ++ []) (eq-eqb k k refl)

pub none_over : (j k : ℕ) (o : Option Stay) → (j ≡ k → ⊥) → stays_at j (state_over k o) ≡ []
unfolding stays_at
none_over j k None apart = refl
none_over j k (Some stay) apart = ap (λ (b : Bool). if_at b stay ++ []) (apart_eqb k j (λ e. apart (sym e)))

pub no_modes_at : (j k : ℕ) (m : Option ModeStay) → stays_at j (mode_over k m) ≡ []
unfolding stays_at
no_modes_at j k None = refl
no_modes_at j k (Some stay) = refl

no_modes : (o : Option ℕ) (k : ℕ) (m : Option ModeStay) → stays_of o (mode_over k m) ≡ []
no_modes None k m = refl
no_modes (Some j) k m = no_modes_at j k m

-- those of partitions
pub modes_two_at : (k : ℕ) (es fs : List Ended) → mode_stays_at k (es ++ fs) ≡ mode_stays_at k es ++ mode_stays_at k fs
unfolding mode_stays_at
modes_two_at k [] fs = refl
modes_two_at k (ended.State other stay ∷ es) fs = modes_two_at k es fs
modes_two_at k (ended.Mode other stay ∷ es) fs =
    ap (λ (ss : List ModeStay). if_in (other == k) stay ++ ss) (modes_two_at k es fs) ∙ sym (append_assoc (if_in (other == k) stay) (mode_stays_at k es) (mode_stays_at k fs))

pub modes_two : (o : Option ℕ) (es fs : List Ended) → mode_stays_of o (es ++ fs) ≡ mode_stays_of o es ++ mode_stays_of o fs
modes_two None es fs = refl
modes_two (Some k) es fs = modes_two_at k es fs

pub one_mode : (k : ℕ) (o : Option ModeStay) → mode_stays_at k (mode_over k o) ≡ and_one o
unfolding mode_stays_at
one_mode k None = refl
one_mode k (Some stay) = ap (λ (b : Bool). if_in b stay ++ []) (eq-eqb k k refl)

pub none_mode : (j k : ℕ) (o : Option ModeStay) → (j ≡ k → ⊥) → mode_stays_at j (mode_over k o) ≡ []
unfolding mode_stays_at
none_mode j k None apart = refl
none_mode j k (Some stay) apart = ap (λ (b : Bool). if_in b stay ++ []) (apart_eqb k j (λ e. apart (sym e)))

pub no_states_at : (j k : ℕ) (o : Option Stay) → mode_stays_at j (state_over k o) ≡ []
unfolding mode_stays_at
no_states_at j k None = refl
no_states_at j k (Some stay) = refl

-- what is added has no stay at this place
without_stays : (o : Option ℕ) (es more after : List Ended) → after ≡ es ++ more → stays_of o more ≡ [] → stays_of o after ≡ stays_of o es
without_stays o es more after is none = ap (stays_of o) is ∙ (stays_two o es more ∙ (ap (λ (ss : List Stay). stays_of o es ++ ss) none ∙ append-nil (stays_of o es)))

without_modes : (o : Option ℕ) (es more after : List Ended) → after ≡ es ++ more → mode_stays_of o more ≡ [] → mode_stays_of o after ≡ mode_stays_of o es
without_modes o es more after is none = ap (mode_stays_of o) is ∙ (modes_two o es more ∙ (ap (λ (ss : List ModeStay). mode_stays_of o es ++ ss) none ∙ append-nil (mode_stays_of o es)))

-- all are of those that are there
abbrev pub AreThereIn : (processes partitions : ℕ) → List Ended → Type 0
AreThereIn processes partitions es = ((j : ℕ) → processes ≤ j → stays_at j es ≡ []) × ((j : ℕ) → partitions ≤ j → mode_stays_at j es ≡ [])

still_there : (old new : Lanes) (before more after : List Ended) → AreInPlace old new → after ≡ before ++ more → AreThereIn (length new.processes.items) (length new.partitions.items) more
    → AreThere old before → AreThere new after
still_there old new before more after places is here there =
    let grown = places.processes in
    let longer = places.partitions in
    record {
      states = λ j past. without_stays (Some j) before more after is (here.0 j past) ∙ there.states j (omega (arith, past, grown));
      modes = λ j past. without_modes (Some j) before more after is (here.1 j past) ∙ there.modes j (omega (arith, past, longer));
    }

length_changed : {A : Type 0} (k : ℕ) (f : A → A) (xs : List A) → length (change_at k f xs) ≡ length xs
length_changed k f [] = refl
length_changed zero f (x ∷ xs) = refl
length_changed (suc k) f (x ∷ xs) = ap suc (length_changed k f xs)

length_mapped : {A : Type 0} (f : A → A) (xs : List A) → length (map f xs) ≡ length xs
length_mapped f [] = refl
length_mapped f (x ∷ xs) = ap suc (length_mapped f xs)

-- ---- a process enters a state

if_alike : {A : Type 0} (b : Bool) (x : A) → x ≡ (if b then x else x)
if_alike true x = refl
if_alike false x = refl

blind_turn : (q : ℕ) (w : List ℕ) (next : Next) (t : ℕ) (lane : ProcessLane) → is_process q w (turned next t lane) ≡ is_process q w lane
blind_turn q w next t lane = refl

blind_turns : (k : ℕ) (next : Next) (t : ℕ) (o : Option ℕ) (w : List ℕ) (qs : List ProcessLane) → process_in o w (change_at k (turned next t) qs) ≡ process_in o w qs
blind_turns k next t None w qs = refl
blind_turns k next t (Some q) w qs = change_place 0 (is_process q w) (turned next t) k qs (blind_turn q w next t)

module _ (mid : Lanes) (name word : List ℕ) (who : Subject) (s : ProcessState) (t k : ℕ) (is : subject_text who ≡ word) (at : process_at name word mid ≡ Some k) where
  abbrev ps : List PartitionLane
  ps = mid.partitions.items

  abbrev qs : List ProcessLane
  qs = mid.processes.items

  abbrev later : List ProcessLane
  later = change_at k (turned (Enters s) t) qs

  abbrev over : List Ended
  over = over_at k (Enters s) t (slice_get qs k)

  lane_there : (lane : ProcessLane) × (slice_get qs k ≡ Some lane)
  lane_there = by (partition_at name ps) at
    where
      by : (o : Option ℕ) → process_in o word qs ≡ Some k → (lane : ProcessLane) × (slice_get qs k ≡ Some lane)
      by None h = absurd (no_some h)
      by (Some q) h = let x = found (is_process q word) qs k h in (x.0, x.1)

  -- the process itself
  own_state : (o : Option ℕ) → o ≡ Some k → held_at o later ≡ held_behind (held_at o qs) (Enters s) t
  own_state o e =
      let lane = lane_there in
      ap (λ (p : Option ℕ). held_at p later) e
      ∙ (ap held_in (get_same k (turned (Enters s) t) qs lane.0 lane.1)
      ∙ ap (λ (h : Option Held). held_behind h (Enters s) t) (ap held_in (sym lane.1) ∙ ap (λ (p : Option ℕ). held_at p qs) (sym e)))

  own_over : (o : Option ℕ) → o ≡ Some k → stays_of o over ≡ and_one (stay_ended (held_at o qs) (Enters s) t)
  own_over o e =
      let lane = lane_there in
      ap (λ (p : Option ℕ). stays_of p over) e
      ∙ (ap (λ (p : Option ProcessLane). stays_at k (over_at k (Enters s) t p)) lane.1
      ∙ (one_over k (stay_ended lane.0.watch.held (Enters s) t)
      ∙ ap (λ (h : Option Held). and_one (stay_ended h (Enters s) t)) (ap held_in (sym lane.1) ∙ ap (λ (p : Option ℕ). held_at p qs) (sym e))))

  -- another one
  other_state : (o : Option ℕ) → (o ≡ Some k → ⊥) → held_at o later ≡ held_at o qs
  other_state None apart = refl
  other_state (Some j) apart = ap held_in (get_other k (turned (Enters s) t) qs j (λ e. apart (ap Some e)))

  other_over : (o : Option ℕ) → (o ≡ Some k → ⊥) → stays_of o over ≡ []
  other_over None apart = refl
  other_over (Some j) apart =
      let lane = lane_there in
      ap (λ (p : Option ProcessLane). stays_at j (over_at k (Enters s) t p)) lane.1
      ∙ none_over j k (stay_ended lane.0.watch.held (Enters s) t) (λ e. apart (ap Some e))

  abbrev place_of : List ℕ → List ℕ → Option ℕ
  place_of m w = process_at m w mid

  state_turned : (m w : List ℕ) → held_at (place_of m w) later ≡ state_behind (Some name) (event.State who s) t m w (held_at (place_of m w) qs)
  state_turned m w = by (same name m) refl (same (subject_text who) w) refl
    where
      held : Option Held
      held = held_at (place_of m w) qs

      by : (b : Bool) → same name m ≡ b → (c : Bool) → same (subject_text who) w ≡ c → held_at (place_of m w) later ≡ held_with (if b then next_if c (Enters s) else None) t held
      by true e true f =
          let named = same_is name m e in
          let worded : word ≡ w = sym is ∙ same_is (subject_text who) w f in
          own_state (place_of m w) (subst (λ (v : List ℕ). process_at m v mid ≡ Some k) worded (subst (λ (n : List ℕ). process_at n word mid ≡ Some k) named at))
      by true e false f = other_state (place_of m w) (λ g. false≢true (sym f ∙ (ap (λ (v : List ℕ). same (subject_text who) v) ((one_process mid m w name word k g at).1 ∙ sym is) ∙ same_text (subject_text who))))
      by false e c f = other_state (place_of m w) (λ g. false≢true (sym e ∙ (ap (λ (n : List ℕ). same name n) ((one_process mid m w name word k g at).0) ∙ same_text name)))

  over_turned : (m w : List ℕ) → stays_of (place_of m w) over ≡ and_one (stay_over (Some name) (event.State who s) t m w (held_at (place_of m w) qs))
  over_turned m w = by (same name m) refl (same (subject_text who) w) refl
    where
      held : Option Held
      held = held_at (place_of m w) qs

      by : (b : Bool) → same name m ≡ b → (c : Bool) → same (subject_text who) w ≡ c → stays_of (place_of m w) over ≡ and_one (stay_with (if b then next_if c (Enters s) else None) t held)
      by true e true f =
          let named = same_is name m e in
          let worded : word ≡ w = sym is ∙ same_is (subject_text who) w f in
          own_over (place_of m w) (subst (λ (v : List ℕ). process_at m v mid ≡ Some k) worded (subst (λ (n : List ℕ). process_at n word mid ≡ Some k) named at))
      by true e false f = other_over (place_of m w) (λ g. false≢true (sym f ∙ (ap (λ (v : List ℕ). same (subject_text who) v) ((one_process mid m w name word k g at).1 ∙ sym is) ∙ same_text (subject_text who))))
      by false e c f = other_over (place_of m w) (λ g. false≢true (sym e ∙ (ap (λ (n : List ℕ). same name n) ((one_process mid m w name word k g at).0) ∙ same_text name)))

over_there : (k : ℕ) (s : ProcessState) (t partitions : ℕ) (qs : List ProcessLane) (o : Option ProcessLane) → slice_get qs k ≡ o → AreThereIn (length qs) partitions (over_at k (Enters s) t o)
unfolding stays_at mode_stays_at
over_there k s t partitions qs None e = (λ j past. refl, λ j past. refl)
over_there k s t partitions qs (Some lane) e =
    let low = get_below qs k lane e in
    (λ j past. none_over j k (stay_ended lane.watch.held (Enters s) t) (λ same. omega (arith, low, past, same)), λ j past. no_states_at j k (stay_ended lane.watch.held (Enters s) t))

over_no_mode : (o : Option ℕ) (k : ℕ) (s : ProcessState) (t : ℕ) (p : Option ProcessLane) → mode_stays_of o (over_at k (Enters s) t p) ≡ []
unfolding mode_stays_at
over_no_mode None k s t p = refl
over_no_mode (Some j) k s t None = refl
over_no_mode (Some j) k s t (Some lane) = no_states_at j k (stay_ended lane.watch.held (Enters s) t)

-- nothing is added
and_none : {A : Type 0} (xs : List A) (o : Option A) → o ≡ None → xs ≡ xs ++ and_one o
and_none xs o none = sym (append-nil xs) ∙ ap (λ p. xs ++ and_one p) (sym none)

pub has_turned : (old mid new : Lanes) (name : List ℕ) (who : Subject) (s : ProcessState) (t k : ℕ) (before after : List Ended) → AreKept old mid → AreInPlace old mid → process_at name (subject_text who) mid ≡ Some k
    → new.partitions.items ≡ mid.partitions.items → new.processes.items ≡ change_at k (turned (Enters s) t) mid.processes.items
    → after ≡ before ++ over_at k (Enters s) t (slice_get mid.processes.items k)
    → HasRead (Some name) (event.State who s) t old new before after
has_turned old mid new name who s t k before after kept in_place at same_partitions same_processes more = record {
  held = λ m w. ap (λ (o : Option ℕ). held_at o new.processes.items) (place m w)
      ∙ (ap (λ (l : List ProcessLane). held_at (process_at m w mid) l) same_processes
      ∙ (state_turned mid name (subject_text who) who s t k refl at m w
      ∙ ap (λ (h : Option Held). state_behind (Some name) (event.State who s) t m w h) (kept.held m w)));
  mode = λ m. ap (λ (l : List PartitionLane). mode_at (partition_at m l) l) same_partitions ∙ (kept.mode m ∙ if_alike (same name m) (mode_by m old));
  ended = λ m w. ap (stays_of (process_at m w new)) more
      ∙ (stays_two (process_at m w new) before (over_at k (Enters s) t (slice_get mid.processes.items k))
      ∙ ap (λ (ss : List Stay). stays_of (process_at m w new) before ++ ss)
      (ap (λ (o : Option ℕ). stays_of o (over_at k (Enters s) t (slice_get mid.processes.items k))) (place m w)
      ∙ (over_turned mid name (subject_text who) who s t k refl at m w
      ∙ ap (λ (h : Option Held). and_one (stay_over (Some name) (event.State who s) t m w h)) (kept.held m w))));
  left = λ m. without_modes (partition_at m new.partitions.items) before over after more (over_no_mode (partition_at m new.partitions.items) k s t (slice_get mid.processes.items k))
      ∙ and_none (mode_stays_of (partition_at m new.partitions.items) before) (if same name m then None else None) (sym (if_alike (same name m) None));
  places = places;
  there = still_there old new before over after places more (subst (λ (n : ℕ). AreThereIn n (length new.partitions.items) over) (sym count)
      (over_there k s t (length new.partitions.items) mid.processes.items (slice_get mid.processes.items k) refl));
}
  where
    over : List Ended
    over = over_at k (Enters s) t (slice_get mid.processes.items k)

    count : length new.processes.items ≡ length mid.processes.items
    count = ap length same_processes ∙ length_changed k (turned (Enters s) t) mid.processes.items

    place : (m w : List ℕ) → process_at m w new ≡ process_at m w mid
    place m w =
        ap (λ (l : List PartitionLane). process_in (partition_at m l) w new.processes.items) same_partitions
        ∙ (ap (λ (l : List ProcessLane). process_in (partition_at m mid.partitions.items) w l) same_processes
        ∙ blind_turns k (Enters s) t (partition_at m mid.partitions.items) w mid.processes.items)

    places : AreInPlace old new
    places = both_in_place old mid new in_place (in_same_place mid new place (λ m. ap (partition_at m) same_partitions) count (ap length same_partitions))

pub within_turned : (count k : ℕ) (next : Next) (t : ℕ) (lanes : List ProcessLane) → AreWithin count lanes → AreWithin count (change_at k (turned next t) lanes)
within_turned count k next t lanes within place lane at =
    let y = get_changed k (turned next t) lanes place lane at in
    let low = within place y.0 y.1 in
    elim y.2 [
      | inl is ↦ subst (λ (p : ProcessLane). p.partition < count) (sym is) low
      | inr is ↦ subst (λ (p : ProcessLane). p.partition < count) (sym is) low
    ]

-- ---- a line that changes no state and no mode

abbrev pub IsOther : EventKind → Type 0
IsOther (event.State who s) = ⊥
IsOther (event.Mode m) = ⊥
IsOther (event.Error error who answer) = clears error answer ≡ false
IsOther _ = Unit {0}

other_next : (kind : EventKind) (w : List ℕ) → IsOther kind → next_in kind w ≡ None
other_next (event.State who s) w other = absurd other
other_next (event.Mode m) w other = absurd other
other_next (event.Return who service code) w other = refl
other_next (event.Error error who answer) w other = ap (λ (b : Bool). next_if b Cleared) other
other_next (event.Report who words) w other = refl
other_next (event.Move port words) w other = refl
other_next (event.Arrive port words) w other = refl
other_next (event.Lost port words) w other = refl
other_next (event.Out channel words) w other = refl

no_next : (b : Bool) (o : Option Next) → o ≡ None → None ≡ (if b then o else None)
no_next true o none = sym none
no_next false o none = refl

other_mode_in : (kind : EventKind) (t : ℕ) (h : Option HeldMode) → IsOther kind → mode_in kind t h ≡ h
other_mode_in (event.State who s) t h other = absurd other
other_mode_in (event.Mode m) t h other = absurd other
other_mode_in (event.Return who service code) t h other = refl
other_mode_in (event.Error error who answer) t h other = refl
other_mode_in (event.Report who words) t h other = refl
other_mode_in (event.Move port words) t h other = refl
other_mode_in (event.Arrive port words) t h other = refl
other_mode_in (event.Lost port words) t h other = refl
other_mode_in (event.Out channel words) t h other = refl

if_same_then : {A : Type 0} (b : Bool) (x y : A) → y ≡ x → x ≡ (if b then y else x)
if_same_then true x y e = sym e
if_same_then false x y e = refl

other_mode_stay_in : (kind : EventKind) (t : ℕ) (h : Option HeldMode) → IsOther kind → mode_stay_in kind t h ≡ None
other_mode_stay_in (event.State who s) t h other = absurd other
other_mode_stay_in (event.Mode m) t h other = absurd other
other_mode_stay_in (event.Return who service code) t h other = refl
other_mode_stay_in (event.Error error who answer) t h other = refl
other_mode_stay_in (event.Report who words) t h other = refl
other_mode_stay_in (event.Move port words) t h other = refl
other_mode_stay_in (event.Arrive port words) t h other = refl
other_mode_stay_in (event.Lost port words) t h other = refl
other_mode_stay_in (event.Out channel words) t h other = refl

-- those that were over are of those that are there still
same_there : (old new : Lanes) (es : List Ended) → AreInPlace old new → AreThere old es → AreThere new es
unfolding stays_at mode_stays_at
same_there old new es places there = still_there old new es [] es places (sym (append-nil es)) (λ j past. refl, λ j past. refl) there

pub has_read_other : (old new : Lanes) (name : List ℕ) (kind : EventKind) (t : ℕ) (es : List Ended) → AreKept old new → AreInPlace old new → IsOther kind → HasRead (Some name) kind t old new es es
has_read_other old new name kind t es kept places other = record {
  held = λ m w. kept.held m w ∙ ap (λ (o : Option Next). held_with o t (held_by m w old)) (no_next (same name m) (next_in kind w) (other_next kind w other));
  mode = λ m. kept.mode m ∙ if_same_then (same name m) (mode_by m old) (mode_in kind t (mode_by m old)) (other_mode_in kind t (mode_by m old) other);
  ended = λ m w. and_none (stays_of (process_at m w new) es) (stay_over (Some name) kind t m w (held_by m w old))
      (ap (λ (o : Option Next). stay_with o t (held_by m w old)) (sym (no_next (same name m) (next_in kind w) (other_next kind w other))));
  left = λ m. and_none (mode_stays_of (partition_at m new.partitions.items) es) (mode_stay_over (Some name) kind t m (mode_by m old))
      (sym (if_same_then (same name m) None (mode_stay_in kind t (mode_by m old)) (other_mode_stay_in kind t (mode_by m old) other)));
  places = places;
  there = same_there old new es places;
}

-- a line of the module
pub has_read_none : (l : Lanes) (kind : EventKind) (t : ℕ) (es : List Ended) → next_of_all kind ≡ None → HasRead None kind t l l es es
has_read_none l kind t es none = record {
  held = λ m w. ap (λ (o : Option Next). held_with o t (held_by m w l)) (sym none);
  mode = λ m. refl;
  ended = λ m w. and_none (stays_of (process_at m w l) es) (stay_over None kind t m w (held_by m w l)) (ap (λ (o : Option Next). stay_with o t (held_by m w l)) none);
  left = λ m. sym (append-nil (mode_stays_of (partition_at m l.partitions.items) es));
  places = in_own_place l;
  there = λ there. there;
}

-- ---- the processes of a partition are gone

blind_gone : (q : ℕ) (w : List ℕ) (among : Option ℕ) (next : Next) (t : ℕ) (lane : ProcessLane) → is_process q w (gone_from among next t lane) ≡ is_process q w lane
blind_gone q w among next t lane = by (is_among among lane.partition)
  where
    by : (b : Bool) → is_process q w (if b then turned next t lane else lane) ≡ is_process q w lane
    by true = refl
    by false = refl

blind_map : (among : Option ℕ) (next : Next) (t : ℕ) (lanes : List ProcessLane) (o : Option ℕ) (w : List ℕ) → process_in o w (map (gone_from among next t) lanes) ≡ process_in o w lanes
blind_map among next t lanes None w = refl
blind_map among next t lanes (Some q) w = map_place 0 (is_process q w) (gone_from among next t) lanes (blind_gone q w among next t)

-- those of the partition are gone, and no others
held_gone : (among : Option ℕ) (next : Next) (t : ℕ) (lane : ProcessLane) → (gone_from among next t lane).watch.held ≡ held_with (next_if (is_among among lane.partition) next) t lane.watch.held
held_gone among next t lane = by (is_among among lane.partition)
  where
    by : (b : Bool) → (if b then turned next t lane else lane).watch.held ≡ held_with (next_if b next) t lane.watch.held
    by true = refl
    by false = refl

gone_at : (among : Option ℕ) (next : Next) (t : ℕ) (qs : List ProcessLane) (j : ℕ) (lane : ProcessLane) → slice_get qs j ≡ Some lane
    → held_at (Some j) (map (gone_from among next t) qs) ≡ held_with (next_if (is_among among lane.partition) next) t (held_at (Some j) qs)
gone_at among next t qs j lane h =
    ap held_in (get_map (gone_from among next t) qs j lane h)
    ∙ (held_gone among next t lane ∙ ap (λ (o : Option ProcessLane). held_with (next_if (is_among among lane.partition) next) t (held_in o)) (sym h))

-- the stays of the process at a place among those of all
module _ (among : Option ℕ) (next : Next) (t : ℕ) where
  abbrev stay_of_lane : ProcessLane → Option Stay
  stay_of_lane lane = stay_ended lane.watch.held next t

  abbrev over_from : ℕ → List ProcessLane → List Ended
  over_from n qs = over_with n among next t qs

  stays_after : (n : ℕ) (qs : List ProcessLane) (j : ℕ) → j < n → stays_at j (over_from n qs) ≡ []
  unfolding over_with stays_at
  stays_after n [] j low = refl
  stays_after n (lane ∷ qs) j low = by (is_among among lane.partition) (stays_after (n + 1) qs j (omega (arith, low)))
    where
      by : (b : Bool) → stays_at j (over_from (n + 1) qs) ≡ [] → stays_at j ((if b then state_over n (stay_of_lane lane) else []) ++ over_from (n + 1) qs) ≡ []
      by false rest = rest
      by true rest =
          stays_two (Some j) (state_over n (stay_of_lane lane)) (over_from (n + 1) qs)
          ∙ (ap (λ (ss : List Stay). ss ++ stays_at j (over_from (n + 1) qs)) (none_over j n (stay_of_lane lane) (λ e. omega (arith, low, e))) ∙ rest)

  stays_among : (n : ℕ) (qs : List ProcessLane) (j : ℕ) (lane : ProcessLane) → slice_get qs j ≡ Some lane
      → stays_at (n + j) (over_from n qs) ≡ and_one (stay_with (next_if (is_among among lane.partition) next) t lane.watch.held)
  unfolding over_with stays_at
  stays_among n [] j lane h = cc
  stays_among n (x ∷ qs) zero lane h =
      let here : n + 0 ≡ n = omega arith in
      ap (λ (k : ℕ). stays_at k (over_from n (x ∷ qs))) here
      ∙ (first (is_among among x.partition) ∙ ap (λ (l : ProcessLane). and_one (stay_with (next_if (is_among among l.partition) next) t l.watch.held)) (of_some h))
    where
      rest : stays_at n (over_from (n + 1) qs) ≡ []
      rest = stays_after (n + 1) qs n (omega arith)

      first : (b : Bool) → stays_at n ((if b then state_over n (stay_of_lane x) else []) ++ over_from (n + 1) qs) ≡ and_one (stay_with (next_if b next) t x.watch.held)
      first false = rest
      first true =
          stays_two (Some n) (state_over n (stay_of_lane x)) (over_from (n + 1) qs)
          ∙ (ap (λ (ss : List Stay). ss ++ stays_at n (over_from (n + 1) qs)) (one_over n (stay_of_lane x))
          ∙ (ap (λ (ss : List Stay). and_one (stay_of_lane x) ++ ss) rest ∙ append-nil (and_one (stay_of_lane x))))
  stays_among n (x ∷ qs) (suc j) lane h =
      let there : n + suc j ≡ n + 1 + j = omega arith in
      ap (λ (k : ℕ). stays_at k (over_from n (x ∷ qs))) there ∙ (behind (is_among among x.partition) ∙ stays_among (n + 1) qs j lane h)
    where
      behind : (b : Bool) → stays_at (n + 1 + j) ((if b then state_over n (stay_of_lane x) else []) ++ over_from (n + 1) qs) ≡ stays_at (n + 1 + j) (over_from (n + 1) qs)
      behind false = refl
      behind true =
          stays_two (Some (n + 1 + j)) (state_over n (stay_of_lane x)) (over_from (n + 1) qs)
          ∙ ap (λ (ss : List Stay). ss ++ stays_at (n + 1 + j) (over_from (n + 1) qs)) (none_over (n + 1 + j) n (stay_of_lane x) (λ e. omega (arith, e)))

  -- they are of the processes that are there, and of no partition
  none_past : (n : ℕ) (qs : List ProcessLane) (j : ℕ) → n + length qs ≤ j → stays_at j (over_from n qs) ≡ []
  unfolding over_with stays_at
  none_past n [] j past = refl
  none_past n (lane ∷ qs) j past = by (is_among among lane.partition) (none_past (n + 1) qs j (omega (arith, past)))
    where
      by : (b : Bool) → stays_at j (over_from (n + 1) qs) ≡ [] → stays_at j ((if b then state_over n (stay_of_lane lane) else []) ++ over_from (n + 1) qs) ≡ []
      by false rest = rest
      by true rest =
          stays_two_at j (state_over n (stay_of_lane lane)) (over_from (n + 1) qs)
          ∙ (ap (λ (ss : List Stay). ss ++ stays_at j (over_from (n + 1) qs)) (none_over j n (stay_of_lane lane) (λ e. omega (arith, past, e))) ∙ rest)

  no_modes_with : (n : ℕ) (qs : List ProcessLane) (j : ℕ) → mode_stays_at j (over_from n qs) ≡ []
  unfolding over_with mode_stays_at
  no_modes_with n [] j = refl
  no_modes_with n (lane ∷ qs) j = by (is_among among lane.partition) (no_modes_with (n + 1) qs j)
    where
      by : (b : Bool) → mode_stays_at j (over_from (n + 1) qs) ≡ [] → mode_stays_at j ((if b then state_over n (stay_of_lane lane) else []) ++ over_from (n + 1) qs) ≡ []
      by false rest = rest
      by true rest =
          modes_two_at j (state_over n (stay_of_lane lane)) (over_from (n + 1) qs)
          ∙ (ap (λ (ss : List ModeStay). ss ++ mode_stays_at j (over_from (n + 1) qs)) (no_states_at j n (stay_of_lane lane)) ∙ rest)

  no_modes_in : (o : Option ℕ) (lanes : List ProcessLane) → mode_stays_of o (over_from 0 lanes) ≡ []
  no_modes_in None lanes = refl
  no_modes_in (Some j) lanes = no_modes_with 0 lanes j

  gone_there : (partitions : ℕ) (qs : List ProcessLane) → AreThereIn (length qs) partitions (over_from 0 qs)
  gone_there partitions qs = (λ j past. none_past 0 qs j (omega (arith, past)), λ j past. no_modes_with 0 qs j)

-- a process of the partition with a name, which is among them or not
module _ (mid : Lanes) (among : Option ℕ) (next : Next) (t : ℕ) (n : List ℕ) (b : Bool) (leaves : (h : Option Held) → held_behind h next t ≡ None)
    (tested : (q : ℕ) → partition_at n mid.partitions.items ≡ Some q → is_among among q ≡ b) where
  abbrev all_lanes : List ProcessLane
  all_lanes = mid.processes.items

  abbrev pub IsOwn : Option ℕ → Type 0
  IsOwn o =
      (held_at o (map (gone_from among next t) all_lanes) ≡ held_with (next_if b next) t (held_at o all_lanes))
      × (stays_of o (over_with 0 among next t all_lanes) ≡ and_one (stay_with (next_if b next) t (held_at o all_lanes)))

  none_left : (c : Bool) → None ≡ held_with (next_if c next) t None
  none_left true = sym (leaves None)
  none_left false = refl

  none_ended : (c : Bool) → [] ≡ and_one (stay_with (next_if c next) t None)
  none_ended true = refl
  none_ended false = refl

  own_or_not : (w : List ℕ) → IsOwn (process_at n w mid)
  own_or_not w = by (partition_at n mid.partitions.items) refl
    where
      at_place : (q : ℕ) → is_among among q ≡ b → (j : Option ℕ) → process_in (Some q) w all_lanes ≡ j → IsOwn j
      at_place q test None f = (none_left b, none_ended b)
      at_place q test (Some j) f =
          let x = found (is_process q w) all_lanes j f in
          let both = and_parts (x.0.partition == q) (same (subject_text x.0.who) w) x.2 in
          let own : is_among among x.0.partition ≡ b = ap (is_among among) (eqb-true x.0.partition q both.0) ∙ test in
          let start : 0 + j ≡ j = omega arith in (
            gone_at among next t all_lanes j x.0 x.1 ∙ ap (λ (c : Bool). held_with (next_if c next) t (held_at (Some j) all_lanes)) own,
            ap (λ (k : ℕ). stays_at k (over_with 0 among next t all_lanes)) (sym start)
                ∙ (stays_among among next t 0 all_lanes j x.0 x.1 ∙ (ap (λ (c : Bool). and_one (stay_with (next_if c next) t x.0.watch.held)) own
                ∙ ap (λ (o : Option ProcessLane). and_one (stay_with (next_if b next) t (held_in o))) (sym x.1))),
          )

      by : (o : Option ℕ) → partition_at n mid.partitions.items ≡ o → IsOwn (process_in o w all_lanes)
      by None e = (none_left b, none_ended b)
      by (Some q) e = at_place q (tested q e) (process_in (Some q) w all_lanes) refl

-- a partition is at a place if it has its name
named_at : (ps : List PartitionLane) (name : List ℕ) (p : ℕ) → partition_at name ps ≡ Some p → (n : List ℕ) (q : ℕ) → partition_at n ps ≡ Some q → is_among (Some p) q ≡ same name n
named_at ps name p at n q e = elim (same_or_not q p) [
  | inl here ↦
      let named : name ≡ n = one_partition ps name n p at (e ∙ ap Some here) in
      eq-eqb q p here ∙ sym (ap (λ (v : List ℕ). same name v) (sym named) ∙ same_text name)
  | inr apart ↦ apart_eqb q p apart ∙ sym (not_named apart (same name n) refl)
]
  where
    not_named : (q ≡ p → ⊥) → (b : Bool) → same name n ≡ b → same name n ≡ false
    not_named apart true f =
        let named = same_is name n f in
        absurd (apart (of_some (sym e ∙ (ap (λ (v : List ℕ). partition_at v ps) (sym named) ∙ at))))
    not_named apart false f = f

-- ---- a line with which they are gone, and which changes no mode

module _ (old mid new : Lanes) (partition : Option (List ℕ)) (kind : EventKind) (among : Option ℕ) (next : Next) (t : ℕ) (chosen : List ℕ → Bool) (before after : List Ended) where
  pub has_left : AreKept old mid → AreInPlace old mid
      → ((h : Option Held) → held_behind h next t ≡ None) → ((n : List ℕ) (q : ℕ) → partition_at n mid.partitions.items ≡ Some q → is_among among q ≡ chosen n)
      → ((n w : List ℕ) → next_by partition kind n w ≡ next_if (chosen n) next)
      → ((n : List ℕ) (h : Option HeldMode) → mode_after partition kind t n h ≡ h) → ((n : List ℕ) (h : Option HeldMode) → mode_stay_over partition kind t n h ≡ None)
      → new.partitions.items ≡ mid.partitions.items → new.processes.items ≡ map (gone_from among next t) mid.processes.items
      → after ≡ before ++ over_with 0 among next t mid.processes.items
      → HasRead partition kind t old new before after
  has_left kept in_place leaves tested goes stays no_stay same_partitions left more = record {
    held = λ n w. ap (λ (o : Option ℕ). held_at o new.processes.items) (place n w)
        ∙ (ap (λ (l : List ProcessLane). held_at (process_at n w mid) l) left
        ∙ ((own_or_not mid among next t n (chosen n) leaves (tested n) w).0
        ∙ (ap (λ (o : Option Next). held_with o t (held_by n w mid)) (sym (goes n w)) ∙ ap (λ (h : Option Held). state_behind partition kind t n w h) (kept.held n w))));
    mode = λ n. ap (λ (l : List PartitionLane). mode_at (partition_at n l) l) same_partitions ∙ (kept.mode n ∙ sym (stays n (mode_by n old)));
    ended = λ n w. ap (stays_of (process_at n w new)) more
        ∙ (stays_two (process_at n w new) before gone
        ∙ ap (λ (ss : List Stay). stays_of (process_at n w new) before ++ ss)
        (ap (λ (o : Option ℕ). stays_of o gone) (place n w)
        ∙ ((own_or_not mid among next t n (chosen n) leaves (tested n) w).1
        ∙ (ap (λ (o : Option Next). and_one (stay_with o t (held_by n w mid))) (sym (goes n w)) ∙ ap (λ (h : Option Held). and_one (stay_over partition kind t n w h)) (kept.held n w)))));
    left = λ n. without_modes (partition_at n new.partitions.items) before gone after more (no_modes_in among next t (partition_at n new.partitions.items) mid.processes.items)
        ∙ and_none (mode_stays_of (partition_at n new.partitions.items) before) (mode_stay_over partition kind t n (mode_by n old)) (no_stay n (mode_by n old));
    places = both_in_place old mid new in_place (in_same_place mid new place (λ n. ap (partition_at n) same_partitions) mapped (ap length same_partitions));
    there = still_there old new before gone after (both_in_place old mid new in_place (in_same_place mid new place (λ n. ap (partition_at n) same_partitions) mapped (ap length same_partitions))) more
        (subst (λ (k : ℕ). AreThereIn k (length new.partitions.items) gone) (sym mapped) (gone_there among next t (length new.partitions.items) mid.processes.items));
  }
    where
      gone : List Ended
      gone = over_with 0 among next t mid.processes.items

      mapped : length new.processes.items ≡ length mid.processes.items
      mapped = ap length left ∙ length_mapped (gone_from among next t) mid.processes.items

      place : (n w : List ℕ) → process_at n w new ≡ process_at n w mid
      place n w =
          ap (λ (l : List PartitionLane). process_in (partition_at n l) w new.processes.items) same_partitions
          ∙ (ap (λ (l : List ProcessLane). process_in (partition_at n mid.partitions.items) w l) left
          ∙ blind_map among next t mid.processes.items (partition_at n mid.partitions.items) w)

-- an error with which a partition is cleared
pub has_cleared : (old mid new : Lanes) (name : List ℕ) (error : ErrorKind) (who : Option Subject) (answer : Response) (t p : ℕ) (before after : List Ended) → clears error answer ≡ true
    → AreKept old mid → AreInPlace old mid → partition_at name mid.partitions.items ≡ Some p
    → new.partitions.items ≡ mid.partitions.items → new.processes.items ≡ map (gone_from (Some p) Cleared t) mid.processes.items
    → after ≡ before ++ over_with 0 (Some p) Cleared t mid.processes.items
    → HasRead (Some name) (event.Error error who answer) t old new before after
has_cleared old mid new name error who answer t p before after clear kept in_place at same_partitions left more =
    has_left old mid new (Some name) (event.Error error who answer) (Some p) Cleared t (same name) before after kept in_place (λ h. refl) (named_at mid.partitions.items name p at)
    (λ n w. ap (λ (b : Bool). if same name n then next_if b Cleared else None) clear ∙ by (same name n)) (λ n h. sym (if_alike (same name n) h)) (λ n h. sym (if_alike (same name n) None))
    same_partitions left more
  where
    by : (b : Bool) → (if b then Some Cleared else None) ≡ next_if b Cleared
    by true = refl
    by false = refl

-- a reset of the module
pub has_reset : (old new : Lanes) (error : ErrorKind) (who : Option Subject) (answer : Response) (t : ℕ) (before after : List Ended) → resets answer ≡ true
    → new.partitions.items ≡ old.partitions.items → new.processes.items ≡ map (gone_from None Cleared t) old.processes.items
    → after ≡ before ++ over_with 0 None Cleared t old.processes.items
    → HasRead None (event.Error error who answer) t old new before after
has_reset old new error who answer t before after reset same_partitions left more =
    has_left old old new None (event.Error error who answer) None Cleared t (λ n. true) before after (record { held = λ m w. refl; mode = λ m. refl }) (in_own_place old) (λ h. refl) (λ n q e. refl)
    (λ n w. ap (λ (b : Bool). next_if b Cleared) reset) (λ n h. refl) (λ n h. refl) same_partitions left more

-- ---- a partition enters a mode

mode_changed : (ps : List PartitionLane) (name : List ℕ) (m : Mode) (t p : ℕ) → partition_at name ps ≡ Some p → (n : List ℕ)
    → mode_at (partition_at n ps) (change_at p (entered m t) ps) ≡ (if same name n then mode_behind (mode_at (partition_at n ps) ps) m t else mode_at (partition_at n ps) ps)
mode_changed ps name m t p at n = by (same name n) refl
  where
    later : List PartitionLane
    later = change_at p (entered m t) ps

    by : (b : Bool) → same name n ≡ b → mode_at (partition_at n ps) later ≡ (if b then mode_behind (mode_at (partition_at n ps) ps) m t else mode_at (partition_at n ps) ps)
    by true e =
        let named = same_is name n e in
        let here : partition_at n ps ≡ Some p = ap (λ (v : List ℕ). partition_at v ps) (sym named) ∙ at in
        let x = found (has_name name) ps p at in
        ap (λ (o : Option ℕ). mode_at o later) here
        ∙ (ap mode_held (get_same p (entered m t) ps x.0 x.1)
        ∙ ap (λ (h : Option HeldMode). mode_behind h m t) (ap mode_held (sym x.1) ∙ ap (λ (o : Option ℕ). mode_at o ps) (sym here)))
    by false e = at_other (partition_at n ps) refl
      where
        at_other : (o : Option ℕ) → partition_at n ps ≡ o → mode_at o later ≡ mode_at o ps
        at_other None f = refl
        at_other (Some q) f = ap mode_held (get_other p (entered m t) ps q (λ g. false≢true (sym e ∙ (ap (λ (v : List ℕ). same name v) (sym (one_partition ps name n p at (f ∙ ap Some g))) ∙ same_text name))))

-- the mode that is over is that of this partition
left_in : (ps : List PartitionLane) (name : List ℕ) (m : Mode) (t p : ℕ) → partition_at name ps ≡ Some p → (n : List ℕ)
    → mode_stays_of (partition_at n ps) (mode_over_at p t (slice_get ps p)) ≡ and_one (if same name n then mode_ended (mode_at (partition_at n ps) ps) t else None)
left_in ps name m t p at n = by (same name n) refl
  where
    lane : (x : PartitionLane) × (slice_get ps p ≡ Some x) × (has_name name x ≡ true)
    lane = found (has_name name) ps p at

    over : (o : Option ℕ) → mode_stays_of o (mode_over_at p t (slice_get ps p)) ≡ mode_stays_of o (mode_over p (mode_ended lane.0.watch.held t))
    over o = ap (λ (x : Option PartitionLane). mode_stays_of o (mode_over_at p t x)) lane.1

    by : (b : Bool) → same name n ≡ b → mode_stays_of (partition_at n ps) (mode_over_at p t (slice_get ps p)) ≡ and_one (if b then mode_ended (mode_at (partition_at n ps) ps) t else None)
    by true e =
        let named = same_is name n e in
        let here : partition_at n ps ≡ Some p = ap (λ (v : List ℕ). partition_at v ps) (sym named) ∙ at in
        over (partition_at n ps)
        ∙ (ap (λ (o : Option ℕ). mode_stays_of o (mode_over p (mode_ended lane.0.watch.held t))) here
        ∙ (one_mode p (mode_ended lane.0.watch.held t)
        ∙ ap (λ (h : Option HeldMode). and_one (mode_ended h t)) (ap mode_held (sym lane.1) ∙ ap (λ (o : Option ℕ). mode_at o ps) (sym here))))
    by false e = over (partition_at n ps) ∙ at_other (partition_at n ps) refl
      where
        at_other : (o : Option ℕ) → partition_at n ps ≡ o → mode_stays_of o (mode_over p (mode_ended lane.0.watch.held t)) ≡ []
        at_other None f = refl
        at_other (Some q) f =
            none_mode q p (mode_ended lane.0.watch.held t) (λ g. false≢true (sym e ∙ (ap (λ (v : List ℕ). same name v) (sym (one_partition ps name n p at (f ∙ ap Some g))) ∙ same_text name)))

mode_there : (p t processes : ℕ) (ps : List PartitionLane) (o : Option PartitionLane) → slice_get ps p ≡ o → AreThereIn processes (length ps) (mode_over_at p t o)
unfolding stays_at mode_stays_at
mode_there p t processes ps None e = (λ j past. refl, λ j past. refl)
mode_there p t processes ps (Some lane) e =
    let low = get_below ps p lane e in
    (λ j past. no_modes_at j p (mode_ended lane.watch.held t), λ j past. none_mode j p (mode_ended lane.watch.held t) (λ same. omega (arith, low, past, same)))

both_there : (processes partitions : ℕ) (es fs : List Ended) → AreThereIn processes partitions es → AreThereIn processes partitions fs → AreThereIn processes partitions (es ++ fs)
both_there processes partitions es fs a b = (
  λ j past. stays_two_at j es fs ∙ (ap (λ (ss : List Stay). ss ++ stays_at j fs) (a.0 j past) ∙ b.0 j past),
  λ j past. modes_two_at j es fs ∙ (ap (λ (ss : List ModeStay). ss ++ mode_stays_at j fs) (a.1 j past) ∙ b.1 j past),
)

blind_entered : (p : ℕ) (m : Mode) (t : ℕ) (n : List ℕ) (ps : List PartitionLane) → partition_at n (change_at p (entered m t) ps) ≡ partition_at n ps
blind_entered p m t n ps = change_place 0 (has_name n) (entered m t) p ps (λ lane. refl)

-- where its processes go, by the mode
gone_by : (m : Mode) (b : Bool) → starts_again m ≡ true → next_if b Gone ≡ (if b then next_if (starts_again m) Gone else None)
gone_by m true again = sym (ap (λ (c : Bool). next_if c Gone) again)
gone_by m false again = refl

-- NORMAL: the processes go on
pub has_entered_normal : (old mid new : Lanes) (name : List ℕ) (t p : ℕ) (before after : List Ended) → AreKept old mid → AreInPlace old mid → partition_at name mid.partitions.items ≡ Some p
    → new.partitions.items ≡ change_at p (entered mode.Normal t) mid.partitions.items → new.processes.items ≡ mid.processes.items
    → after ≡ before ++ mode_over_at p t (slice_get mid.partitions.items p)
    → HasRead (Some name) (event.Mode mode.Normal) t old new before after
has_entered_normal old mid new name t p before after kept in_place at changed same_processes more = record {
  held = λ n w. ap (λ (o : Option ℕ). held_at o new.processes.items) (place n w)
      ∙ (ap (λ (l : List ProcessLane). held_at (process_at n w mid) l) same_processes ∙ (kept.held n w ∙ ap (λ (o : Option Next). held_with o t (held_by n w old)) (no_next (same name n) None refl)));
  mode = λ n. modes n;
  ended = λ n w. ap (stays_of (process_at n w new)) more
      ∙ (stays_two (process_at n w new) before (mode_over_at p t (slice_get mid.partitions.items p))
      ∙ ap (λ (ss : List Stay). stays_of (process_at n w new) before ++ ss) (only_modes (process_at n w new) (slice_get mid.partitions.items p) ∙ ap (λ (o : Option Next). and_one (stay_with o t (held_by n w old))) (no_next (same name n) None refl)));
  left = λ n. ap (mode_stays_of (partition_at n new.partitions.items)) more
      ∙ (modes_two (partition_at n new.partitions.items) before over
      ∙ ap (λ (ss : List ModeStay). mode_stays_of (partition_at n new.partitions.items) before ++ ss)
      (ap (λ (o : Option ℕ). mode_stays_of o over) (same_partition n)
      ∙ (left_in mid.partitions.items name mode.Normal t p at n ∙ ap (λ (h : Option HeldMode). and_one (if same name n then mode_ended h t else None)) (kept.mode n))));
  places = places;
  there = still_there old new before over after places more (subst (λ (k : ℕ). AreThereIn (length new.processes.items) k over) (sym count)
      (mode_there p t (length new.processes.items) mid.partitions.items (slice_get mid.partitions.items p) refl));
}
  where
    over : List Ended
    over = mode_over_at p t (slice_get mid.partitions.items p)

    count : length new.partitions.items ≡ length mid.partitions.items
    count = ap length changed ∙ length_changed p (entered mode.Normal t) mid.partitions.items

    same_partition : (n : List ℕ) → partition_at n new.partitions.items ≡ partition_at n mid.partitions.items
    same_partition n = ap (partition_at n) changed ∙ blind_entered p mode.Normal t n mid.partitions.items

    only_modes : (o : Option ℕ) (lane : Option PartitionLane) → stays_of o (mode_over_at p t lane) ≡ []
    only_modes o None = no_modes o p None
    only_modes o (Some lane) = no_modes o p (mode_ended lane.watch.held t)

    place : (n w : List ℕ) → process_at n w new ≡ process_at n w mid
    place n w =
        ap (λ (l : List PartitionLane). process_in (partition_at n l) w new.processes.items) changed
        ∙ (ap (λ (o : Option ℕ). process_in o w new.processes.items) (blind_entered p mode.Normal t n mid.partitions.items)
        ∙ ap (λ (l : List ProcessLane). process_in (partition_at n mid.partitions.items) w l) same_processes)

    places : AreInPlace old new
    places = both_in_place old mid new in_place (in_same_place mid new place same_partition (ap length same_processes) count)

    modes : (n : List ℕ) → mode_by n new ≡ mode_after (Some name) (event.Mode mode.Normal) t n (mode_by n old)
    modes n =
        ap (λ (l : List PartitionLane). mode_at (partition_at n l) l) changed
        ∙ (ap (λ (o : Option ℕ). mode_at o (change_at p (entered mode.Normal t) mid.partitions.items)) (blind_entered p mode.Normal t n mid.partitions.items)
        ∙ (mode_changed mid.partitions.items name mode.Normal t p at n
        ∙ ap (λ (h : Option HeldMode). mode_after (Some name) (event.Mode mode.Normal) t n h) (kept.mode n)))

-- another mode: they are gone
pub has_entered : (old mid new : Lanes) (name : List ℕ) (m : Mode) (t p : ℕ) (before after : List Ended) → starts_again m ≡ true → AreKept old mid → AreInPlace old mid → partition_at name mid.partitions.items ≡ Some p
    → new.partitions.items ≡ change_at p (entered m t) mid.partitions.items → new.processes.items ≡ map (gone_from (Some p) Gone t) mid.processes.items
    → after ≡ (before ++ mode_over_at p t (slice_get mid.partitions.items p)) ++ over_with 0 (Some p) Gone t mid.processes.items
    → HasRead (Some name) (event.Mode m) t old new before after
has_entered old mid new name m t p before after again kept in_place at changed left more = record {
  held = λ n w. ap (λ (o : Option ℕ). held_at o new.processes.items) (place n w)
      ∙ (ap (λ (l : List ProcessLane). held_at (process_at n w mid) l) left
      ∙ ((own n w).0
      ∙ (ap (λ (o : Option Next). held_with o t (held_by n w mid)) (gone_by m (same name n) again)
      ∙ ap (λ (h : Option Held). state_behind (Some name) (event.Mode m) t n w h) (kept.held n w))));
  mode = λ n. modes n;
  ended = λ n w. ap (stays_of (process_at n w new)) more
      ∙ (stays_two (process_at n w new) (before ++ over) gone
      ∙ (ap (λ (ss : List Stay). ss ++ stays_of (process_at n w new) gone)
      (stays_two (process_at n w new) before over
      ∙ (ap (λ (ss : List Stay). stays_of (process_at n w new) before ++ ss) (only_modes (process_at n w new) (slice_get mid.partitions.items p)) ∙ append-nil (stays_of (process_at n w new) before)))
      ∙ ap (λ (ss : List Stay). stays_of (process_at n w new) before ++ ss)
      (ap (λ (o : Option ℕ). stays_of o gone) (place n w)
      ∙ ((own n w).1
      ∙ (ap (λ (o : Option Next). and_one (stay_with o t (held_by n w mid))) (gone_by m (same name n) again)
      ∙ ap (λ (h : Option Held). and_one (stay_over (Some name) (event.Mode m) t n w h)) (kept.held n w))))));
  left = λ n. without_modes (partition_at n new.partitions.items) (before ++ over) gone after more (no_modes_in (Some p) Gone t (partition_at n new.partitions.items) mid.processes.items)
      ∙ (modes_two (partition_at n new.partitions.items) before over
      ∙ ap (λ (ss : List ModeStay). mode_stays_of (partition_at n new.partitions.items) before ++ ss)
      (ap (λ (o : Option ℕ). mode_stays_of o over) (same_partition n)
      ∙ (left_in mid.partitions.items name m t p at n ∙ ap (λ (h : Option HeldMode). and_one (if same name n then mode_ended h t else None)) (kept.mode n))));
  places = places;
  there = still_there old new before (over ++ gone) after places (more ∙ append_assoc before over gone)
      (both_there (length new.processes.items) (length new.partitions.items) over gone
      (subst (λ (k : ℕ). AreThereIn (length new.processes.items) k over) (sym count) (mode_there p t (length new.processes.items) mid.partitions.items (slice_get mid.partitions.items p) refl))
      (subst (λ (k : ℕ). AreThereIn k (length new.partitions.items) gone) (sym mapped) (gone_there (Some p) Gone t (length new.partitions.items) mid.processes.items)));
}
  where
    over : List Ended
    over = mode_over_at p t (slice_get mid.partitions.items p)

    gone : List Ended
    gone = over_with 0 (Some p) Gone t mid.processes.items

    own : (n w : List ℕ) → IsOwn mid (Some p) Gone t n (same name n) (λ h. refl) (named_at mid.partitions.items name p at n) (process_at n w mid)
    own n w = own_or_not mid (Some p) Gone t n (same name n) (λ h. refl) (named_at mid.partitions.items name p at n) w

    count : length new.partitions.items ≡ length mid.partitions.items
    count = ap length changed ∙ length_changed p (entered m t) mid.partitions.items

    mapped : length new.processes.items ≡ length mid.processes.items
    mapped = ap length left ∙ length_mapped (gone_from (Some p) Gone t) mid.processes.items

    same_partition : (n : List ℕ) → partition_at n new.partitions.items ≡ partition_at n mid.partitions.items
    same_partition n = ap (partition_at n) changed ∙ blind_entered p m t n mid.partitions.items

    only_modes : (o : Option ℕ) (lane : Option PartitionLane) → stays_of o (mode_over_at p t lane) ≡ []
    only_modes o None = no_modes o p None
    only_modes o (Some lane) = no_modes o p (mode_ended lane.watch.held t)

    place : (n w : List ℕ) → process_at n w new ≡ process_at n w mid
    place n w =
        ap (λ (l : List PartitionLane). process_in (partition_at n l) w new.processes.items) changed
        ∙ (ap (λ (o : Option ℕ). process_in o w new.processes.items) (blind_entered p m t n mid.partitions.items)
        ∙ (ap (λ (l : List ProcessLane). process_in (partition_at n mid.partitions.items) w l) left
        ∙ blind_map (Some p) Gone t mid.processes.items (partition_at n mid.partitions.items) w))

    places : AreInPlace old new
    places = both_in_place old mid new in_place (in_same_place mid new place same_partition mapped count)

    modes : (n : List ℕ) → mode_by n new ≡ mode_after (Some name) (event.Mode m) t n (mode_by n old)
    modes n =
        ap (λ (l : List PartitionLane). mode_at (partition_at n l) l) changed
        ∙ (ap (λ (o : Option ℕ). mode_at o (change_at p (entered m t) mid.partitions.items)) (blind_entered p m t n mid.partitions.items)
        ∙ (mode_changed mid.partitions.items name m t p at n
        ∙ ap (λ (h : Option HeldMode). mode_after (Some name) (event.Mode m) t n h) (kept.mode n)))

pub within_entered : (k : ℕ) (m : Mode) (t : ℕ) (ps new : List PartitionLane) (qs : List ProcessLane) → new ≡ change_at k (entered m t) ps → AreWithin (length ps) qs → AreWithin (length new) qs
within_entered k m t ps new qs changed within = subst (λ (n : ℕ). AreWithin n qs) (sym (ap length changed ∙ length_changed k (entered m t) ps)) within

among_gone : (count : ℕ) (among : Option ℕ) (next : Next) (t : ℕ) (qs : List ProcessLane) → AreWithin count qs → AreWithin count (map (gone_from among next t) qs)
among_gone count among next t qs within place lane at =
    let y = get_mapped (gone_from among next t) qs place lane at in
    let low = within place y.0 y.1 in
    subst (λ (l : ProcessLane). l.partition < count) (sym y.2) (by (is_among among y.0.partition) y.0 low)
  where
    by : (b : Bool) (l : ProcessLane) → l.partition < count → (if b then turned next t l else l).partition < count
    by true l low = low
    by false l low = low

pub within_gone : (count : ℕ) (among : Option ℕ) (next : Next) (t : ℕ) (qs new : List ProcessLane) → new ≡ map (gone_from among next t) qs → AreWithin count qs → AreWithin count new
within_gone count among next t qs new left within = subst (AreWithin count) (sym left) (among_gone count among next t qs within)

-- as the code meets them
pub has_gone_on : (old mid new : Lanes) (name : List ℕ) (m : Mode) (t p : ℕ) (before after : List Ended) → starts_again m ≡ false → AreKept old mid → AreInPlace old mid → partition_at name mid.partitions.items ≡ Some p
    → new.partitions.items ≡ change_at p (entered m t) mid.partitions.items → new.processes.items ≡ mid.processes.items
    → after ≡ before ++ mode_over_at p t (slice_get mid.partitions.items p)
    → HasRead (Some name) (event.Mode m) t old new before after
has_gone_on old mid new name mode.Normal t p before after on kept in_place at changed same_processes more = has_entered_normal old mid new name t p before after kept in_place at changed same_processes more
has_gone_on old mid new name mode.Idle t p before after on kept in_place at changed same_processes more = absurd (false≢true (sym on))
has_gone_on old mid new name mode.ColdStart t p before after on kept in_place at changed same_processes more = absurd (false≢true (sym on))
has_gone_on old mid new name mode.WarmStart t p before after on kept in_place at changed same_processes more = absurd (false≢true (sym on))

pub ruleset lanes_left = (within_entered, within_gone)

pub ruleset lanes_found = (partition_found, partition_kept, partition_in_place, process_found, process_kept, process_in_place, both_kept, both_in_place, within_longer, within_more, found_below)
