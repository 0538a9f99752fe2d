-- The lines of two traces, one more.
use Rattle.std.proofs.Common.{◌≡◌, ℕ, zero, suc, ◌<◌, ◌≤◌, Bool, true, false, cond, List, [], ◌∷◌, ◌++◌, Option, Some, None, Result, Ok, Err, OnOk, get_or, refl, sym, ap, subst, ◌∙◌, rules, arith, append-nil}
use Rattle.std.specs.Prelude.{filter, not, slice_get, slice_set, nat_eq}
use Rattle.std.specs.Option.{option_to_list}
use Rattle.std.proofs.lemmas.Bool.{and_parts, eqb-true}
use Rattle.std.proofs.lemmas.List.Elements.{filter-append}
use Rattle.apex_types.specs.declared.event.Event.{Event}
use Rattle.engine_meaning.specs.Digits.{same}
use Rattle.trace_lines.specs.Comparisons.{AreDifferences, AreFinished, AreParts, IsFinishedAs, IsNoneOf, others, told_of}
use Rattle.trace_lines.specs.Parts.{AreOther, IsAlone, IsFirst, IsJudged, IsPart, IsSettled, IsStep, first_line, first_with, part, second_with}
use Rattle.trace_lines.specs.declared.part.Apart.{Apart}
use Rattle.trace_lines.specs.declared.part.Difference.{Difference}
use Rattle.trace_lines.specs.declared.part.Part.{Part}
use Rattle.trace_lines.specs.declared.side.Side.{Side}
use Rattle.trace_lines.specs.declared.side.Side.TheVariants as side
use Rattle.trace_stays.specs.Same.{is_same_partition}

-- ---- names

same_is : (a b : List ℕ) → same a b ≡ true → a ≡ b
same_is [] [] h = refl
same_is [] (y ∷ ys) h = cc
same_is (x ∷ xs) [] h = cc
same_is (x ∷ xs) (y ∷ ys) h =
    let p = and_parts (nat_eq x y) (same xs ys) h in
    ap (λ (z : ℕ). z ∷ xs) (eqb-true x y p.0) ∙ ap (λ (zs : List ℕ). y ∷ zs) (same_is xs ys p.1)

same_itself : (a : List ℕ) → same a a ≡ true
same_itself [] = refl
same_itself (x ∷ xs) = rw (same_itself xs) (search rules)

pub partition_is : (p q : Option (List ℕ)) → is_same_partition p q ≡ true → p ≡ q
partition_is None None h = refl
partition_is None (Some q) h = cc
partition_is (Some p) None h = cc
partition_is (Some p) (Some q) h = ap (λ (x : List ℕ). Some x) (same_is p q h)

pub partition_itself : (p : Option (List ℕ)) → is_same_partition p p ≡ true
partition_itself None = refl
partition_itself (Some p) = same_itself p

-- ---- one line more, in a part and in the others

kept_by : (f : Event → Bool) (xs : List Event) (e : Event) → f e ≡ true → filter f (xs ++ e ∷ []) ≡ filter f xs ++ e ∷ []
kept_by f xs e h = filter-append f xs (e ∷ []) ∙ ap (λ (b : Bool). filter f xs ++ cond b (e ∷ []) []) h

left_by : (f : Event → Bool) (xs : List Event) (e : Event) → f e ≡ false → filter f (xs ++ e ∷ []) ≡ filter f xs
left_by f xs e h = filter-append f xs (e ∷ []) ∙ ap (λ (b : Bool). filter f xs ++ cond b (e ∷ []) []) h ∙ append-nil (filter f xs)

pub first_kept : (f : Event → Bool) (s : Side) (e : Event) (a : List Event) → f e ≡ true → filter f (first_with s e a) ≡ first_with s e (filter f a)
first_kept f side.First e a h = kept_by f a e h
first_kept f side.Second e a h = refl

pub second_kept : (f : Event → Bool) (s : Side) (e : Event) (b : List Event) → f e ≡ true → filter f (second_with s e b) ≡ second_with s e (filter f b)
second_kept f side.First e b h = refl
second_kept f side.Second e b h = kept_by f b e h

pub first_left : (f : Event → Bool) (s : Side) (e : Event) (a : List Event) → f e ≡ false → filter f (first_with s e a) ≡ filter f a
first_left f side.First e a h = left_by f a e h
first_left f side.Second e a h = refl

pub second_left : (f : Event → Bool) (s : Side) (e : Event) (b : List Event) → f e ≡ false → filter f (second_with s e b) ≡ filter f b
second_left f side.First e b h = refl
second_left f side.Second e b h = left_by f b e h

not_true : (b : Bool) → b ≡ true → not b ≡ false
not_true b h = ap not h

not_false : (b : Bool) → b ≡ false → not b ≡ true
not_false b h = ap not h

-- ---- time goes on

later_settled : (p : Part) (now then : ℕ) → now ≤ then → IsSettled p.apart now → IsSettled p.apart then
later_settled p now then order h = go p.apart h
  where
    alone : (x y : Option Event) → IsAlone x y now → IsAlone x y then
    alone None None h = absurd h
    alone (Some x) None h = omega (arith, h, order)
    alone None (Some y) h = omega (arith, h, order)
    alone (Some x) (Some y) h = tt

    go : (o : Option Apart) → IsSettled o now → IsSettled o then
    go None h = tt
    go (Some d) h = alone d.first.line d.second.line h

pub later_parts : (ps : List Part) (now then : ℕ) (a b : List Event) → now ≤ then → AreParts ps now a b → AreParts ps then a b
later_parts [] now then a b order h = h
later_parts (p ∷ ps) now then a b order h = (h.0, later_settled p now then order h.1, later_parts ps now then (others p.partition a) (others p.partition b) order h.2)

-- ---- a line is read

-- by the part that has its partition
pub read_at : (ps : List Part) (place now : ℕ) (s : Side) (e : Event) (p new : Part) (a b : List Event) → slice_get ps place ≡ Some p → is_same_partition p.partition e.partition ≡ true
    → ((k : ℕ) (q : Part) → k < place → slice_get ps k ≡ Some q → is_same_partition q.partition e.partition ≡ false)
    → IsStep s e p new → now ≤ e.tick.0 → AreParts ps now a b → AreParts (slice_set ps place new) e.tick.0 (first_with s e a) (second_with s e b)
read_at [] place now s e p new a b at same before step order h = cc
read_at (x ∷ xs) zero now s e p new a b at same before step order h =
    let is : x ≡ p = cc in
    let here = subst (λ (q : Part). is_same_partition q.partition e.partition ≡ true) (sym is) same in
    let moved = subst (λ (q : Part). IsStep s e q new) (sym is) step in
    let done = moved.lines now (part x.partition a) (part x.partition b) h.0 h.1 order in
    let own = λ (v : Event). is_same_partition x.partition v.partition in
    let other = λ (v : Event). not (is_same_partition x.partition v.partition) in
    let name = sym moved.partition in
    subst (λ (q : Option (List ℕ)). IsPart new (part q (first_with s e a)) (part q (second_with s e b)) × IsSettled new.apart e.tick.0 × AreParts xs e.tick.0 (others q (first_with s e a)) (others q (second_with s e b))) name (
      subst (λ (v : List Event). IsPart new v (part x.partition (second_with s e b))) (sym (first_kept own s e a here)) (subst (λ (v : List Event). IsPart new (first_with s e (part x.partition a)) v) (sym (second_kept own s e b here)) done.0),
      done.1,
      subst (λ (v : List Event). AreParts xs e.tick.0 v (others x.partition (second_with s e b))) (sym (first_left other s e a (not_true _ here)))
          (subst (λ (v : List Event). AreParts xs e.tick.0 (others x.partition a) v) (sym (second_left other s e b (not_true _ here)))
          (later_parts xs now e.tick.0 (others x.partition a) (others x.partition b) order h.2)),
    )
read_at (x ∷ xs) (suc k) now s e p new a b at same before step order h =
    let here = before 0 x (omega arith) refl in
    let own = λ (v : Event). is_same_partition x.partition v.partition in
    let other = λ (v : Event). not (is_same_partition x.partition v.partition) in (
      subst (λ (v : List Event). IsPart x v (part x.partition (second_with s e b))) (sym (first_left own s e a here)) (subst (λ (v : List Event). IsPart x (part x.partition a) v) (sym (second_left own s e b here)) h.0),
      later_settled x now e.tick.0 order h.1,
      subst (λ (v : List Event). AreParts (slice_set xs k new) e.tick.0 v (others x.partition (second_with s e b))) (sym (first_kept other s e a (not_false _ here)))
          (subst (λ (v : List Event). AreParts (slice_set xs k new) e.tick.0 (first_with s e (others x.partition a)) v) (sym (second_kept other s e b (not_false _ here)))
          (read_at xs k now s e p new (others x.partition a) (others x.partition b) at same (λ j q low get. before (suc j) q (omega (arith, low)) get) step order h.2)),
    )

-- or as the first line of its partition
pub read_first : (ps : List Part) (now : ℕ) (s : Side) (e : Event) (p new : Part) (a b : List Event) → p.partition ≡ e.partition → IsPart p [] [] → IsSettled p.apart now → IsNoneOf e.partition ps
    → IsStep s e p new → now ≤ e.tick.0 → AreParts ps now a b → AreParts (ps ++ new ∷ []) e.tick.0 (first_with s e a) (second_with s e b)
read_first [] now s e p new a b name empty settled none step order (no_a, no_b) =
    let done = step.lines now [] [] empty settled order in
    let is : new.partition ≡ e.partition = step.partition ∙ name in
    let here : is_same_partition new.partition e.partition ≡ true = subst (λ (q : Option (List ℕ)). is_same_partition q e.partition ≡ true) (sym is) (partition_itself e.partition) in
    let own = λ (v : Event). is_same_partition new.partition v.partition in
    let other = λ (v : Event). not (is_same_partition new.partition v.partition) in
    rw (no_a, no_b) (
      subst (λ (v : List Event). IsPart new v (part new.partition (second_with s e []))) (sym (first_kept own s e [] here)) (subst (λ (v : List Event). IsPart new (first_with s e []) v) (sym (second_kept own s e [] here)) done.0),
      done.1,
      (first_left other s e [] (not_true _ here), second_left other s e [] (not_true _ here)),
    )
read_first (x ∷ xs) now s e p new a b name empty settled none step order h =
    let here = none 0 x refl in
    let own = λ (v : Event). is_same_partition x.partition v.partition in
    let other = λ (v : Event). not (is_same_partition x.partition v.partition) in (
      subst (λ (v : List Event). IsPart x v (part x.partition (second_with s e b))) (sym (first_left own s e a here)) (subst (λ (v : List Event). IsPart x (part x.partition a) v) (sym (second_left own s e b here)) h.0),
      later_settled x now e.tick.0 order h.1,
      subst (λ (v : List Event). AreParts (xs ++ new ∷ []) e.tick.0 v (others x.partition (second_with s e b))) (sym (first_kept other s e a (not_false _ here)))
          (subst (λ (v : List Event). AreParts (xs ++ new ∷ []) e.tick.0 (first_with s e (others x.partition a)) v) (sym (second_kept other s e b (not_false _ here)))
          (read_first xs now s e p new (others x.partition a) (others x.partition b) name empty settled (λ k q get. none (suc k) q get) step order h.2)),
    )

-- ---- what is reported

no_more : (xs ys : List Event) → [] ≡ xs ++ ys → ys ≡ []
no_more [] ys h = sym h
no_more (x ∷ xs) ys h = cc

-- nothing differs where there is nothing
no_first : (d : Difference) → IsFirst d.before.items d.first d.second [] [] → ⊥
no_first d is =
    let x : d.first.line ≡ None = is.first_rest.first ∙ ap first_line (no_more is.both is.first is.first_part) in
    let y : d.second.line ≡ None = is.second_rest.first ∙ ap first_line (no_more is.both is.second is.second_part) in
    subst (λ (o : Option Event). AreOther o None) x (subst (λ (o : Option Event). AreOther d.first.line o) y is.differ)

nothing_differs : (told : Option Difference) → IsJudged told [] [] → told ≡ None
nothing_differs None h = refl
nothing_differs (Some d) h = absurd (no_first d h)

none_left : (f : Event → Bool) (xs : List Event) → filter f (filter (λ e. not (f e)) xs) ≡ []
none_left f [] = refl
none_left f (x ∷ xs) = go (f x) refl (none_left f xs)
  where
    go : (b : Bool) → b ≡ f x → filter f (filter (λ e. not (f e)) xs) ≡ [] → filter f (cond (not b) (x ∷ filter (λ e. not (f e)) xs) (filter (λ e. not (f e)) xs)) ≡ []
    go true is rest = rest
    go false is rest = ap (λ (b : Bool). cond b (x ∷ filter f (filter (λ e. not (f e)) xs)) (filter f (filter (λ e. not (f e)) xs))) (sym is) ∙ rest

no_both : (b : Bool) → b ≡ true → b ≡ false → ⊥
no_both true h k = cc
no_both false h k = cc

kept_through : (f g : Event → Bool) → ((e : Event) → f e ≡ true → g e ≡ true) → (xs : List Event) → filter f (filter g xs) ≡ filter f xs
kept_through f g implies [] = refl
kept_through f g implies (x ∷ xs) = go (f x) (g x) refl refl (kept_through f g implies xs)
  where
    go : (b c : Bool) → b ≡ f x → c ≡ g x → filter f (filter g xs) ≡ filter f xs → filter f (cond c (x ∷ filter g xs) (filter g xs)) ≡ cond b (x ∷ filter f xs) (filter f xs)
    go b true is_b is_c rest =
        ap (λ (r : List Event). cond (f x) (x ∷ r) r) rest
        ∙ ap (λ (t : Bool). cond t (x ∷ filter f xs) (filter f xs)) (sym is_b)
    go true false is_b is_c rest = let h : g x ≡ true = implies x (sym is_b) in absurd (no_both (g x) h (sym is_c))
    go false false is_b is_c rest = rest

other_partition : (p q r : Option (List ℕ)) → is_same_partition p q ≡ false → is_same_partition q r ≡ true → not (is_same_partition p r) ≡ true
other_partition p q r differ same = go (is_same_partition p r) refl
  where
    go : (b : Bool) → b ≡ is_same_partition p r → not b ≡ true
    go false is = refl
    go true is =
        let e : p ≡ q = partition_is p r (sym is) ∙ sym (partition_is q r same) in
        let h : is_same_partition p q ≡ true = subst (λ (v : Option (List ℕ)). is_same_partition p v ≡ true) e (partition_itself p) in
        cc

-- the part of another partition among the lines of the others
part_of_others : (p q : Option (List ℕ)) (a : List Event) → is_same_partition p q ≡ false → part q (others p a) ≡ part q a
part_of_others p q a differ =
    kept_through (λ (e : Event). is_same_partition q e.partition) (λ (e : Event). not (is_same_partition p e.partition)) (λ e same. other_partition p q e.partition differ same) a

own_of_others : (p : Option (List ℕ)) (a : List Event) → part p (others p a) ≡ []
own_of_others p a = none_left (λ (e : Event). is_same_partition p e.partition) a

judged_by : (told : Option Difference) (a b c d : List Event) → a ≡ c → b ≡ d → IsJudged told a b → IsJudged told c d
judged_by told a b c d one two h = subst (λ (v : List Event). IsJudged told c v) two (subst (λ (v : List Event). IsJudged told v b) one h)

pub all_told : (ps : List Part) (ds : List Difference) (now : ℕ) (a b : List Event) → AreFinished ps ds → AreParts ps now a b → AreDifferences ds a b
all_told [] ds now a b none (no_a, no_b) q = rw (none, no_a, no_b) refl
all_told (p ∷ ps) ds now a b (told, rest, is, split, more) h q =
    go (is_same_partition p.partition q) refl told is split (all_told ps rest now (others p.partition a) (others p.partition b) more h.2 q)
  where
    go : (t : Bool) → t ≡ is_same_partition p.partition q → (o : Option Difference) → IsFinishedAs p o → ds ≡ option_to_list o ++ rest
        → IsJudged (told_of q rest) (part q (others p.partition a)) (part q (others p.partition b)) → IsJudged (told_of q ds) (part q a) (part q b)
    go true is_q None fin split behind =
        let name : p.partition ≡ q = partition_is p.partition q (sym is_q) in
        let empty = λ (v : List Event). subst (λ (r : Option (List ℕ)). part r (others p.partition v) ≡ []) name (own_of_others p.partition v) in
        let none : told_of q rest ≡ None = nothing_differs (told_of q rest) (judged_by (told_of q rest) _ _ [] [] (empty a) (empty b) behind) in
        let same : part q a ≡ part q b = subst (λ (r : Option (List ℕ)). part r a ≡ part r b) name (fin.1 (part p.partition a) (part p.partition b) h.0) in
        subst (λ (v : List Difference). IsJudged (told_of q v) (part q a) (part q b)) (sym split) (subst (λ (o : Option Difference). IsJudged o (part q a) (part q b)) (sym none) same)
    go true is_q (Some d) fin split behind =
        let name : p.partition ≡ q = partition_is p.partition q (sym is_q) in
        let found : is_same_partition d.partition q ≡ true = subst (λ (r : Option (List ℕ)). is_same_partition r q ≡ true) (sym fin.0) (sym is_q) in
        let first : told_of q (d ∷ rest) ≡ Some d = ap (λ (t : Bool). cond t (Some d) (told_of q rest)) found in
        let judged = subst (λ (r : Option (List ℕ)). IsJudged (Some d) (part r a) (part r b)) name (fin.1 (part p.partition a) (part p.partition b) h.0) in
        subst (λ (v : List Difference). IsJudged (told_of q v) (part q a) (part q b)) (sym split) (subst (λ (o : Option Difference). IsJudged o (part q a) (part q b)) (sym first) judged)
    go false is_q None fin split behind =
        subst (λ (v : List Difference). IsJudged (told_of q v) (part q a) (part q b)) (sym split)
        (judged_by (told_of q rest) _ _ (part q a) (part q b) (part_of_others p.partition q a (sym is_q)) (part_of_others p.partition q b (sym is_q)) behind)
    go false is_q (Some d) fin split behind =
        let other : is_same_partition d.partition q ≡ false = subst (λ (r : Option (List ℕ)). is_same_partition r q ≡ false) (sym fin.0) (sym is_q) in
        let next : told_of q (d ∷ rest) ≡ told_of q rest = ap (λ (t : Bool). cond t (Some d) (told_of q rest)) other in
        subst (λ (v : List Difference). IsJudged (told_of q v) (part q a) (part q b)) (sym split) (subst (λ (o : Option Difference). IsJudged o (part q a) (part q b)) (sym next)
        (judged_by (told_of q rest) _ _ (part q a) (part q b) (part_of_others p.partition q a (sym is_q)) (part_of_others p.partition q b (sym is_q)) behind))

-- ---- what is read and handed on

pub read_is : (ps : List Part) (i : ℕ) (p q : Part) → slice_get ps i ≡ Some p → q ≡ get_or ps i q → q ≡ p
read_is [] i p q h e = cc
read_is (x ∷ xs) zero p q h e = cc
read_is (x ∷ xs) (suc i) p q h e = read_is xs i p q h e

pub on_ok : {A E : Type 0} {P Q : Type 0} (r : Result A E) → (P → Q) → OnOk r P → OnOk r Q
on_ok (Ok x) f h = f h
on_ok (Err e) f h = tt
