-- The list of the ready processes has the order of their numbers.
use Rattle.kernel_laws.proofs.Prelude.{◌≡◌, ◌↔◌, inl, inr, ℕ, ◌+◌, ◌<◌, ◌≤◌, nat_eq, cond, Bool, true, false, List, ◌∷◌, Some, refl, sym, subst, ◌∙◌, arith, ltb-true, ltb-false, eq-eqb, none-some, same_Some, Mode, Runner, Entry, Lock, IsAmong, IsBeforeEach, AreNumbersBelow, IsNumbered, Picks, takes, Processes, row_of, without, behind_equals, pick, is_ready, unless_held}
use Rattle.std.proofs.Common.{nat_lt, not, [], ap}
use Rattle.apex_types.specs.declared.codes.Mode.TheVariants as mode
use Rattle.apex_types.specs.declared.identity.Runner.TheVariants as runner
use Rattle.apex_types.specs.declared.process.Lock.TheVariants as lock
use Rattle.kernel_laws.specs.Choice.{IsBefore, IsFirst, PicksUnlessHeld, PicksInNormal, IsOrdered}

-- ---- a process leaves

each_without : (number : ℕ → ℕ) (p : ℕ) (e : Entry) (es : List Entry) → IsBeforeEach number e es → IsBeforeEach number e (without p es)
each_without number p e [] h = tt
each_without number p e (x ∷ xs) h =
    elim (nat_eq p x.process.0) as (λ b. IsBeforeEach number e (cond (not b) (x ∷ without p xs) (without p xs))) [
      | true ↦ each_without number p e xs h.1
      | false ↦ (h.0, each_without number p e xs h.1)
    ]

ordered_without : (number : ℕ → ℕ) (p : ℕ) (es : List Entry) → IsOrdered number es → IsOrdered number (without p es)
ordered_without number p [] h = tt
ordered_without number p (x ∷ xs) h =
    elim (nat_eq p x.process.0) as (λ b. IsOrdered number (cond (not b) (x ∷ without p xs) (without p xs))) [
      | true ↦ ordered_without number p xs h.1
      | false ↦ (each_without number p x xs h.0, ordered_without number p xs h.1)
    ]

pub below_without : (number : ℕ → ℕ) (next p : ℕ) (es : List Entry) → AreNumbersBelow number next es → AreNumbersBelow number next (without p es)
below_without number next p [] h = tt
below_without number next p (x ∷ xs) h =
    elim (nat_eq p x.process.0) as (λ b. AreNumbersBelow number next (cond (not b) (x ∷ without p xs) (without p xs))) [
      | true ↦ below_without number next p xs h.1
      | false ↦ (h.0, below_without number next p xs h.1)
    ]

pub leaves : (number : ℕ → ℕ) (next p : ℕ) (ready : List Entry) → IsNumbered number next ready → IsNumbered number next (without p ready)
leaves number next p ready h = record { ordered = ordered_without number p ready h.ordered; below = below_without number next p ready h.below }

-- ---- a process takes a number

-- none of these is p
abbrev pub AreOthers : ℕ → List Entry → Type 0
AreOthers p [] = Unit {0}
AreOthers p (x ∷ xs) = (nat_eq p x.process.0 ≡ false) × AreOthers p xs

pub others_without : (p : ℕ) (es : List Entry) → AreOthers p (without p es)
others_without p [] = tt
others_without p (x ∷ xs) =
    (elim (nat_eq p x.process.0) as (λ b. nat_eq p x.process.0 ≡ b → AreOthers p (cond (not b) (x ∷ without p xs) (without p xs))) [
      | true ↦ λ q. others_without p xs
      | false ↦ λ q. (q, others_without p xs)
    ]) refl

pub same_number : (number : ℕ → ℕ) (p n q : ℕ) → nat_eq p q ≡ false → takes number p n q ≡ number q
same_number number p n q e = ap (λ b. cond b n (number q)) e

pub own_number : (number : ℕ → ℕ) (p n : ℕ) → takes number p n p ≡ n
own_number number p n = ap (λ b. cond b n (number p)) (eq-eqb p p refl)

pub before_other : (number other : ℕ → ℕ) (e f : Entry) → other e.process.0 ≡ number e.process.0 → other f.process.0 ≡ number f.process.0 → IsBefore number e f → IsBefore other e f
before_other number other e f same_e same_f (inl higher) = inl higher
before_other number other e f same_e same_f (inr equals) = inr (equals.0, omega (arith, same_e, same_f, equals.1))

each_takes : (number : ℕ → ℕ) (p n : ℕ) (e : Entry) (es : List Entry) → nat_eq p e.process.0 ≡ false → AreOthers p es → IsBeforeEach number e es → IsBeforeEach (takes number p n) e es
each_takes number p n e [] o others h = tt
each_takes number p n e (x ∷ xs) o others h =
    (before_other number (takes number p n) e x (same_number number p n e.process.0 o) (same_number number p n x.process.0 others.0) h.0, each_takes number p n e xs o others.1 h.1)

ordered_takes : (number : ℕ → ℕ) (p n : ℕ) (es : List Entry) → AreOthers p es → IsOrdered number es → IsOrdered (takes number p n) es
ordered_takes number p n [] others h = tt
ordered_takes number p n (x ∷ xs) others h = (each_takes number p n x xs others.0 others.1 h.0, ordered_takes number p n xs others.1 h.1)

pub below_takes : (number : ℕ → ℕ) (p n : ℕ) (es : List Entry) → AreOthers p es → AreNumbersBelow number n es → AreNumbersBelow (takes number p n) n es
below_takes number p n [] others h = tt
below_takes number p n (x ∷ xs) others h =
    let same = same_number number p n x.process.0 others.0 in
    (omega (arith, same, h.0), below_takes number p n xs others.1 h.1)

-- ---- a process goes last

higher_each : (number : ℕ → ℕ) (e x : Entry) (xs : List Entry) → x.priority.0 < e.priority.0 → IsBeforeEach number x xs → IsBeforeEach number e xs
higher_each number e x [] higher h = tt
higher_each number e x (y ∷ ys) higher h = (inl (not_higher h.0), higher_each number e x ys higher h.1)
  where
    not_higher : IsBefore number x y → y.priority.0 < e.priority.0
    not_higher (inl less) = omega (arith, less, higher)
    not_higher (inr equals) = let same = equals.0 in omega (arith, same, higher)

each_behind : (number : ℕ → ℕ) (x e : Entry) (xs : List Entry) → IsBefore number x e → IsBeforeEach number x xs → IsBeforeEach number x (behind_equals e xs)
each_behind number x e [] one h = (one, tt)
each_behind number x e (y ∷ ys) one h =
    elim (nat_lt y.priority.0 e.priority.0) as (λ b. IsBeforeEach number x (cond b (e ∷ y ∷ ys) (y ∷ behind_equals e ys))) [
      | true ↦ (one, h)
      | false ↦ (h.0, each_behind number x e ys one h.1)
    ]

-- a process that has no lower priority and an older number
older_before : (number : ℕ → ℕ) (x e : Entry) → e.priority.0 ≤ x.priority.0 → number x.process.0 < number e.process.0 → IsBefore number x e
older_before number x e least older = by_case (nat_lt e.priority.0 x.priority.0) refl
  where
    by_case : (b : Bool) → nat_lt e.priority.0 x.priority.0 ≡ b → IsBefore number x e
    by_case true q = inl (ltb-true e.priority.0 x.priority.0 q)
    by_case false q = let most = ltb-false e.priority.0 x.priority.0 q in inr (omega (arith, least, most), older)

pub ordered_behind : (number : ℕ → ℕ) (next : ℕ) (e : Entry) (xs : List Entry) → number e.process.0 ≡ next → AreNumbersBelow number next xs → IsOrdered number xs → IsOrdered number (behind_equals e xs)
ordered_behind number next e [] own below h = (tt, tt)
ordered_behind number next e (x ∷ xs) own below h =
    (elim (nat_lt x.priority.0 e.priority.0) as (λ b. nat_lt x.priority.0 e.priority.0 ≡ b → IsOrdered number (cond b (e ∷ x ∷ xs) (x ∷ behind_equals e xs))) [
      | true ↦ λ q. let higher = ltb-true x.priority.0 e.priority.0 q in ((inl higher, higher_each number e x xs higher h.0), h)
      | false ↦ λ q.
          let least = ltb-false x.priority.0 e.priority.0 q in
          let older = below.0 in
          (each_behind number x e xs (older_before number x e least (omega (arith, older, own))) h.0, ordered_behind number next e xs own below.1 h.1)
    ]) refl

pub below_behind : (number : ℕ → ℕ) (next : ℕ) (e : Entry) (xs : List Entry) → number e.process.0 ≡ next → AreNumbersBelow number next xs → AreNumbersBelow number (next + 1) (behind_equals e xs)
below_behind number next e [] own below = (omega (arith, own), tt)
below_behind number next e (x ∷ xs) own below =
    let one : number x.process.0 < next + 1 = let older = below.0 in omega (arith, older) in
    elim (nat_lt x.priority.0 e.priority.0) as (λ b. AreNumbersBelow number (next + 1) (cond b (e ∷ x ∷ xs) (x ∷ behind_equals e xs))) [
      | true ↦ (omega (arith, own), (one, later xs below.1))
      | false ↦ (one, below_behind number next e xs own below.1)
    ]
  where
    later : (ys : List Entry) → AreNumbersBelow number next ys → AreNumbersBelow number (next + 1) ys
    later [] h = tt
    later (y ∷ ys) h = (let older = h.0 in omega (arith, older), later ys h.1)

pub goes_last : (number : ℕ → ℕ) (next : ℕ) (e : Entry) (ready : List Entry) → IsNumbered number next ready → IsNumbered (takes number e.process.0 next) (next + 1) (behind_equals e (without e.process.0 ready))
goes_last number next e ready h =
    let p = e.process.0 in
    let left = leaves number next p ready h in
    let others = others_without p ready in
    let own = own_number number p next in
    let below = below_takes number p next (without p ready) others left.below in
    record {
      ordered = ordered_behind (takes number p next) next e (without p ready) own below (ordered_takes number p next (without p ready) others left.ordered);
      below = below_behind (takes number p next) next e (without p ready) own below;
    }

-- ---- the choice

pub not_both : (number : ℕ → ℕ) (e f : Entry) → IsBefore number e f → IsBefore number f e → ⊥
not_both number e f (inl h) (inl k) = omega (arith, h, k)
not_both number e f (inl h) (inr k) = let same = k.0 in omega (arith, h, same)
not_both number e f (inr h) (inl k) = let same = h.0 in omega (arith, k, same)
not_both number e f (inr h) (inr k) = let one = h.1 in let other = k.1 in omega (arith, one, other)

before_one : (number : ℕ → ℕ) (e f : Entry) (es : List Entry) → IsBeforeEach number e es → IsAmong f es → IsBefore number e f
before_one number e f [] h a = absurd a
before_one number e f (x ∷ xs) h (inl same) = subst (IsBefore number e) (sym same) h.0
before_one number e f (x ∷ xs) h (inr later) = before_one number e f xs h.1 later

head_is_first : (number : ℕ → ℕ) (e : Entry) (es : List Entry) (p : Runner) → IsOrdered number (e ∷ es) → runner.Process e.process ≡ p → IsFirst number (e ∷ es) p
head_is_first number e es p h is = (e, inl refl, is, none_before)
  where
    none_before : (f : Entry) → IsAmong f (e ∷ es) → IsBefore number f e → ⊥
    none_before f (inl same) k = not_both number f e k (subst (λ (x : Entry). IsBefore number e x) (sym same) (subst (λ (x : Entry). IsBefore number x e) same k))
    none_before f (inr later) k = not_both number e f (before_one number e f es h.0 later) k

first_is_head : (number : ℕ → ℕ) (x : Entry) (xs : List Entry) (p : Runner) → IsOrdered number (x ∷ xs) → IsFirst number (x ∷ xs) p → runner.Process x.process ≡ p
first_is_head number x xs p h (e, inl same, is, first) = ap (λ (y : Entry). runner.Process y.process) (sym same) ∙ is
first_is_head number x xs p h (e, inr later, is, first) = absurd (first x (inl refl) (before_one number x e xs h.0 later))

-- when only one may be chosen
only : (q p : Runner) → (Some q ≡ Some p ↔ (p ≡ q))
only q p = ((λ e. sym (same_Some q p e)), (λ k. ap Some (sym k)))

chosen_unless_held : (number : ℕ → ℕ) (held : Lock) (ready : List Entry) (p : Runner) → IsOrdered number ready → (unless_held held ready ≡ Some p ↔ PicksUnlessHeld number held ready p)
chosen_unless_held number (lock.Held level holder) ready p h = only (runner.Process holder) p
chosen_unless_held number lock.Free [] p h = ((λ e. absurd (none-some p e)), (λ k. absurd k.1))
chosen_unless_held number lock.Free (x ∷ xs) p h = ((λ e. head_is_first number x xs p h (same_Some (runner.Process x.process) p e)), (λ k. ap Some (first_is_head number x xs p h k)))

chosen_in_normal : (number : ℕ → ℕ) (handles : Bool) (held : Lock) (ready : List Entry) (p : Runner) → IsOrdered number ready → (cond handles (Some runner.Handler) (unless_held held ready) ≡ Some p ↔ PicksInNormal number handles held ready p)
chosen_in_normal number true held ready p h = only runner.Handler p
chosen_in_normal number false held ready p h = chosen_unless_held number held ready p h

pub chosen : (number : ℕ → ℕ) (next : ℕ) (m : Mode) (s : Processes) (p : Runner) → IsNumbered number next s.ready → (pick m s ≡ Some p ↔ Picks number m s p)
chosen number next mode.Idle s p h = ((λ e. absurd (none-some p e)), (λ k. absurd k))
chosen number next mode.ColdStart s p h = only runner.Init p
chosen number next mode.WarmStart s p h = only runner.Init p
chosen number next mode.Normal s p h = chosen_in_normal number (is_ready (row_of s runner.Handler)) s.lock s.ready p h.ordered
