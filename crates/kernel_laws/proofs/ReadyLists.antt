-- A list of ready processes still has each process at most once, and has room.
use Rattle.kernel_laws.proofs.Prelude.{◌≡◌, ℕ, zero, suc, ◌+◌, ◌<◌, ◌≤◌, Bool, true, false, cond, List, ◌∷◌, length, refl, sym, arith, subst, inl, inr, nat_lt, if◌then◌else◌, cases_lt, Entry, without, behind_equals}
use Rattle.std.proofs.Common.{not, []}
use Rattle.std.specs.Prelude.{nat_eq}
use Rattle.std.proofs.lemmas.Bool.Decides.{nat_tests}
use Rattle.std.proofs.lemmas.Bool.{cases_eq}
use Rattle.kernel_laws.specs.Ready.{times_listed, AreBelow, IsListed}

abbrev all_times : ℕ → List Entry → ℕ
all_times zero es = 0
all_times (suc n) es = all_times n es + times_listed n es

all_times-nil : (n : ℕ) → all_times n [] ≡ 0
all_times-nil zero = refl
all_times-nil (suc n) = omega (arith, all_times-nil n)

abbrev pub one_if : Bool → ℕ
one_if b = if b then 1 else 0

pub test_other : (p q : ℕ) → (p ≡ q → ⊥) → one_if (nat_eq p q) ≡ 0
test_other p q h = grind (arith, nat_tests)

pub test_same : (p q : ℕ) → p ≡ q → one_if (nat_eq p q) ≡ 1
test_same p q h = grind (arith, nat_tests)

all_times-past : (n : ℕ) (e : Entry) (es : List Entry) → n ≤ e.process.0 → all_times n (e ∷ es) ≡ all_times n es
all_times-past zero e es h = refl
all_times-past (suc n) e es h =
    let other : (n ≡ e.process.0 → ⊥) = λ q. omega arith in
    let test : one_if (nat_eq n e.process.0) ≡ 0 = test_other n e.process.0 other in
    omega (arith, all_times-past n e es (omega arith))

all_times-cons : (n : ℕ) (e : Entry) (es : List Entry) → e.process.0 < n → all_times n (e ∷ es) ≡ all_times n es + 1
all_times-cons zero e es h = absurd (omega arith)
all_times-cons (suc n) e es h = elim (cases_lt e.process.0 n) [
  | inl lt ↦
      let other : (n ≡ e.process.0 → ⊥) = λ q. omega arith in
      let test : one_if (nat_eq n e.process.0) ≡ 0 = test_other n e.process.0 other in
      omega (arith, all_times-cons n e es lt)
  | inr le ↦
      let test : one_if (nat_eq n e.process.0) ≡ 1 = test_same n e.process.0 (omega arith) in
      omega (arith, all_times-past n e es le)
]

length-all : (n : ℕ) (es : List Entry) → AreBelow n es → length es ≡ all_times n es
length-all n [] h = sym (all_times-nil n)
length-all n (e ∷ es) h = omega (arith, length-all n es h.1, all_times-cons n e es h.0)

all_times-le : (n : ℕ) (es : List Entry) → ((p : ℕ) → times_listed p es ≤ 1) → all_times n es ≤ n
all_times-le zero es h = omega arith
all_times-le (suc n) es h = omega (arith, all_times-le n es h, h n)

all_times-lt : (n p : ℕ) (es : List Entry) → ((q : ℕ) → times_listed q es ≤ 1) → times_listed p es ≡ 0 → p < n → all_times n es < n
all_times-lt zero p es h none lt = absurd (omega arith)
all_times-lt (suc n) p es h none lt = elim (cases_lt p n) [
  | inl below ↦ omega (arith, all_times-lt n p es h none below, h n)
  | inr le ↦
      let here : n ≡ p = omega arith in
      let zero_here : times_listed n es ≡ 0 = subst (λ (k : ℕ). times_listed k es ≡ 0) (sym here) none in
      omega (arith, all_times-le n es h)
]

-- ---- a process that leaves

pub without-none : (p : ℕ) (es : List Entry) → times_listed p (without p es) ≡ 0
without-none p [] = refl
without-none p (e ∷ es) =
    (elim (nat_eq p e.process.0) as (λ b. nat_eq p e.process.0 ≡ b → times_listed p (cond (not b) (e ∷ without p es) (without p es)) ≡ 0) [
      | true ↦ λ q. without-none p es
      | false ↦ λ q. rw q (omega (arith, without-none p es))
    ]) refl

without-le : (p q : ℕ) (es : List Entry) → times_listed q (without p es) ≤ times_listed q es
without-le p q [] = omega arith
without-le p q (e ∷ es) =
    elim (nat_eq p e.process.0) as (λ b. times_listed q (cond (not b) (e ∷ without p es) (without p es)) ≤ one_if (nat_eq q e.process.0) + times_listed q es) [
      | true ↦ omega (arith, without-le p q es)
      | false ↦ omega (arith, without-le p q es)
    ]

without-below : (n p : ℕ) (es : List Entry) → AreBelow n es → AreBelow n (without p es)
without-below n p [] h = tt
without-below n p (e ∷ es) h =
    elim (nat_eq p e.process.0) as (λ b. AreBelow n (cond (not b) (e ∷ without p es) (without p es))) [
      | true ↦ without-below n p es h.1
      | false ↦ (h.0, without-below n p es h.1)
    ]

pub IsListed-without : (n p : ℕ) (es : List Entry) → IsListed n es → IsListed n (without p es)
IsListed-without n p es h = record { below = without-below n p es h.below; once = λ q. omega (arith, without-le p q es, h.once q) }

-- a list without p has room for it
pub length-without : (n p : ℕ) (es : List Entry) → IsListed n es → p < n → length (without p es) < n
length-without n p es h lt =
    let k = IsListed-without n p es h in
    omega (arith, length-all n (without p es) k.below, all_times-lt n p (without p es) k.once (without-none p es) lt)

-- ---- a process that is put after its equals

pub behind-times : (e : Entry) (q : ℕ) (es : List Entry) → times_listed q (behind_equals e es) ≡ times_listed q (e ∷ es)
behind-times e q [] = refl
behind-times e q (x ∷ xs) =
    elim (nat_lt x.priority.0 e.priority.0) as (λ b. times_listed q (cond b (e ∷ x ∷ xs) (x ∷ behind_equals e xs)) ≡ times_listed q (e ∷ x ∷ xs)) [
      | true ↦ refl
      | false ↦ omega (arith, behind-times e q xs)
    ]

behind-below : (n : ℕ) (e : Entry) (es : List Entry) → e.process.0 < n → AreBelow n es → AreBelow n (behind_equals e es)
behind-below n e [] lt h = (lt, tt)
behind-below n e (x ∷ xs) lt h =
    elim (nat_lt x.priority.0 e.priority.0) as (λ b. AreBelow n (cond b (e ∷ x ∷ xs) (x ∷ behind_equals e xs))) [
      | true ↦ (lt, h)
      | false ↦ (h.0, behind-below n e xs lt h.1)
    ]

times-one : (p q : ℕ) (es : List Entry) → times_listed p es ≡ 0 → ((r : ℕ) → times_listed r es ≤ 1) → one_if (nat_eq q p) + times_listed q es ≤ 1
times-one p q es none once = elim (cases_eq q p) [
  | inl same ↦
      let test : one_if (nat_eq q p) ≡ 1 = test_same q p same in
      let zero_here : times_listed q es ≡ 0 = subst (λ (k : ℕ). times_listed k es ≡ 0) (sym same) none in
      omega arith
  | inr other ↦
      let test : one_if (nat_eq q p) ≡ 0 = test_other q p other in
      omega (arith, once q)
]

pub IsListed-goes_last : (n : ℕ) (e : Entry) (es : List Entry) → IsListed n es → e.process.0 < n → IsListed n (behind_equals e (without e.process.0 es))
IsListed-goes_last n e es h lt =
    let k = IsListed-without n e.process.0 es h in
    record {
      below = behind-below n e (without e.process.0 es) lt k.below;
      once = λ q. rw (behind-times e q (without e.process.0 es)) (times-one e.process.0 q (without e.process.0 es) (without-none e.process.0 es) k.once);
    }
