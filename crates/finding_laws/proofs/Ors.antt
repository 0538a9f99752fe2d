-- The same tests in another order, and twice or once, give the same result.
use Rattle.finding_laws.proofs.Prelude.{◌≡◌, ℕ, ◌&&◌, ◌||◌, Bool, eqb, ◌∷◌, ◌++◌, ◌∙◌, inr, and_parts, eqb-true, false≢true, or_left, or_right, list_any-append}
use Rattle.std.proofs.Common.{true, false, get_or, List, [], refl, sym, ap, inl}
use Rattle.std.proofs.lemmas.Bool.{or_cases}
use Rattle.std.specs.List.{list_any}
use Rattle.finding_laws.proofs.Twice.{both_or, or_swap}

-- tests, each by its place in a list of results
pub data Tests : Type 0 where
  nothing : Tests
  the : ℕ → Tests
  either : Tests → Tests → Tests

abbrev pub answer : List Bool → Tests → Bool
answer bs nothing = false
answer bs (the n) = get_or bs n false
answer bs (either a b) = answer bs a || answer bs b

-- some tests, one after the other
abbrev pub all_of : List ℕ → Tests
all_of [] = nothing
all_of (n ∷ ns) = either (the n) (all_of ns)

abbrev places : Tests → List ℕ
places nothing = []
places (the n) = n ∷ []
places (either a b) = places a ++ places b

abbrev are_among : List ℕ → List ℕ → Bool
are_among [] ms = true
are_among (n ∷ ns) ms = list_any (eqb n) ms && are_among ns ms

abbrev pub are_same : Tests → Tests → Bool
are_same a b = are_among (places a) (places b) && are_among (places b) (places a)

or_false : (a : Bool) → a || false ≡ a
or_false true = refl
or_false false = refl

answer_is : (bs : List Bool) (a : Tests) → answer bs a ≡ list_any (λ n. get_or bs n false) (places a)
answer_is bs nothing = refl
answer_is bs (the n) = sym (or_false (get_or bs n false))
answer_is bs (either a b) =
    ap (λ (x : Bool). x || answer bs b) (answer_is bs a) ∙ ap (λ (x : Bool). list_any (λ n. get_or bs n false) (places a) || x) (answer_is bs b) ∙ sym (list_any-append (λ n. get_or bs n false) (places a) (places b))

found_there : (test : ℕ → Bool) (n : ℕ) (ms : List ℕ) → test n ≡ true → list_any (eqb n) ms ≡ true → list_any test ms ≡ true
found_there test n [] h k = absurd (false≢true k)
found_there test n (m ∷ ms) h k = elim (or_cases (eqb n m) (list_any (eqb n) ms) k) [
  | inl e ↦ or_left (test m) (list_any test ms) (ap test (sym (eqb-true n m e)) ∙ h)
  | inr e ↦ or_right (test m) (list_any test ms) (found_there test n ms h e)
]

more : (test : ℕ → Bool) (ns ms : List ℕ) → are_among ns ms ≡ true → list_any test ns ≡ true → list_any test ms ≡ true
more test [] ms among h = absurd (false≢true h)
more test (n ∷ ns) ms among h =
    let parts = and_parts (list_any (eqb n) ms) (are_among ns ms) among in
    elim (or_cases (test n) (list_any test ns) h) [
      | inl e ↦ found_there test n ms e parts.0
      | inr e ↦ more test ns ms parts.1 e
    ]

pub one_answer : (a b : Bool) → (a ≡ true → b ≡ true) → (b ≡ true → a ≡ true) → a ≡ b
one_answer true b f g = sym (f refl)
one_answer false true f g = g refl
one_answer false false f g = refl

pub reordered : (bs : List Bool) (a b : Tests) → are_same a b ≡ true → answer bs a ≡ answer bs b
reordered bs a b h =
    let parts = and_parts (are_among (places a) (places b)) (are_among (places b) (places a)) h in
    answer_is bs a
    ∙ one_answer (list_any (λ n. get_or bs n false) (places a)) (list_any (λ n. get_or bs n false) (places b)) (more (λ n. get_or bs n false) (places a) (places b) parts.0) (more (λ n. get_or bs n false) (places b) (places a) parts.1)
    ∙ sym (answer_is bs b)

-- ---- tests of each item

pub any_or : {A : Type 0} (f g : A → Bool) (xs : List A) → list_any (λ x. f x || g x) xs ≡ list_any f xs || list_any g xs
any_or f g [] = refl
any_or f g (x ∷ xs) = ap (λ (b : Bool). (f x || g x) || b) (any_or f g xs) ∙ or_swap (f x) (g x) (list_any f xs) (list_any g xs)

pub any_same : {A : Type 0} (f g : A → Bool) (xs : List A) → ((x : A) → f x ≡ g x) → list_any f xs ≡ list_any g xs
any_same f g [] h = refl
any_same f g (x ∷ xs) h = both_or _ _ _ _ (h x) (any_same f g xs h)
