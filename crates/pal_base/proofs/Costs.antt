-- The sum of two lists of costs, one after the other.
use Rattle.std.proofs.Common.{◌≡◌, ℕ, zero, suc, ◌+◌, ◌<◌, List, [], ◌∷◌, ◌++◌, length, map, drop, get_or, refl, sym, ap, ◌∙◌, arith, append_assoc}
use Rattle.std.proofs.lemmas.List.{drop_more}
use Rattle.pal_base.specs.declared.cost.Cost.{Cost}
use Rattle.pal_base.specs.Costs.{comes_to}

-- costs counted so far, and those from here on, are all
abbrev pub UnderWay : Cost → List ℕ → List ℕ → Type 0
UnderWay cost rest all = (done : List ℕ) × (cost ≡ comes_to done) × (done ++ rest ≡ all)

-- `new` is the sum of `cost` and `others`, whatever lists these are the sums of
abbrev pub Adds : Cost → Cost → Cost → Type 0
Adds cost others new = (xs ys : List ℕ) → cost ≡ comes_to xs → others ≡ comes_to ys → new ≡ comes_to (xs ++ ys)

pub goes_on : (cost others new : Cost) (item rest before all : List ℕ) → Adds cost others new → others ≡ comes_to item → before ≡ item ++ rest → UnderWay cost before all → UnderWay new rest all
goes_on cost others new item rest before all adds is next u = (u.0 ++ item, adds u.0 item u.1 is, append_assoc u.0 item rest ∙ ap (λ xs. u.0 ++ xs) (sym next) ∙ u.2)

-- one more of constructs that all cost the same
pub one_more : {X : Type 0} (ticks : ℕ) (xs : List X) (i : ℕ) (cost new : Cost) → i < length xs → ((done : List ℕ) → cost ≡ comes_to done → new ≡ comes_to (done ++ ticks ∷ []))
    → UnderWay cost (map (λ _. ticks) (drop i xs)) (map (λ _. ticks) xs) → UnderWay new (map (λ _. ticks) (drop (i + 1) xs)) (map (λ _. ticks) xs)
one_more {X = X} ticks xs i cost new within adds u =
    let rest = map (λ _. ticks) (drop (i + 1) xs) in
    (u.0 ++ ticks ∷ [], adds u.0 u.1, append_assoc u.0 (ticks ∷ []) rest ∙ ap (λ l. u.0 ++ l) (sym (next xs i within)) ∙ u.2)
  where
    next : (xs : List X) (i : ℕ) → i < length xs → map (λ _. ticks) (drop i xs) ≡ ticks ∷ map (λ _. ticks) (drop (i + 1) xs)
    next [] i within = absurd (omega (arith, within))
    next (x ∷ xs) zero within = refl
    next (x ∷ xs) (suc i) within =
        let at : suc i + 1 ≡ suc (i + 1) = omega arith in
        next xs i (omega (arith, within)) ∙ ap (λ k. ticks ∷ map (λ _. ticks) (drop k (x ∷ xs))) (sym at)

-- the costs of the next item and of the rest of a slice
pub next_of : {X : Type 0} (costs : List X → List ℕ) (xs : List X) (i : ℕ) (x : X) → i < length xs → x ≡ get_or xs i x → costs (drop i xs) ≡ costs (x ∷ drop (i + 1) xs)
next_of costs xs i x within is = ap costs (drop_more xs i x within ∙ ap (λ y. y ∷ drop (i + 1) xs) (sym is))
