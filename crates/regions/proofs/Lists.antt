-- Views of stacks with one of them changed or selected.
use Rattle.std.proofs.Common.{◌≡◌, ◌∙◌, ℕ, ℤ, zero, suc, ◌<◌, List, [], ◌∷◌, length, map, refl, sym, ap, arith}
use Rattle.std.specs.Prelude.{get_or, slice_get, slice_set, Some}
use Rattle.regions.specs.Space.{seen}
use Rattle.std.proofs.lemmas.List.{map-set, get_or-map, get_or-set_same, length-map, length-set}
use Rattle.std.proofs.lemmas.List.Elements.{All-set, All-append}
use Rattle.std.proofs.lemmas.Option.{slice_get-map, slice_get_past, slice_get_within, slice_get-get_or, none-some, same_Some}

pub set_twice : {A : Type 0} (xs : List A) (i : ℕ) (x y : A) → slice_set (slice_set xs i x) i y ≡ slice_set xs i y
set_twice [] zero x y = refl
set_twice [] (suc i) x y = refl
set_twice (z ∷ xs) zero x y = refl
set_twice (z ∷ xs) (suc i) x y = ap (λ l. z ∷ l) (set_twice xs i x y)

pub put_back : {A : Type 0} (xs : List A) (i : ℕ) (x d : A) → slice_set (slice_set xs i x) i (get_or xs i d) ≡ xs
put_back [] zero x d = refl
put_back [] (suc i) x d = refl
put_back (z ∷ xs) zero x d = refl
put_back (z ∷ xs) (suc i) x d = ap (λ l. z ∷ l) (put_back xs i x d)

set_as_it_is : {A : Type 0} (xs : List A) (i : ℕ) (x : A) → slice_get xs i ≡ Some x → slice_set xs i x ≡ xs
set_as_it_is [] i x is = absurd (none-some x is)
set_as_it_is (z ∷ xs) zero x is = ap (λ y. y ∷ xs) (sym (same_Some z x is))
set_as_it_is (z ∷ xs) (suc i) x is = ap (λ l. z ∷ l) (set_as_it_is xs i x is)

get_what_was_set : {A : Type 0} (xs : List A) (i : ℕ) (x d y : A) → slice_get xs i ≡ Some y → get_or (slice_set xs i x) i d ≡ x
get_what_was_set [] i x d y is = absurd (none-some y is)
get_what_was_set (z ∷ xs) zero x d y is = refl
get_what_was_set (z ∷ xs) (suc i) x d y is = get_what_was_set xs i x d y is

-- a space in which the stack that is selected is the own one already
pub selected_again : (words stack : List ℤ) (rest : List (List ℤ)) (own place : ℕ) → place ≡ own → slice_get rest own ≡ Some []
    → record { words = words; stack = stack; rest = rest; own = own } ≡ seen words (slice_set rest own stack) place
selected_again words stack rest own place same none =
    let own_one : get_or (slice_set rest own stack) own [] ≡ stack = get_what_was_set rest own stack [] [] none in
    let others : slice_set (slice_set rest own stack) own [] ≡ rest = set_twice rest own stack [] ∙ set_as_it_is rest own [] none in
    rw (same, own_one, others) refl

-- the view of the element at a place
pub seen_at : {A B : Type 0} (view : A → B) (xs : List A) (i : ℕ) (d : A) (y : B) → slice_get (map view xs) i ≡ Some y → view (get_or xs i d) ≡ y
seen_at view [] i d y e = absurd (none-some y e)
seen_at view (x ∷ xs) zero d y e = same_Some (view x) y e
seen_at view (x ∷ xs) (suc i) d y e = seen_at view xs i d y e

-- the view at a place where an element was put
pub seen_put : {A B : Type 0} (view : A → B) (xs : List A) (i : ℕ) (x : A) (y : B) → i < length xs → view x ≡ y → slice_get (map view (slice_set xs i x)) i ≡ Some y
seen_put view [] i x y within e = absurd (omega (arith, within))
seen_put view (z ∷ xs) zero x y within e = ap Some e
seen_put view (z ∷ xs) (suc i) x y within e = seen_put view xs i x y (omega (arith, within)) e

pub ruleset stacks = (map-set, get_or-map, get_or-set_same, length-map, length-set, All-set, All-append, slice_get-map, slice_get_past, slice_get_within, slice_get-get_or, set_twice, put_back)
