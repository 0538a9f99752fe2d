-- The items of a list after one of them, or each, is replaced.
use Rattle.kernel_laws.proofs.Prelude.{◌≡◌, ◌≢◌, ℕ, zero, suc, true, List, ◌∷◌, Some, refl, none-some, same_Some, is_some, map, slice_get, slice_set}
use Rattle.std.proofs.Common.{[], ap}

pub get_set_same : {A : Type 0} (xs : List A) (i : ℕ) (x y : A) → slice_get xs i ≡ Some x → slice_get (slice_set xs i y) i ≡ Some y
get_set_same [] i x y h = absurd (none-some x h)
get_set_same (a ∷ xs) zero x y h = refl
get_set_same (a ∷ xs) (suc i) x y h = get_set_same xs i x y h

pub get_set_other : {A : Type 0} (xs : List A) (i j : ℕ) (y : A) → i ≢ j → slice_get (slice_set xs i y) j ≡ slice_get xs j
get_set_other [] i j y h = refl
get_set_other (a ∷ xs) zero zero y h = absurd (h refl)
get_set_other (a ∷ xs) zero (suc j) y h = refl
get_set_other (a ∷ xs) (suc i) zero y h = refl
get_set_other (a ∷ xs) (suc i) (suc j) y h = get_set_other xs i j y (λ e. h (ap suc e))

-- where there was an item, there still is one
pub some_set : {A : Type 0} (xs : List A) (i j : ℕ) (y : A) → is_some (slice_get xs j) ≡ true → is_some (slice_get (slice_set xs i y) j) ≡ true
some_set [] i j y h = h
some_set (a ∷ xs) zero zero y h = refl
some_set (a ∷ xs) zero (suc j) y h = h
some_set (a ∷ xs) (suc i) zero y h = refl
some_set (a ∷ xs) (suc i) (suc j) y h = some_set xs i j y h

pub some_map : {A B : Type 0} (f : A → B) (xs : List A) (i : ℕ) → is_some (slice_get xs i) ≡ true → is_some (slice_get (map f xs) i) ≡ true
some_map f [] i h = h
some_map f (x ∷ xs) zero h = refl
some_map f (x ∷ xs) (suc i) h = some_map f xs i h

-- each item of a list to which a function is applied comes from one at its place
pub mapped : {A B : Type 0} (f : A → B) (xs : List A) (i : ℕ) (y : B) → slice_get (map f xs) i ≡ Some y → (x : A) × (slice_get xs i ≡ Some x) × (f x ≡ y)
mapped f [] i y e = absurd (none-some y e)
mapped f (x ∷ xs) zero y e = (x, refl, same_Some (f x) y e)
mapped f (x ∷ xs) (suc i) y e = mapped f xs i y e
