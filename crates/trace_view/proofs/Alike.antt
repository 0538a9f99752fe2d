-- Searching the totals of errors.
use Rattle.std.proofs.Common.{◌≡◌, ℕ, zero, suc, ◌+◌, ◌<◌, Bool, true, false, nat_le, List, [], ◌∷◌, length, get_or, Some, refl, sym, ap, subst, ◌∙◌, arith}
use Rattle.std.specs.Prelude.{slice_get}
use Rattle.std.proofs.lemmas.Bool.{leb-true, leb-false}
use Rattle.std.proofs.lemmas.Option.{same_Some}

-- an element that is found is within the list
pub found_within : {A : Type 0} (xs : List A) (k : ℕ) (x : A) → slice_get xs k ≡ Some x → k < length xs
found_within [] k x e = absurd (cc)
found_within (y ∷ ys) zero x e = omega arith
found_within (y ∷ ys) (suc k) x e = let l = found_within ys k x e in omega (arith, l)

-- if none was found so far, and the item here is not it, none is found up to here
pub none_up_to : {A : Type 0} (P : A → Type 0) (items : List A) (place : ℕ) (here : A) → slice_get items place ≡ Some here → (P here → ⊥)
    → ((k : ℕ) (one : A) → k < place → slice_get items k ≡ Some one → P one → ⊥)
    → (k : ℕ) (one : A) → k < place + 1 → slice_get items k ≡ Some one → P one → ⊥
none_up_to P items place here at other before k one within found is = compare (nat_le (k + 1) place) refl
  where
    compare : (b : Bool) → nat_le (k + 1) place ≡ b → ⊥
    compare true e = let below = leb-true (k + 1) place e in before k one (omega (arith, below)) found is
    compare false e =
        let above = leb-false (k + 1) place e in
        let same : k ≡ place = omega (arith, above, within) in
        other (subst P (same_Some one here (sym found ∙ ap (slice_get items) same ∙ at)) is)

-- what is read at a place of a list is found there
pub found_at : {A : Type 0} (xs ys : List A) (k : ℕ) (x : A) → ys ≡ xs → k < length ys → x ≡ get_or ys k x → slice_get xs k ≡ Some x
found_at {A = A} xs ys k x same within read = subst (λ zs. slice_get zs k ≡ Some x) same (go ys k within read)
  where
    go : (ys : List A) (k : ℕ) → k < length ys → x ≡ get_or ys k x → slice_get ys k ≡ Some x
    go [] k within read = absurd (omega (arith, within))
    go (y ∷ ys) zero within read = ap Some (sym read)
    go (y ∷ ys) (suc k) within read = go ys k (omega (arith, within)) read
