-- Instructions that follow one another.
use Rattle.compiling_laws.proofs.Prelude.{◌≡◌, ℕ, ◌+◌, List, ◌∷◌, ◌++◌, length, Option, Some, refl, subst, map, append_assoc, length-append, slice_get, Instr, Code, HasAt}
use Rattle.std.proofs.Common.{[], arith}

pub has_front : (code : Code) (pc : ℕ) (xs ys : List Instr) → HasAt code pc (xs ++ ys) → HasAt code pc xs
has_front code pc [] ys h = tt
has_front code pc (x ∷ xs) ys h = (h.0, has_front code (pc + 1) xs ys h.1)

pub has_back : (code : Code) (pc n : ℕ) (xs ys : List Instr) → length xs ≡ n → HasAt code pc (xs ++ ys) → HasAt code (pc + n) ys
has_back code pc n [] ys e h = let at : pc ≡ pc + n = omega arith in subst (λ p. HasAt code p ys) at h
has_back code pc n (x ∷ xs) ys e h =
    let at : pc + 1 + length xs ≡ pc + n = omega arith in
    subst (λ p. HasAt code p ys) at (has_back code (pc + 1) (length xs) xs ys refl h.1)

get_seam : (before after : Code) (x : Option Instr) → slice_get (before ++ x ∷ after) (length before) ≡ Some x
get_seam [] after x = refl
get_seam (b ∷ before) after x = get_seam before after x

-- a list starts where the code before it ends
pub has_list : (before after : Code) (xs : List Instr) → HasAt (before ++ (map Some xs ++ after)) (length before) xs
has_list before after [] = tt
has_list before after (x ∷ xs) =
    let rest = map Some xs ++ after in
    let more : length (before ++ Some x ∷ []) ≡ length before + 1 = length-append before (Some x ∷ []) in
    let whole : (before ++ Some x ∷ []) ++ rest ≡ before ++ Some x ∷ rest = append_assoc before (Some x ∷ []) rest in
    (get_seam before rest (Some x), subst (λ p. HasAt (before ++ Some x ∷ rest) p xs) more (subst (λ c. HasAt c (length (before ++ Some x ∷ [])) xs) whole (has_list (before ++ Some x ∷ []) after xs)))
