-- Something that appears twice in a list is looked for among the items after it, or among those before it.
use Rattle.finding_laws.proofs.Prelude.{◌≡◌, ◌||◌, Bool, ◌∷◌, ◌++◌, ◌∙◌, append_assoc, list_any-append}
use Rattle.std.proofs.Common.{true, false, List, [], refl, sym, ap}
use Rattle.std.proofs.lemmas.List.{append-nil}
use Rattle.std.specs.List.{list_any}
use Rattle.module_meaning.specs.Table.{has_twice}
use Rattle.finding_laws.proofs.Found.{or_assoc}

pub or_swap : (a b c d : Bool) → (a || b) || (c || d) ≡ (a || c) || (b || d)
or_swap true b c d = refl
or_swap false true true d = refl
or_swap false true false d = refl
or_swap false false true d = refl
or_swap false false false d = refl

or_parts_of : (a b c d : Bool) → a || ((b || c) || d) ≡ (a || b) || (c || d)
or_parts_of true b c d = refl
or_parts_of false b c d = or_assoc b c d

or_false : (a : Bool) → a || false ≡ a
or_false true = refl
or_false false = refl

pub both_or : (a b c d : Bool) → a ≡ c → b ≡ d → a || b ≡ c || d
both_or a b c d one other = rw (one, other) refl

module _ {A : Type 0} (equal : A → A → Bool) where
  -- one of the items is one of those before them
  abbrev pub stand_before : List A → List A → Bool
  stand_before front xs = list_any (λ x. list_any (equal x) front) xs

  -- one of the items is one of those before it
  abbrev pub twice_behind : List A → List A → Bool
  twice_behind front [] = false
  twice_behind front (x ∷ xs) = list_any (equal x) front || twice_behind (front ++ x ∷ []) xs

  none_before : (xs : List A) → stand_before [] xs ≡ false
  none_before [] = refl
  none_before (x ∷ xs) = none_before xs

  pub behind_append : (front xs ys : List A) → twice_behind front (xs ++ ys) ≡ twice_behind front xs || twice_behind (front ++ xs) ys
  behind_append front [] ys = ap (λ (fs : List A). twice_behind fs ys) (sym (append-nil front))
  behind_append front (x ∷ xs) ys =
      ap (λ (b : Bool). list_any (equal x) front || b) (behind_append (front ++ x ∷ []) xs ys ∙ ap (λ (fs : List A). twice_behind (front ++ x ∷ []) xs || twice_behind fs ys) (append_assoc front (x ∷ []) xs))
      ∙ sym (or_assoc (list_any (equal x) front) (twice_behind (front ++ x ∷ []) xs) (twice_behind (front ++ x ∷ xs) ys))

  module _ (symm : (x y : A) → equal x y ≡ equal y x) where
    before_more : (x : A) (front xs : List A) → stand_before (front ++ x ∷ []) xs ≡ stand_before front xs || list_any (equal x) xs
    before_more x front [] = refl
    before_more x front (y ∷ xs) =
        ap (λ (b : Bool). b || stand_before (front ++ x ∷ []) xs) (list_any-append (equal y) front (x ∷ []) ∙ ap (λ (b : Bool). list_any (equal y) front || b) (or_false (equal y x) ∙ symm y x))
        ∙ ap (λ (b : Bool). (list_any (equal y) front || equal x y) || b) (before_more x front xs)
        ∙ or_swap (list_any (equal y) front) (equal x y) (stand_before front xs) (list_any (equal x) xs)

    behind_is : (front xs : List A) → twice_behind front xs ≡ stand_before front xs || has_twice equal xs
    unfolding has_twice
    behind_is front [] = refl
    behind_is front (x ∷ xs) =
        ap (λ (b : Bool). list_any (equal x) front || b) (behind_is (front ++ x ∷ []) xs ∙ ap (λ (b : Bool). b || has_twice equal xs) (before_more x front xs))
        ∙ or_parts_of (list_any (equal x) front) (stand_before front xs) (list_any (equal x) xs) (has_twice equal xs)

    pub behind_none : (xs : List A) → has_twice equal xs ≡ twice_behind [] xs
    behind_none xs = sym (behind_is [] xs ∙ ap (λ (b : Bool). b || has_twice equal xs) (none_before xs))
