-- Loops over a list: one more item, and those that are left.
use Rattle.std.proofs.Common.{◌≡◌, ◌<◌, ◌≤◌, ◌+◌, ℕ, List, [], ◌∷◌, ◌++◌, length, drop, get_or, ap, sym, ◌∙◌, append-nil, append_assoc}
use Rattle.std.proofs.lemmas.List.{at_drop_all, at_drop_more}

-- what comes of the next item is added
pub added : {X Y : Type 0} (rest behind : List X → List Y) (piece : List Y) (xs : List X) (i : ℕ) (x : X) (old new whole : List Y) → i < length xs → x ≡ get_or xs i x
    → rest (x ∷ drop (i + 1) xs) ≡ piece ++ behind (drop (i + 1) xs) → new ≡ old ++ piece → old ++ rest (drop i xs) ≡ whole → new ++ behind (drop (i + 1) xs) ≡ whole
added {X = X} {Y = Y} rest behind piece xs i x old new whole some is step more before =
    ap (λ (ys : List Y). ys ++ behind (drop (i + 1) xs)) more ∙ append_assoc old piece (behind (drop (i + 1) xs))
    ∙ ap (λ (ys : List Y). old ++ ys) (sym (at_drop_more rest xs i x some ∙ ap (λ (y : X). rest (y ∷ drop (i + 1) xs)) (sym is) ∙ step)) ∙ before

-- where no items are left, all is added
pub all_added : {X Y : Type 0} (rest : List X → List Y) (xs : List X) (i : ℕ) (so_far whole : List Y) → rest [] ≡ [] → length xs ≤ i → so_far ++ rest (drop i xs) ≡ whole → so_far ≡ whole
all_added {Y = Y} rest xs i so_far whole none over before = sym (append-nil so_far) ∙ ap (λ (ys : List Y). so_far ++ ys) (sym (at_drop_all rest xs i over ∙ none)) ∙ before
