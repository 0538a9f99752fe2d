-- Loops over a list: one more item, and those that are left.
use Rattle.std.proofs.Common.{◌≡◌, ◌<◌, ◌≤◌, ◌+◌, ℕ, List, [], ◌∷◌, ◌++◌, length, drop, get_or, ap, sym, subst, ◌∙◌, append-nil, append_assoc}
use Rattle.std.proofs.lemmas.List.{drop_all, drop_more}

-- the next item and those after it; the items that the loop reads are those of the list
pub left : {X : Type 0} (xs items : List X) (i : ℕ) (x : X) → items ≡ xs → i < length items → x ≡ get_or items i x → drop i xs ≡ x ∷ drop (i + 1) xs
left {X = X} xs items i x same some is =
    subst (λ (ys : List X). drop i ys ≡ x ∷ drop (i + 1) ys) same (drop_more items i x some ∙ ap (λ (y : X). y ∷ drop (i + 1) items) (sym is))

-- what comes of the next item is added
pub added : {X Y : Type 0} (rest behind : List X → List Y) (piece : List Y) (xs items : List X) (i : ℕ) (x : X) (old new whole : List Y) → items ≡ xs → i < length items → x ≡ get_or items i x
    → rest (x ∷ drop (i + 1) xs) ≡ piece ++ behind (drop (i + 1) xs) → new ≡ old ++ piece → old ++ rest (drop i xs) ≡ whole → new ++ behind (drop (i + 1) xs) ≡ whole
added {Y = Y} rest behind piece xs items i x old new whole same some is step more before =
    ap (λ (ys : List Y). ys ++ behind (drop (i + 1) xs)) more ∙ append_assoc old piece (behind (drop (i + 1) xs))
    ∙ ap (λ (ys : List Y). old ++ ys) (sym (ap rest (left xs items i x same some is) ∙ step)) ∙ before

-- where no items are left, all is added
pub all_added : {X Y : Type 0} (rest : List X → List Y) (xs items : List X) (i : ℕ) (so_far whole : List Y) → rest [] ≡ [] → items ≡ xs → length items ≤ i
    → so_far ++ rest (drop i xs) ≡ whole → so_far ≡ whole
all_added {X = X} {Y = Y} rest xs items i so_far whole none same over before =
    let end : drop i xs ≡ [] = drop_all i xs (subst (λ (ys : List X). length ys ≤ i) same over) in
    sym (append-nil so_far) ∙ ap (λ (ys : List Y). so_far ++ ys) (sym (ap rest end ∙ none)) ∙ before
