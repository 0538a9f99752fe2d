-- Loops over a slice, where a definition goes over the list: what is made so far, and what the rest from here makes, are all of it.
use Rattle.std.proofs.Common.{◌≡◌, ℕ, ◌+◌, ◌<◌, ◌≤◌, List, [], ◌∷◌, ◌++◌, length, drop, get_or, map, refl, sym, ap, ◌∙◌}
use Rattle.std.proofs.lemmas.List.{append_assoc, append-nil, at_drop_all, at_drop_more, map_push}

-- the next item adds its own
pub goes_on : {X A : Type 0} (all : List X → List A) (own : X → List A) (xs : List X) (i : ℕ) (d : X) (old new whole : List A) → ((y : X) (ys : List X) → all (y ∷ ys) ≡ own y ++ all ys) → i < length xs
    → new ≡ old ++ own (get_or xs i d) → old ++ all (drop i xs) ≡ whole → new ++ all (drop (i + 1) xs) ≡ whole
goes_on all own xs i d old new whole law some grows before =
    ap (λ (a : List _). a ++ all (drop (i + 1) xs)) grows ∙ append_assoc old (own (get_or xs i d)) (all (drop (i + 1) xs))
    ∙ ap (λ (a : List _). old ++ a) (sym (at_drop_more all xs i d some ∙ law (get_or xs i d) (drop (i + 1) xs))) ∙ before

-- what was pushed is seen as what the next item, that is read, adds
pub one_more : {X Y A : Type 0} (view : Y → A) (own : X → A) (xs : List X) (i : ℕ) (x : X) (old new : List Y) (y : Y) (whole : List A) → i < length xs → x ≡ get_or xs i x → new ≡ old ++ y ∷ [] → view y ≡ own x
    → map view old ++ map own (drop i xs) ≡ whole → map view new ++ map own (drop (i + 1) xs) ≡ whole
one_more view own xs i x old new y whole some read pushed is before =
    goes_on (map own) (λ (z : _). own z ∷ []) xs i x (map view old) (map view new) whole (λ _ _. refl) some
    (ap (map view) pushed ∙ map_push view old y ∙ ap (λ (a : _). map view old ++ a ∷ []) (is ∙ ap own read)) before

-- after the last item nothing is left
pub all_made : {X A : Type 0} (all : List X → List A) (xs : List X) (i : ℕ) (made whole : List A) → all [] ≡ [] → length xs ≤ i → made ++ all (drop i xs) ≡ whole → made ≡ whole
all_made all xs i made whole none over before = sym (append-nil made) ∙ ap (λ (a : List _). made ++ a) (sym (at_drop_all all xs i over ∙ none)) ∙ before
