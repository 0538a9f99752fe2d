-- Lists that grow in a loop over others.
use Rattle.std.proofs.Common.{◌≡◌, ℕ, ◌+◌, ◌<◌, ◌≤◌, List, [], ◌∷◌, ◌++◌, length, get_or, drop, sym, ap, ◌∙◌, append_assoc, append-nil}
use Rattle.std.proofs.lemmas.List.{at_drop_all, at_drop_more, drop_more}

-- the item at a place, and those after it
pub next_of : {A : Type 0} (xs : List A) (i : ℕ) (x : A) → i < length xs → x ≡ get_or xs i x → drop i xs ≡ x ∷ drop (i + 1) xs
next_of xs i x within is = drop_more xs i x within ∙ ap (λ y. y ∷ drop (i + 1) xs) (sym is)

-- what an item adds, before what the others add
pub adds : {X : Type 0} (old new item rest total : List X) → new ≡ old ++ item → old ++ (item ++ rest) ≡ total → new ++ rest ≡ total
adds old new item rest total added h = ap (λ l. l ++ rest) added ∙ append_assoc old item rest ∙ h

-- one more of the items, of which `all` makes what each adds on its own
pub goes_on : {A X : Type 0} (all : List A → List X) (own : A → List X) (xs : List A) (i : ℕ) (d : A) (old new total : List X) → ((y : A) (ys : List A) → all (y ∷ ys) ≡ own y ++ all ys) → i < length xs
    → new ≡ old ++ own (get_or xs i d) → old ++ all (drop i xs) ≡ total → new ++ all (drop (i + 1) xs) ≡ total
goes_on all own xs i d old new total law within added h =
    adds old new (own (get_or xs i d)) (all (drop (i + 1) xs)) total added (ap (λ (l : List _). old ++ l) (sym (at_drop_more all xs i d within ∙ law (get_or xs i d) (drop (i + 1) xs))) ∙ h)

-- the same for an item that is read
pub item_goes_on : {A X : Type 0} (all : List A → List X) (own : A → List X) (xs : List A) (i : ℕ) (x : A) (old new total : List X) → ((y : A) (ys : List A) → all (y ∷ ys) ≡ own y ++ all ys) → i < length xs
    → x ≡ get_or xs i x → new ≡ old ++ own x → old ++ all (drop i xs) ≡ total → new ++ all (drop (i + 1) xs) ≡ total
item_goes_on all own xs i x old new total law within is added h = goes_on all own xs i x old new total law within (added ∙ ap (λ (y : _). old ++ own y) is) h

-- after the last item, all is added
pub all_added : {A X : Type 0} (all : List A → List X) (xs : List A) (i : ℕ) (so_far total : List X) → all [] ≡ [] → length xs ≤ i → so_far ++ all (drop i xs) ≡ total → so_far ≡ total
all_added all xs i so_far total none over h = sym (append-nil so_far) ∙ ap (λ (l : List _). so_far ++ l) (sym (at_drop_all all xs i over ∙ none)) ∙ h
