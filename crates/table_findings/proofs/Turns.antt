-- A loop over a slice, where a definition goes over the list: what it has made, and what the rest from here makes, are all of it.
use Rattle.std.proofs.Common.{◌≡◌, ℕ, ◌+◌, ◌<◌, List, [], ◌∷◌, ◌++◌, length, drop, get_or, map, sym, ap, ◌∙◌}
use Rattle.std.proofs.lemmas.List.{append_assoc, at_drop_more, map_push}
use Rattle.std.specs.Prelude.{Bool, false, true, ◌&&◌}

-- one turn: the next item adds its own
pub turn_at : {X A : Type 0} (all : List X → List A) (xs : List X) (i : ℕ) (d : X) (own rest old new whole : List A)
    → i < length xs → all (get_or xs i d ∷ drop (i + 1) xs) ≡ own ++ rest → new ≡ old ++ own → old ++ all (drop i xs) ≡ whole → new ++ rest ≡ whole
turn_at all xs i d own rest old new whole some cons grows before =
    ap (λ (a : List _). a ++ rest) grows ∙ append_assoc old own rest ∙ ap (λ (a : List _). old ++ a) (sym (at_drop_more all xs i d some ∙ cons)) ∙ before

-- each item has a place
pub goes_on : {X A : Type 0} (all : ℕ → List X → List A) (own : ℕ → X → List A) (xs : List X) (i : ℕ) (d : X) (old new whole : List A)
    → ((y : X) (ys : List X) → all i (y ∷ ys) ≡ own i y ++ all (i + 1) ys) → i < length xs → new ≡ old ++ own i (get_or xs i d)
    → old ++ all i (drop i xs) ≡ whole → new ++ all (i + 1) (drop (i + 1) xs) ≡ whole
goes_on all own xs i d old new whole cons some grows before =
    turn_at (all i) xs i d (own i (get_or xs i d)) (all (i + 1) (drop (i + 1) xs)) old new whole some (cons (get_or xs i d) (drop (i + 1) xs)) grows before

-- the same for an item that is read
pub item_goes_on : {X A : Type 0} (all : ℕ → List X → List A) (own : ℕ → X → List A) (xs : List X) (i : ℕ) (x : X) (old new whole : List A)
    → ((y : X) (ys : List X) → all i (y ∷ ys) ≡ own i y ++ all (i + 1) ys) → i < length xs → x ≡ get_or xs i x → new ≡ old ++ own i x
    → old ++ all i (drop i xs) ≡ whole → new ++ all (i + 1) (drop (i + 1) xs) ≡ whole
item_goes_on all own xs i x old new whole cons some read grows before = goes_on all own xs i x old new whole cons some (grows ∙ ap (λ (y : _). old ++ own i y) read) before

-- each item changes what is known for the next one
pub state_goes_on : {X S A : Type 0} (all : ℕ → S → List X → List A) (own : ℕ → S → X → List A) (behind : X → S) (xs : List X) (i : ℕ) (d : X) (now next : S) (old new whole : List A)
    → ((y : X) (ys : List X) → all i now (y ∷ ys) ≡ own i now y ++ all (i + 1) (behind y) ys) → i < length xs → next ≡ behind (get_or xs i d) → new ≡ old ++ own i now (get_or xs i d)
    → old ++ all i now (drop i xs) ≡ whole → new ++ all (i + 1) next (drop (i + 1) xs) ≡ whole
state_goes_on all own behind xs i d now next old new whole cons some is grows before =
    ap (λ (s : _). new ++ all (i + 1) s (drop (i + 1) xs)) is
    ∙ turn_at (all i now) xs i d (own i now (get_or xs i d)) (all (i + 1) (behind (get_or xs i d)) (drop (i + 1) xs)) old new whole some (cons (get_or xs i d) (drop (i + 1) xs)) grows before

-- a list is made item by item
pub one_more : {X A B : Type 0} (f : A → B) (all : List X → List B) (own : X → A) (xs : List X) (i : ℕ) (d : X) (old new : List A) (whole : List B)
    → ((y : X) (ys : List X) → all (y ∷ ys) ≡ f (own y) ∷ all ys) → i < length xs → new ≡ old ++ own (get_or xs i d) ∷ []
    → map f old ++ all (drop i xs) ≡ whole → map f new ++ all (drop (i + 1) xs) ≡ whole
one_more f all own xs i d old new whole cons some is before =
    turn_at all xs i d (f (own (get_or xs i d)) ∷ []) (all (drop (i + 1) xs)) (map f old) (map f new) whole some (cons (get_or xs i d) (drop (i + 1) xs)) (ap (map f) is ∙ map_push f old (own (get_or xs i d))) before

pub one_item_more : {X A B : Type 0} (f : A → B) (all : List X → List B) (own : X → A) (xs : List X) (i : ℕ) (x : X) (old new : List A) (whole : List B)
    → ((y : X) (ys : List X) → all (y ∷ ys) ≡ f (own y) ∷ all ys) → i < length xs → x ≡ get_or xs i x → new ≡ old ++ own x ∷ []
    → map f old ++ all (drop i xs) ≡ whole → map f new ++ all (drop (i + 1) xs) ≡ whole
one_item_more f all own xs i x old new whole cons some read is before = one_more f all own xs i x old new whole cons some (is ∙ ap (λ (y : _). old ++ own y ∷ []) read) before

-- a search goes past an item that is not looked for
pub passes : {X A B : Type 0} (all rest : List X → A) (look : X → B) (missed : B) (xs : List X) (i : ℕ) (d : X) (whole : A)
    → ((y : X) (ys : List X) → look y ≡ missed → all (y ∷ ys) ≡ rest ys) → i < length xs → missed ≡ look (get_or xs i d) → all (drop i xs) ≡ whole → rest (drop (i + 1) xs) ≡ whole
passes all rest look missed xs i d whole past some miss before = sym (at_drop_more all xs i d some ∙ past (get_or xs i d) (drop (i + 1) xs) (sym miss)) ∙ before

pub and_left : (a b : Bool) → a ≡ false → false ≡ (a && b)
and_left a b wrong = rw wrong

pub and_right : (a b : Bool) → a ≡ true → false ≡ b → false ≡ (a && b)
and_right a b right wrong = rw right wrong
