-- Pieces that are appended one after another, the last by a call that may lack memory.
use Rattle.std.proofs.Common.{◌≡◌, ℕ, ◌+◌, ◌<◌, List, ◌++◌, append_assoc, Result, Ok, Err, OnOk, is_ok, cond, ap, drop, get_or, length, sym, ◌∙◌}
use Rattle.std.specs.Prelude.{flat_map}
use Rattle.std.proofs.lemmas.List.{at_drop_more}
use Rattle.image.proofs.Lists.{three, four}

piece : (new old a b : List ℕ) → new ≡ old ++ a → a ≡ b → new ≡ old ++ b
piece new old a b is same = is ∙ ap (λ (bs : List ℕ). old ++ bs) same

pub last : {T E : Type 0} (r : Result T E) (new old a b : List ℕ) → new ≡ cond (is_ok r) (old ++ a) old → a ≡ b → OnOk r (new ≡ old ++ b)
last (Ok u) new old a b is same = piece new old a b is same
last (Err e) new old a b is same = tt

pub three_pieces : (out a b c p q r x y z : List ℕ) → x ≡ out ++ p → p ≡ a → y ≡ x ++ q → q ≡ b → z ≡ y ++ r → r ≡ c → z ≡ out ++ (a ++ b ++ c)
three_pieces out a b c p q r x y z x-is p-is y-is q-is z-is r-is = three out a b c x y z (piece x out p a x-is p-is) (piece y x q b y-is q-is) (piece z y r c z-is r-is)

pub four_pieces : (out a b c d p q r s w x y z : List ℕ) → w ≡ out ++ p → p ≡ a → x ≡ w ++ q → q ≡ b → y ≡ x ++ r → r ≡ c → z ≡ y ++ s → s ≡ d → z ≡ out ++ (a ++ b ++ c ++ d)
four_pieces out a b c d p q r s w x y z w-is p-is x-is q-is y-is r-is z-is s-is =
    four out a b c d w x y z (piece w out p a w-is p-is) (piece x w q b x-is q-is) (piece y x r c y-is r-is) (piece z y s d z-is s-is)

pub four_last : {T E : Type 0} (o : Result T E) (out a b c d p q r s w x y z : List ℕ) → w ≡ out ++ p → p ≡ a → x ≡ w ++ q → q ≡ b → y ≡ x ++ r → r ≡ c → z ≡ cond (is_ok o) (y ++ s) y → s ≡ d
    → OnOk o (z ≡ out ++ (a ++ b ++ c ++ d))
four_last (Ok u) out a b c d p q r s w x y z w-is p-is x-is q-is y-is r-is z-is s-is = four_pieces out a b c d p q r s w x y z w-is p-is x-is q-is y-is r-is z-is s-is
four_last (Err e) out a b c d p q r s w x y z w-is p-is x-is q-is y-is r-is z-is s-is = tt

-- after the piece of one more item, those of the rest are left
pub item_goes_on : {A B : Type 0} (f : A → List B) (xs : List A) (i : ℕ) (x : A) (old new whole : List B) → i < length xs → x ≡ get_or xs i x → new ≡ old ++ f x
    → old ++ flat_map f (drop i xs) ≡ whole → new ++ flat_map f (drop (i + 1) xs) ≡ whole
item_goes_on f xs i x old new whole some read is before =
    ap (λ bs. bs ++ flat_map f (drop (i + 1) xs)) (is ∙ ap (λ y. old ++ f y) read) ∙ append_assoc old (f (get_or xs i x)) (flat_map f (drop (i + 1) xs))
    ∙ ap (λ bs. old ++ bs) (sym (at_drop_more (flat_map f) xs i x some)) ∙ before
