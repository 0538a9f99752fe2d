-- Lists, one element after another.
use Rattle.std.proofs.Common.{◌≡◌, ℕ, List, [], ◌++◌, append-nil, length, map, sym}
use Rattle.std.proofs.lemmas.List.{length-map}

pub append_nil : {A : Type 0} (xs : List A) → xs ++ [] ≡ xs
append_nil xs = append-nil xs

pub mapped_length : {A B : Type 0} (f : A → B) (xs : List A) → length xs ≡ length (map f xs)
mapped_length f xs = sym (length-map xs f)
