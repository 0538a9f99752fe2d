-- Lists that are appended one after another.
use Rattle.std.proofs.Common.{◌≡◌, List, [], ◌++◌}
use Rattle.std.proofs.lemmas.List.{append-nil}

pub append_nil : {A : Type 0} (xs : List A) → xs ++ [] ≡ xs
append_nil xs = append-nil xs
