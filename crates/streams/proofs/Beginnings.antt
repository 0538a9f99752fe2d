-- What was read of a text, piece by piece.
use Rattle.std.proofs.Common.{◌≡◌, inl, inr, ℕ, Bool, true, List, ◌++◌, Option, Some, None, sym, ap, ◌∙◌, append_assoc}
use Rattle.std.specs.Io.KnownBytes.{Consumes, IsAtEnd}
use Rattle.streams.specs.Beginnings.{IsBeginning, IsPiece}

pub piece_read : (old mid new : Option (List ℕ)) (before after : List ℕ) → Consumes old mid before → IsPiece mid new before after → Consumes old new after
piece_read None mid new before after read piece = tt
piece_read (Some text) None new before after read piece = absurd read
piece_read (Some text) (Some left) None before after read piece = absurd piece.2
piece_read (Some text) (Some left) (Some rest) before after read (more, is, next) =
    read ∙ ap (λ xs. before ++ xs) next ∙ sym (append_assoc before more rest) ∙ ap (λ xs. xs ++ rest) (sym is)

pub all_read : (suffices : List ℕ → Bool) (old new : Option (List ℕ)) (bytes : List ℕ) → Consumes old new bytes → IsAtEnd new → IsBeginning suffices old bytes
all_read suffices None new bytes read end = tt
all_read suffices (Some text) None bytes read end = absurd read
all_read suffices (Some text) (Some rest) bytes read end = (rest, read, inl end)

pub enough_read : (suffices : List ℕ → Bool) (old new : Option (List ℕ)) (bytes : List ℕ) → Consumes old new bytes → suffices bytes ≡ true → IsBeginning suffices old bytes
enough_read suffices None new bytes read enough = tt
enough_read suffices (Some text) None bytes read enough = absurd read
enough_read suffices (Some text) (Some rest) bytes read enough = (rest, read, inr enough)
