-- The beginning of a text that is read as far as its verdict needs.
use Rattle.std.specs.Prelude.{◌≡◌, ◌⊎◌, ℕ, Bool, true, List, [], ◌++◌, Option, Some, None}
use Rattle.std.specs.Io.KnownBytes.{Consumes}
use Rattle.streams.specs.Contents.{Contents}

-- the whole text, or a beginning of it that suffices
abbrev pub IsBeginningOf : (List ℕ → Bool) → List ℕ → List ℕ → Type 0
IsBeginningOf suffices text bytes = (rest : List ℕ) × (text ≡ bytes ++ rest) × ((rest ≡ []) ⊎ (suffices bytes ≡ true))

-- the same of the bytes that a reader had left, if they are known
abbrev pub IsBeginning : (List ℕ → Bool) → Option (List ℕ) → List ℕ → Type 0
IsBeginning suffices None bytes = Unit {0}
IsBeginning suffices (Some text) bytes = IsBeginningOf suffices text bytes

-- the same of the bytes of a file
abbrev pub HoldsFrom : (List ℕ → Bool) → Option Contents → List ℕ → List ℕ → Type 0
HoldsFrom suffices None name bytes = Unit {0}
HoldsFrom suffices (Some files) name bytes = (text : List ℕ) × (files name ≡ Some text) × IsBeginningOf suffices text bytes

-- what was consumed follows the bytes that were read before
abbrev pub IsPiece : Option (List ℕ) → Option (List ℕ) → List ℕ → List ℕ → Type 0
IsPiece old new before after = (more : List ℕ) × (after ≡ before ++ more) × Consumes old new more
