-- The parts of a line, and how many bytes of the line are left from the beginning of each on.
use Rattle.std.specs.Prelude.{ℕ, ◌+◌, List, [], ◌∷◌, length}

pub record Part : Type 0 where
  pub text : List ℕ
  pub left : ℕ

-- the bytes of pieces, with a mark before each
abbrev pub behind : List (List ℕ) → ℕ
behind [] = 0
behind (piece ∷ more) = 1 + (length piece + behind more)

-- the bytes of a piece and of those after it, with a mark between two of them
abbrev pub total : List (List ℕ) → ℕ
total [] = 0
total (piece ∷ more) = length piece + behind more

abbrev pub parts : List (List ℕ) → List Part
parts [] = []
parts (piece ∷ more) = record { text = piece; left = total (piece ∷ more) } ∷ parts more
