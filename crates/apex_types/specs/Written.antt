-- How a line is written, piece by piece, into bytes that are there.
use Rattle.std.specs.Prelude.{◌≡◌, ◌≤◌, ◌+◌, ℕ, List, ◌∷◌, [], ◌++◌, Option, codes, length, take}
use Rattle.apex_types.specs.Line.{kind_text, partition_text}
use Rattle.apex_types.specs.declared.event.EventKind.{EventKind}

-- The piece, of at most `most` bytes, was written after the first `at` bytes and ends at `end`.
pub record IsWritten (old : List ℕ) (at : ℕ) (new : List ℕ) (end : ℕ) (piece : List ℕ) (most : ℕ) : Type 0 where
  pub items : take end new ≡ take at old ++ piece
  pub within : end ≤ at + most
  pub whole : length new ≡ length old

-- a line with these digits of its tick
abbrev pub line_text : List ℕ → Option (List ℕ) → EventKind → List ℕ
line_text digits partition kind = digits ++ codes " " ++ partition_text partition ++ codes " " ++ kind_text kind ++ 10 ∷ []
