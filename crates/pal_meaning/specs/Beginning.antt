-- How the words of a program begin, and where words leave the grammar.
use Rattle.std.specs.Prelude.{ℕ, suc, ◌<◌, ◌≤◌, List, ◌++◌, length, take}
use Rattle.pal_meaning.specs.Grammar.{Word, IsWritten}
use Rattle.pal_meaning.specs.Syntax as tree

-- the words of a program
abbrev pub IsWhole : List Word → Type 0
IsWhole words = (program : tree.Program) × IsWritten words program

-- some program begins with these words
abbrev pub IsBeginning : List Word → Type 0
IsBeginning words = (more : List Word) × IsWhole (words ++ more)

-- These words are no program, and leave the grammar after the first `place`: some program begins
-- with these, and no program begins with these and the next word, if a next word follows.
abbrev pub LeavesAt : List Word → ℕ → Type 0
LeavesAt words place = (IsWhole words → ⊥) × (place ≤ length words) × IsBeginning (take place words) × (place < length words → IsBeginning (take (suc place) words) → ⊥)
