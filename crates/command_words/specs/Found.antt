-- The arguments found in the words.
use Rattle.std.specs.Prelude.{ℕ, List, [], Option, unwrap_or}
use Rattle.clap.specs.Walk.{Row, first_of, all_of}

-- the command that was found, with its words; none without a command
abbrev pub Entered : Type 0
Entered = Option (List ℕ × List Row)

-- the word, and the words, that were found for an argument
abbrev pub word_at : List ℕ → List Row → List ℕ
word_at name rows = unwrap_or (first_of name rows) []

abbrev pub words_at : List ℕ → List Row → List (List ℕ)
words_at name rows = unwrap_or (all_of name rows) []
