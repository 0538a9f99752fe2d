-- The words of a source, one after another.
use Rattle.std.specs.Prelude.{ℕ, ◌-◌, false, List, length, take}
use Rattle.pal_meaning.specs.Grammar.{behind_blanks, word_at}

-- the text from the second word on, of one that begins with a word
abbrev pub next_word : List ℕ → List ℕ
next_word text = behind_blanks false (word_at text).1

-- the first word of a text that begins with one
abbrev pub first_word : List ℕ → List ℕ
first_word text = take (length text - length (word_at text).1) text
