-- The line of each word in a source text, counted from 1.
use Rattle.std.specs.Prelude.{ℕ, zero, suc, ◌-◌, ◌==◌, false, if◌then◌else◌, List, [], ◌∷◌}
use Rattle.pal_meaning.specs.Grammar.{behind_blanks, word_at}

-- the number of line feeds of a text
abbrev pub feeds : List ℕ → ℕ
feeds [] = 0
feeds (b ∷ bs) = if b == 10 then suc (feeds bs) else feeds bs

-- the text from the word on that has `n` words before it; nothing if there are no more words
unfoldable pub from_word : ℕ → List ℕ → List ℕ
from_word zero text = behind_blanks false text
from_word (suc n) text = from_word n (word_at (behind_blanks false text)).1

-- The line of that word is one more than the number of line feeds before it; without more words, it
-- is the last line.
abbrev pub word_line : List ℕ → ℕ → ℕ
word_line text n = suc (feeds text - feeds (from_word n text))
