-- The word of which something is said.
use Rattle.std.specs.Prelude.{◌≡◌, ℕ, List, [], ◌∷◌, codes, length, Some}
use Rattle.pal_meaning.specs.Grammar.{Word, Mark, Name, Number, ServiceWord, word_at}
use Rattle.pal_meaning.specs.Lines.{from_word}
use Rattle.source_findings.specs.What.{What, Wrong, Unknown, Again, Other, Arguments, Targets, Return, Long, Outside, Odd}

-- a word of a text, from which on `left` bytes remain
abbrev pub IsWordAt : List ℕ → ℕ → Word → Type 0
IsWordAt text left word = (n : ℕ) × (left ≡ length (from_word n text)) × ((word_at (from_word n text)).0 ≡ word)

-- what is said names the word, or gives its number
abbrev pub IsSaidOf : What → Word → Type 0
IsSaidOf (Unknown name near) word = word ≡ Name name
IsSaidOf (Again name) word = word ≡ Name name
IsSaidOf (Other name found wanted) word = word ≡ Name name
IsSaidOf (Long name) word = word ≡ Name name
IsSaidOf (Arguments service given) word = word ≡ ServiceWord service
IsSaidOf (Targets service given) word = word ≡ ServiceWord service
IsSaidOf Return word = word ≡ Mark (codes "return")
IsSaidOf (Outside thing number low high) word = word ≡ Number (Some number)
IsSaidOf (Odd period partition) word = word ≡ Number (Some period)
IsSaidOf what word = Unit {0}

-- the place is that of a word of which this is said
abbrev pub IsPlaced : List ℕ → Wrong → Type 0
IsPlaced text w = (word : Word) × IsWordAt text w.left word × IsSaidOf w.what word

abbrev pub ArePlaced : List ℕ → List Wrong → Type 0
ArePlaced text [] = Unit {0}
ArePlaced text (w ∷ ws) = IsPlaced text w × ArePlaced text ws
