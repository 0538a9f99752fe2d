-- A word as the definitions see it.
use Rattle.std.specs.Prelude.{◌≡◌, ℕ, ◌<◌, List, ◌++◌, length}
use Rattle.pal_base.specs.declared.word.Token.{Token}
use Rattle.pal_base.specs.declared.word.Word.{Word}
use Rattle.pal_base.specs.declared.word.Word.TheVariants as word
use Rattle.pal_base.specs.Marks.{mark_text}
use Rattle.pal_base.specs.View.{natural_of, id_text}
use Rattle.pal_meaning.specs.Grammar as grammar

-- a word, where the names have these texts
abbrev pub word_of : List (List ℕ) → Word → grammar.Word
word_of names (word.Name x) = grammar.Name (id_text names x)
word_of names (word.Number n) = grammar.Number (natural_of n)
word_of names (word.Service s) = grammar.ServiceWord s
word_of names (word.Mark m) = grammar.Mark (mark_text m)
word_of names word.Stray = grammar.Stray

abbrev pub token_of : List (List ℕ) → Token → grammar.Word
token_of names t = word_of names t.word

-- names are only added after those that are there
abbrev pub Extends : List (List ℕ) → List (List ℕ) → Type 0
Extends old new = (more : List (List ℕ)) × (new ≡ old ++ more)

-- a name is one of those that are there
abbrev pub IsKnown : List (List ℕ) → Word → Type 0
IsKnown names (word.Name x) = x.0 < length names
IsKnown names (word.Number n) = Unit {0}
IsKnown names (word.Service s) = Unit {0}
IsKnown names (word.Mark m) = Unit {0}
IsKnown names word.Stray = Unit {0}
