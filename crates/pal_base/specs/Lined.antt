-- The lines of the words of a text, as the code holds them.
use Rattle.std.specs.Prelude.{◌≡◌, ℕ, suc, ◌-◌, ◌<◌, List, [], ◌∷◌, length, drop}
use Rattle.pal_meaning.specs.Beginning.{LeavesAt}
use Rattle.pal_meaning.specs.Grammar.{words_of}
use Rattle.pal_meaning.specs.Lines.{word_line}
use Rattle.pal_base.specs.declared.fault.Refusal.{Refusal}
use Rattle.pal_base.specs.declared.fault.Refusal.TheVariants as refusal
use Rattle.pal_base.specs.declared.source.ReadError.{ReadError}
use Rattle.pal_base.specs.declared.source.ReadError.TheVariants.{Memory, Refused}
use Rattle.pal_base.specs.declared.word.Token.{Token}

-- the lines of a text can be counted in 32 bits
abbrev pub HasFewLines : List ℕ → Type 0
HasFewLines text = length text < 4294967295

-- each of these words of a text has its line, where `n` words come before them
abbrev pub AreLined : List ℕ → ℕ → List Token → Type 0
AreLined text n [] = Unit {0}
AreLined text n (t ∷ ts) = (t.line ≡ word_line text n) × AreLined text (suc n) ts

-- the line of the first of these words, or the last line
abbrev pub first_line : ℕ → List Token → ℕ
first_line last [] = last
first_line last (t ∷ ts) = t.line

-- the line of the refused word, or the last line; 0 if memory ran out
abbrev pub refused_line : ℕ → List Token → ReadError → ℕ
refused_line last tokens Memory = 0
refused_line last tokens (Refused misfit) = first_line last (drop (length tokens - misfit.left) tokens)

-- A refusal by the grammar has the line of the word where the words of the text leave the grammar, or the last line
-- where they end too soon.
abbrev pub IsLineOf : Refusal → ℕ → List ℕ → Type 0
IsLineOf refusal.Grammar line text = (place : ℕ) × LeavesAt (words_of text) place × (line ≡ word_line text place)
IsLineOf refusal.Text line text = Unit {0}
IsLineOf refusal.Name line text = Unit {0}
IsLineOf refusal.Kind line text = Unit {0}
IsLineOf refusal.Limit line text = Unit {0}
IsLineOf refusal.Period line text = Unit {0}
IsLineOf refusal.Memory line text = Unit {0}
