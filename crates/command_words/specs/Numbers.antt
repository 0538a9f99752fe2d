-- The number in a word.
use Rattle.std.specs.Prelude.{◌≡◌, ◌-◌, ◌^◌, ℕ, List, Option, Some, None, min}
use Rattle.std.specs.Str.Parse.{IsNumeral, digits_value}

-- a number beyond 64 bits becomes the greatest number of 64 bits
abbrev pub number_in : List ℕ → ℕ
number_in word = min (digits_value 10 word) (2 ^ 64 - 1)

-- the number that a word is read as; the word has one digit or more
abbrev pub ReadsNumber : List ℕ → Option ℕ → Type 0
ReadsNumber word None = IsNumeral 10 word → ⊥
ReadsNumber word (Some n) = IsNumeral 10 word × (n ≡ number_in word)
