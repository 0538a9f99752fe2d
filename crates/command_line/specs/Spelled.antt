-- The words of the command line, as the library of command lines takes them.
use Rattle.std.specs.Prelude.{◌&&◌, ℕ, Bool, true, not, List, [], ◌∷◌, codes, if◌then◌else◌}
use Rattle.std.specs.Str.{bytes_eq}

-- a word, or the flag that it means
abbrev pub flag_or : Bool → List ℕ → List ℕ
flag_or is_open word = if is_open && bytes_eq word (codes "--explain=json") then codes "--explain-json" else word

-- before a word `--`, and after it
abbrev pub stays_open : Bool → List ℕ → Bool
stays_open is_open word = is_open && not (bytes_eq word (codes "--"))

abbrev pub spelled_from : Bool → List (List ℕ) → List (List ℕ)
spelled_from is_open [] = []
spelled_from is_open (word ∷ words) = flag_or (stays_open is_open word) word ∷ spelled_from (stays_open is_open word) words

-- each `--explain=json` becomes the flag that it means; after a word `--` all words are unchanged
abbrev pub spelled : List (List ℕ) → List (List ℕ)
spelled words = spelled_from true words
