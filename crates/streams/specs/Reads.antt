-- The names of the files that were read, in the order of the calls, if they are known.
use Rattle.std.specs.Prelude.{◌≡◌, ℕ, List, [], ◌∷◌, ◌++◌, false, map, Option, Some, None, string_bytes}
use Rattle.std.specs.List.{list_any}
use Rattle.std.specs.Str.{bytes_eq}
use Rattle.streams.specs.declared.read_names.ReadNames.{ReadNames}

abbrev pub Reads : Type 0
Reads = Option (List (List ℕ))

abbrev pub reads_of : ReadNames → List (List ℕ)
reads_of read = map (λ name. string_bytes name) read.names.items

-- a name that was read is remembered
abbrev pub Remembers : List ℕ → Reads → Reads → Type 0
Remembers name None new = Unit {0}
Remembers name (Some old) None = ⊥
Remembers name (Some old) (Some new) = new ≡ old ++ name ∷ []

-- the name is not one that was read
abbrev pub IsUnread : List ℕ → Reads → Type 0
IsUnread name None = Unit {0}
IsUnread name (Some names) = list_any (bytes_eq name) names ≡ false
