-- Processes with names of their own.
use Rattle.std.specs.Prelude.{◌≡◌, ℕ, List, Some, map, slice_get}
use Rattle.pal_meaning.specs.Program.{Program}

-- no two of these names are the same
abbrev pub HaveOwnNames : List (List ℕ) → Type 0
HaveOwnNames names = (p q : ℕ) (name : List ℕ) → slice_get names p ≡ Some name → slice_get names q ≡ Some name → p ≡ q

-- no two processes of a program have the same name
abbrev pub HasOwnNames : Program → Type 0
HasOwnNames program = HaveOwnNames (map (λ p. p.name) program.processes)
