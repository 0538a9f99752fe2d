-- The names that were noted.
use Rattle.std.specs.Prelude.{ℕ, List, map, string_bytes}
use Rattle.streams.specs.declared.names.FailedNames.{FailedNames}

abbrev pub names_of : FailedNames → List (List ℕ)
names_of failed = map (λ name. string_bytes name) failed.names.items
