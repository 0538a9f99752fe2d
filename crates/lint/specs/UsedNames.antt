-- The names that a table holds.
use Rattle.std.specs.Prelude.{ℕ, List, map}
use Rattle.lint.specs.declared.used.Used.{Used}

abbrev pub used_names : Used → List (List ℕ)
used_names u = map (λ text. text.now) u.texts.keys
