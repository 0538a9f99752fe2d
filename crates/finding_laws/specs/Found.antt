-- Whether something was found.
use Rattle.std.specs.Prelude.{Bool, true, false, List, [], ◌∷◌}
use Rattle.source_findings.specs.What.{Wrong}

abbrev pub has_none : List Wrong → Bool
has_none [] = true
has_none (wrong ∷ wrongs) = false
