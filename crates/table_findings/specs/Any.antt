-- Whether there is a finding.
use Rattle.std.specs.Prelude.{Bool, true, false, List, [], ◌∷◌}
use Rattle.table_findings.specs.Findings.{Finding}

abbrev pub has_any : List Finding → Bool
has_any [] = false
has_any (finding ∷ findings) = true
