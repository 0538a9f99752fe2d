-- Whether there is a finding.
use Rattle.std.specs.Prelude.{ℤ, ◌≤◌, Bool, true, false, List, [], ◌∷◌, length, Option, Some, None}
use Rattle.module_meaning.specs.TableRules.{cost_keys}
use Rattle.table_findings.specs.Findings.{Finding}

abbrev pub has_any : List Finding → Bool
has_any [] = false
has_any (finding ∷ findings) = true

-- no more costs than there are keys for them
abbrev pub AreFew : Option (List ℤ) → Type 0
AreFew None = Unit {0}
AreFew (Some numbers) = length numbers ≤ length cost_keys
