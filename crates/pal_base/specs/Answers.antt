-- When a refusal of a source is right.
use Rattle.std.specs.Prelude.{ℕ, List, ◌≡◌, Result, Err}
use Rattle.pal_meaning.specs.Syntax as tree
use Rattle.pal_base.specs.declared.fault.Refusal.{Refusal}
use Rattle.pal_base.specs.declared.fault.Refusal.TheVariants.{Text, Grammar, Name, Kind, Limit, Period, Memory}
use Rattle.pal_meaning.specs.Grammar.{IsProgramOf, IsText}
use Rattle.pal_meaning.specs.Program as resolved
use Rattle.pal_meaning.specs.WellFormed.{Refused, ByName, ByKind, ByLimit, ByPeriod}

-- the condition of each refusal; memory may run out on each source text
abbrev pub IsRefused : Refusal → List ℕ → Type 0
IsRefused Text text = IsText text → ⊥
IsRefused Grammar text = IsText text × ((program : tree.Program) → IsProgramOf text program → ⊥)
IsRefused Memory text = IsText text
IsRefused _ text = ⊥

-- a refusal has the number of the verdict; a refusal for memory says nothing of the verdict
abbrev pub Refuses : Refusal → Result resolved.Program Refused → Type 0
Refuses Name verdict = verdict ≡ Err ByName
Refuses Kind verdict = verdict ≡ Err ByKind
Refuses Limit verdict = verdict ≡ Err ByLimit
Refuses Period verdict = verdict ≡ Err ByPeriod
Refuses Memory verdict = Unit {0}
Refuses _ verdict = ⊥
