-- Processes whose bodies cost more than their time capacities, each construct counted once.
use Rattle.std.specs.Prelude.{ℕ, nat_lt, Bool, false, List, [], ◌∷◌, Option, Some, None, if◌then◌else◌, flat_map}
use Rattle.apex_types.specs.declared.cost.Costs.{Costs}
use Rattle.pal_meaning.specs.BodyCosts as cost
use Rattle.pal_base.specs.Costs.{comes_to}
use Rattle.pal_base.specs.ProgramView.{body_of}
use Rattle.pal_base.specs.declared.program.Process.{Process}
use Rattle.lint.specs.Views.{Found}
use Rattle.lint.specs.declared.finding.FindingKind.TheVariants as finding

abbrev pub is_above : ℕ → Option ℕ → Bool
is_above ticks None = false
is_above ticks (Some capacity) = nat_lt capacity ticks

abbrev pub slow_process : Costs → Process → List Found
slow_process costs p =
    if is_above (comes_to (cost.costs_of_body costs (body_of p.body))).ticks p.capacity then record { kind = finding.AboveCapacity; subject = p.name } ∷ [] else []

abbrev pub slow_processes : Costs → List Process → List Found
slow_processes costs ps = flat_map (slow_process costs) ps
