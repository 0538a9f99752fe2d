use Rattle.std.proofs.Common.{◌≡◌, ◌++◌, drop}
use Rattle.finding_lines.specs.Views.{owned_path}
use Rattle.finding_lines.proofs.path.copied.Given as goal

abbrev pub invariant-loop-step : goal.invariant-loop-step
invariant-loop-step l = owned_path l.copy.items ++ owned_path (drop l.step-index l.path) ≡ owned_path l.path
