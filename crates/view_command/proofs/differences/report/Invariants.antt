use Rattle.std.proofs.Common.{◌≡◌, ◌++◌, drop}
use Rattle.view_command.specs.DifferenceTexts as text
use Rattle.view_command.proofs.differences.report.Given as goal

-- the texts so far, and those of the rest, are all
abbrev pub invariant-loop-difference : goal.invariant-loop-difference
invariant-loop-difference l = l.report.items ++ text.report (drop l.difference-index l.differences) ≡ text.report l.differences
