use Rattle.std.proofs.Common.{◌≡◌, ◌<◌, ℕ, false, Some}
use Rattle.std.specs.Prelude.{slice_get}
use Rattle.trace_lines.specs.declared.part.Part.{Part}
use Rattle.trace_stays.specs.Same.{is_same_partition}
use Rattle.trace_lines.proofs.comparison.Comparison.place_of.Given as goal

-- none so far
abbrev pub invariant-loop-place : goal.invariant-loop-place
invariant-loop-place l = (k : ℕ) (p : Part) → k < l.place → slice_get l.self.parts.items k ≡ Some p → is_same_partition p.partition l.partition ≡ false
