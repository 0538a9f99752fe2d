use Rattle.std.proofs.Common.{◌≡◌, ◌<◌, ℕ, Some}
use Rattle.std.specs.Prelude.{slice_get}
use Rattle.trace_view.specs.Traffic.{IsOf}
use Rattle.trace_view.specs.declared.traffic.Passage.{Passage}
use Rattle.trace_view.proofs.traffic.Traffic.place_of.Given as goal

-- none so far
abbrev pub invariant-loop-place : goal.invariant-loop-place
invariant-loop-place l = (k : ℕ) (one : Passage) → k < l.place → slice_get l.self.passages.items k ≡ Some one → IsOf l.partition l.route one → ⊥
