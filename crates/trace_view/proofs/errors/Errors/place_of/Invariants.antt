use Rattle.std.proofs.Common.{◌≡◌, ◌<◌, ℕ, Some}
use Rattle.std.specs.Prelude.{slice_get}
use Rattle.trace_view.specs.Errors.{IsOf}
use Rattle.trace_view.specs.declared.errors.ErrorTotal.{ErrorTotal}
use Rattle.trace_view.proofs.errors.Errors.place_of.Given as goal

-- none so far
abbrev pub invariant-loop-place : goal.invariant-loop-place
invariant-loop-place l = (k : ℕ) (one : ErrorTotal) → k < l.place → slice_get l.self.totals.items k ≡ Some one → IsOf l.partition l.error l.response one → ⊥
