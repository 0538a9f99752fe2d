use Rattle.std.proofs.Common.{◌≡◌, ℕ, ◌||◌, List, drop}
use Rattle.std.specs.List.{list_any}
use Rattle.pal_base.specs.View.{texts}
use Rattle.lint.specs.Lives.{Start, meets}
use Rattle.lint.specs.Started.{is_started}
use Rattle.lint.specs.Views.{calls_seen}
use Rattle.lint.proofs.starts.Starts.of.Given as goal

abbrev pub invariant-loop-call : goal.invariant-loop-call
invariant-loop-call l =
    (number : ℕ) (name : List ℕ) → (is_started l.starts number name || list_any (meets (Start number name)) (calls_seen (texts l.names.keys) (drop l.call-index l.calls))) ≡ list_any (meets (Start number name)) (calls_seen (texts l.names.keys) l.calls)
