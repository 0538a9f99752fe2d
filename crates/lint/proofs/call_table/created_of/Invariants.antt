use Rattle.std.proofs.Common.{◌≡◌, ℕ, ◌||◌, List, drop}
use Rattle.std.specs.List.{list_any}
use Rattle.pal_base.specs.View.{texts}
use Rattle.lint.specs.Lives.{Creation, meets}
use Rattle.lint.specs.Unused.{is_used}
use Rattle.lint.specs.UsedNames.{used_names}
use Rattle.lint.specs.Views.{calls_seen}
use Rattle.lint.proofs.call_table.created_of.Given as goal

abbrev pub invariant-loop-call : goal.invariant-loop-call
invariant-loop-call l =
    (name : List ℕ) → (is_used (used_names l.created) name || list_any (meets (Creation l.kind name)) (calls_seen (texts l.names.keys) (drop l.call-index l.calls))) ≡ list_any (meets (Creation l.kind name)) (calls_seen (texts l.names.keys) l.calls)
