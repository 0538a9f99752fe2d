use Rattle.std.proofs.Common.{◌≡◌, ℕ, ◌||◌, List, drop}
use Rattle.std.specs.List.{list_any}
use Rattle.pal_base.specs.View.{texts}
use Rattle.lint.specs.Mentions.{is_mentioned}
use Rattle.lint.specs.Unused.{is_used}
use Rattle.lint.specs.UsedNames.{used_names}
use Rattle.lint.specs.Views.{mentions_seen}
use Rattle.lint.proofs.used.Used.of.Given as goal

abbrev pub invariant-loop-mention : goal.invariant-loop-mention
invariant-loop-mention l =
    (q : List ℕ) → (is_used (used_names l.known) q || list_any (is_mentioned q) (mentions_seen (texts l.names.keys) (drop l.mention-index l.mentions))) ≡ list_any (is_mentioned q) (mentions_seen (texts l.names.keys) l.mentions)
