use Rattle.std.proofs.Common.{◌≡◌, drop}
use Rattle.std.specs.List.{list_any}
use Rattle.pal_base.specs.View.{texts}
use Rattle.lint.specs.Mentions.{goes_on}
use Rattle.lint.specs.Views.{mentions_seen}
use Rattle.lint.proofs.mentions.goes_on.Given as goal

abbrev pub invariant-loop-mention : goal.invariant-loop-mention
invariant-loop-mention l = list_any goes_on (mentions_seen (texts l.names.keys) l.mentions) ≡ list_any goes_on (mentions_seen (texts l.names.keys) (drop l.mention-index l.mentions))
