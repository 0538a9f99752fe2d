use Rattle.std.proofs.Common.{◌≡◌, ◌++◌, drop}
use Rattle.pal_base.specs.View.{texts}
use Rattle.lint.specs.DeclarationsView.{declared_in}
use Rattle.lint.specs.Does.{found_at_mention, found_at_mentions}
use Rattle.lint.specs.Views.{found_all, mention_of, mentions_seen}
use Rattle.lint.proofs.does.add_at_mentions.Given as goal

abbrev pub invariant-loop-mention : goal.invariant-loop-mention
invariant-loop-mention l = found_all l.findings.items ++ found_at_mentions (declared_in l.declarations) (mentions_seen (texts l.names.keys) (drop l.mention-index l.mentions)) ≡ found_all l.fn.findings.items ++ found_at_mentions (declared_in l.declarations) (mentions_seen (texts l.names.keys) l.mentions)
